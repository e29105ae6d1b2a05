-- The words of a sheet, one by one: what each says, and what it adds to the sheet.
use Rattle.std.specs.Prelude.{◌≡◌, ℕ, ◌/◌, ◌%◌, ◌^◌, Bool, true, false, ◌&&◌, ◌||◌, Ok, Err, Result, ◌==◌, nat_le}
use Rattle.refusal.specs.declared.refusal.Refusal.{Refusal}
use Rattle.refusal.specs.declared.refusal.Refusal.TheVariants.{SheetWord as sheet_word, SheetRange as sheet_range}
use Rattle.vetting.specs.declared.sheet.Sheet.{Sheet}
use Rattle.vetting.specs.declared.sheet_word.AddressRange.{AddressRange}
use Rattle.vetting.specs.declared.sheet_word.SheetWord.{SheetWord}
use Rattle.vetting.specs.declared.sheet_word.SheetWord.TheVariants.{Range, Registers, End}
use Rattle.vetting.specs.declared.sheet_word.WordError.{WordError}
use Rattle.vetting.specs.declared.sheet_word.WordError.TheVariants.{Form, Range as Turned}
use Rattle.vetting.specs.Sheets.{Fine, proper, turned, covers, gives, guarded, handled}

-- the address is in the range
abbrev pub is_in : AddressRange → ℕ → Bool
is_in range a = nat_le range.first a && nat_le a range.last

-- a word says a range that holds the address
abbrev pub says_address : SheetWord → ℕ → Bool
says_address (Range range) a = is_in range a
says_address (Registers bits) a = false
says_address End a = false

-- the bit of a register is set
abbrev pub is_set : ℕ → ℕ → Bool
is_set bits r = bits / 2 ^ r % 2 == 1

-- a word says the register
abbrev pub says_register : SheetWord → ℕ → Bool
says_register (Range range) r = false
says_register (Registers bits) r = is_set bits r
says_register End r = false

-- a word was read as its bits say
pub record ReadAs (w : ℕ) (s : SheetWord) : Type 0 where
  pub fine : Fine w
  pub addresses : (a : ℕ) → says_address s a ≡ covers a w
  pub registers : (r : ℕ) → says_register s r ≡ gives r w

-- what reading a word answers
abbrev pub WordRead : ℕ → Result SheetWord WordError → Type 0
WordRead w (Ok s) = ReadAs w s
WordRead w (Err Form) = proper w ≡ false
WordRead w (Err Turned) = (proper w ≡ true) × (turned w ≡ true)

-- the refusal of a sheet for its word at an index
abbrev pub word_refusal : WordError → ℕ → Refusal
word_refusal Form i = sheet_word i
word_refusal Turned i = sheet_range i

-- s became t as what a word says was added
pub record Added (s : Sheet) (word : SheetWord) (t : Sheet) : Type 0 where
  pub ranges : (a : ℕ) → guarded t a ≡ (guarded s a || says_address word a)
  pub handlers : (r : ℕ) → handled t r ≡ (handled s r || says_register word r)
