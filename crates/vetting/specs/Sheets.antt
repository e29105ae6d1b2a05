-- The sheet: words of 32 bits that give main its ranges and the handler its registers.
use Rattle.std.specs.Prelude.{◌≡◌, ℕ, ◌+◌, ◌-◌, ◌/◌, ◌%◌, ◌^◌, ◌<◌, ◌≤◌, Bool, true, false, ◌&&◌, ◌||◌, List, length, Ok, Err, Result, ◌==◌, ◌≢◌, nat_le, nat_lt, slice_index, slice_index_or}
use Rattle.std.specs.List.{list_any}
use Rattle.refusal.specs.declared.refusal.Refusal.{Refusal}
use Rattle.refusal.specs.declared.refusal.Refusal.TheVariants.{ImageSize, SheetEnd, SheetWord, SheetRange, MainWord, MainReturn, MainRegister, HandlerWord, HandlerReturn, HandlerWrite, Depth, Register, Port, Budget, BurnBuffer}
use Rattle.vetting.specs.declared.sheet.Sheet.{Sheet}

-- bits 31 and 30 of a word: 0 a range, 1 handler registers, 2 the end, 3 unknown
abbrev pub kind : ℕ → ℕ
kind w = w / 2 ^ 30

-- a range's first address, in bits 15 to 8
abbrev pub first_of : ℕ → ℕ
first_of w = w / 2 ^ 8 % 2 ^ 8

-- a range's last address, in bits 7 to 0
abbrev pub last_of : ℕ → ℕ
last_of w = w % 2 ^ 8

-- the kind is known, and every bit that must be zero is: 29 to 16 of a range or of registers, 29 to 0 of the end
abbrev pub proper : ℕ → Bool
proper w = (nat_lt (kind w) 2 && nat_lt (w % 2 ^ 30) (2 ^ 16)) || w == 2 ^ 31

-- a range whose first address lies above its last
abbrev pub turned : ℕ → Bool
turned w = kind w == 0 && nat_lt (last_of w) (first_of w)

-- the most words that a sheet has, the end word included
abbrev pub most_words : ℕ
most_words = 64

-- the sheet has a word, not too many, and its last word and no other is an end word
pub record Ended (sheet : List ℕ) : Type 0 where
  pub some : 0 < length sheet
  pub few : length sheet ≤ most_words
  pub last : kind (slice_index sheet (length sheet - 1)) ≡ 2
  pub only : (i : ℕ) → i + 1 < length sheet → kind (slice_index sheet i) ≢ 2

-- a word that is refused neither as such nor for its range
abbrev pub Fine : ℕ → Type 0
Fine w = (proper w ≡ true) × (turned w ≡ false)

-- the words below an index are fine
abbrev pub FineBelow : List ℕ → ℕ → Type 0
FineBelow sheet n = (i : ℕ) → i < n → Fine (slice_index sheet i)

-- the sheet ends, and the word at the index is the first that is not fine
pub record FirstBad (sheet : List ℕ) (i : ℕ) : Type 0 where
  pub ended : Ended sheet
  pub within : i < length sheet
  pub before : FineBelow sheet i

-- the first word that is not fine has an unknown kind or a bit that must be zero
abbrev pub FirstImproper : List ℕ → ℕ → Type 0
FirstImproper sheet i = FirstBad sheet i × (proper (slice_index sheet i) ≡ false)

-- the first word that is not fine is a range whose first address lies above its last
abbrev pub FirstTurned : List ℕ → ℕ → Type 0
FirstTurned sheet i = FirstBad sheet i × (proper (slice_index sheet i) ≡ true) × (turned (slice_index sheet i) ≡ true)

-- a word is a range that holds the address
abbrev pub covers : ℕ → ℕ → Bool
covers a w = kind w == 0 && (nat_le (first_of w) a && nat_le a (last_of w))

-- a word gives the handler the register: bit r of bits 15 to 0
abbrev pub gives : ℕ → ℕ → Bool
gives r w = kind w == 1 && w % 2 ^ 16 / 2 ^ r % 2 == 1

-- the address lies in a range of main's
abbrev pub in_ranges : List ℕ → ℕ → Bool
in_ranges sheet a = list_any (covers a) sheet

-- the register is the handler's
abbrev pub handles : List ℕ → ℕ → Bool
handles sheet r = list_any (gives r) sheet

-- the address lies in a range of the sheet as it was read
abbrev pub guarded : Sheet → ℕ → Bool
guarded s a = slice_index_or s.ranges a false

-- the register is the handler's by the sheet as it was read
abbrev pub handled : Sheet → ℕ → Bool
handled s r = slice_index_or s.handlers r false

-- a sheet as it was read tells the ranges and the registers of its words
pub record ReadFrom (words : List ℕ) (s : Sheet) : Type 0 where
  pub ranges : (a : ℕ) → guarded s a ≡ in_ranges words a
  pub handlers : (r : ℕ) → handled s r ≡ handles words r

-- why a sheet is refused, by the refusal; reading has no others
abbrev pub SheetRefused : List ℕ → Refusal → Type 0
SheetRefused words ImageSize = ⊥
SheetRefused words SheetEnd = Ended words → ⊥
SheetRefused words (SheetWord i) = FirstImproper words i
SheetRefused words (SheetRange i) = FirstTurned words i
SheetRefused words (MainWord a) = ⊥
SheetRefused words (MainReturn a) = ⊥
SheetRefused words (MainRegister a) = ⊥
SheetRefused words (HandlerWord a) = ⊥
SheetRefused words (HandlerReturn a) = ⊥
SheetRefused words (HandlerWrite a) = ⊥
SheetRefused words Depth = ⊥
SheetRefused words Register = ⊥
SheetRefused words Port = ⊥
SheetRefused words Budget = ⊥
SheetRefused words BurnBuffer = ⊥

-- what reading a sheet answers
abbrev pub SheetRead : List ℕ → Result Sheet Refusal → Type 0
SheetRead words (Ok s) = Ended words × FineBelow words (length words) × ReadFrom words s
SheetRead words (Err r) = SheetRefused words r
