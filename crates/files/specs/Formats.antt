-- Words as files hold them.
use Rattle.std.specs.Prelude.{◌≡◌, ℕ, ◌/◌, ◌%◌, ◌<◌, List, [], ◌∷◌, ◌++◌, length, Ok, Err, vec_items, Result, Vec}
use Rattle.std.specs.List.{flat_map, AllByRecursion}
use Rattle.hexadecimal.specs.Hexadecimal.{four_digits}
use Rattle.files.specs.declared.fault.Fault.{Fault}
use Rattle.files.specs.declared.fault.Fault.TheVariants.{Malformed, HalfWord, Memory}

-- a word of the sheet as eight digits
abbrev pub eight_digits : ℕ → List ℕ
eight_digits w = four_digits (w / 0x10000) ++ four_digits (w % 0x10000)

-- a word on a line of its own
abbrev pub line_of : (ℕ → List ℕ) → ℕ → List ℕ
line_of digits w = digits w ++ 10 ∷ []

-- the bytes of a word, high byte first
abbrev pub big_endian : ℕ → List ℕ
big_endian w = (w / 0x100) ∷ (w % 0x100) ∷ []

-- these words, unless memory fails
abbrev pub Gives : {Z : Type 0} → List ℕ → Result (Vec ℕ Z) Fault → Type 0
Gives ws (Ok v) = vec_items v ≡ ws
Gives ws (Err f) = f ≡ Memory

-- a file that was written from words below the limit, one after another in this form, gives these words
abbrev pub ReadBack : {Z : Type 0} → ℕ → (ℕ → List ℕ) → List ℕ → Result (Vec ℕ Z) Fault → Type 0
ReadBack limit form bytes r = (ws : List ℕ) → AllByRecursion (λ w. w < limit) ws → bytes ≡ flat_map form ws → Gives ws r

-- the words whose bytes the file joins, or the fault of a file that ends within a word
abbrev pub Joins : {Z : Type 0} → List ℕ → Result (Vec ℕ Z) Fault → Type 0
Joins bytes (Ok v) = flat_map big_endian (vec_items v) ≡ bytes
Joins bytes (Err (Malformed line digits found)) = ⊥
Joins bytes (Err (HalfWord n)) = (n ≡ length bytes) × (n % 2 ≡ 1)
Joins bytes (Err Memory) = Unit {0}
