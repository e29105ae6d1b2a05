-- The number that a word writes.
use Rattle.std.specs.Prelude.{ℕ, ◌+◌, ◌*◌, cond, List, [], ◌∷◌, length, Some, None, Option, ◌==◌}
use Rattle.hexadecimal.specs.Hexadecimal.{value_of}
use Rattle.files.specs.declared.fault.Digits.{Digits}
use Rattle.files.specs.declared.fault.Digits.TheVariants.{Four, Eight}

-- how many digits a word has
abbrev pub digit_count : Digits → ℕ
digit_count Four = 4
digit_count Eight = 8

-- the number with one digit more; none where the byte is no digit
abbrev pub with_digit : ℕ → ℕ → Option ℕ
with_digit n c = elim (value_of c) [ Some d ↦ Some (n * 16 + d) | None ↦ None ]

-- the number that digits after the number n write, high digit first; none where a byte is no digit
abbrev pub number_on : ℕ → List ℕ → Option ℕ
number_on n [] = Some n
number_on n (c ∷ cs) = elim (with_digit n c) [ Some m ↦ number_on m cs | None ↦ None ]

-- the number of a word of so many digits; none where the bytes are no such word
abbrev pub word_of : Digits → List ℕ → Option ℕ
word_of digits bs = cond (length bs == digit_count digits) (number_on 0 bs) None
