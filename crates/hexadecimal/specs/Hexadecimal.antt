-- Hexadecimal digits and the text that they make.
use Rattle.std.specs.Prelude.{ℕ, ◌+◌, ◌-◌, ◌/◌, ◌%◌, cond, ◌&&◌, List, [], ◌∷◌, ◌++◌, Some, None, Option, nat_le, nat_lt}

-- the character of a digit: '0' to '9', then 'A' to 'F'
abbrev pub digit_of : ℕ → ℕ
digit_of n = cond (nat_lt n 10) (48 + n) (55 + n)

-- the digit that a character stands for, in either case
abbrev pub value_of : ℕ → Option ℕ
value_of c =
    cond (nat_le 48 c && nat_le c 57) (Some (c - 48))
    (cond (nat_le 65 c && nat_le c 70) (Some (c - 55))
    (cond (nat_le 97 c && nat_le c 102) (Some (c - 87)) None))

-- the low four bits of a number as one digit
abbrev pub one_digit : ℕ → List ℕ
one_digit n = digit_of (n % 0x10) ∷ []

-- a byte as two digits
abbrev pub two_digits : ℕ → List ℕ
two_digits b = one_digit (b / 0x10) ++ one_digit b

-- a word as four digits
abbrev pub four_digits : ℕ → List ℕ
four_digits w = two_digits (w / 0x100) ++ two_digits (w % 0x100)
