-- What a fault says.
use Rattle.std.specs.Prelude.{ℕ, cond, ◌&&◌, List, [], ◌∷◌, ◌++◌, length, take, string_bytes, codes, decimal, nat_le, nat_lt}
use Rattle.std.specs.List.{flat_map}
use Rattle.hexadecimal.specs.Hexadecimal.{two_digits}
use Rattle.files.specs.declared.fault.Digits.{Digits}
use Rattle.files.specs.declared.fault.Digits.TheVariants.{Four, Eight}
use Rattle.files.specs.declared.fault.Fault.{Fault}
use Rattle.files.specs.declared.fault.Fault.TheVariants.{Malformed, HalfWord, Memory}

-- a byte in a message: itself from ' ' to '~', else \x and two digits
abbrev pub shown_byte : ℕ → List ℕ
shown_byte b = cond (nat_le 0x20 b && nat_le b 0x7E) (b ∷ []) (codes "\\x" ++ two_digits b)

-- what stands behind the bytes of a token that are shown
abbrev pub dots : List ℕ → List ℕ
dots bs = cond (nat_lt 24 (length bs)) (codes "...") []

-- a token in a message: its first 24 bytes, and dots where there are more
abbrev pub shown_token : List ℕ → List ℕ
shown_token bs = flat_map shown_byte (take 24 bs) ++ dots bs

-- a number of digits in words
abbrev pub digits_name : Digits → List ℕ
digits_name Four = codes "four"
digits_name Eight = codes "eight"

-- the message of a fault
abbrev pub message : Fault → List ℕ
message (Malformed line digits found) = decimal line ++ (codes ": expected a word of " ++ (digits_name digits ++ (codes " hexadecimal digits, found '" ++ (string_bytes found ++ codes "'"))))
message (HalfWord bytes) = codes "expected whole words of two bytes, found " ++ (decimal bytes ++ codes " bytes")
message Memory = codes "out of memory"
