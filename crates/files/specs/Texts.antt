-- The tokens of a text.
use Rattle.std.specs.Prelude.{ℕ, ◌+◌, Bool, cond, not, ◌&&◌, ◌||◌, List, [], ◌∷◌, map, filter, length, ◌==◌, slice_index}
use Rattle.std.specs.List.{flat_map, enumerate_from, slice_split}

-- a line ends with a line feed
abbrev pub ends_line : ℕ → Bool
ends_line b = b == 10

-- a space, a tab and a carriage return are blanks
abbrev pub is_blank : ℕ → Bool
is_blank b = b == 32 || b == 9 || b == 13

-- whether a piece of a line has a byte, and so is a token
abbrev pub is_filled : List ℕ → Bool
is_filled bs = not (length bs == 0)

-- whether a comment begins here
abbrev pub slashes : List ℕ → Bool
slashes bs = slice_index bs 0 == 47 && slice_index bs 1 == 47

-- a line without its comment
abbrev pub uncommented : List ℕ → List ℕ
uncommented [] = []
uncommented (b ∷ bs) = cond (slashes (b ∷ bs)) [] (b ∷ uncommented bs)

-- a token: its line and its bytes
pub record Token : Type 0 where
  pub line : ℕ
  pub bytes : List ℕ

-- the token with these bytes on this line
abbrev pub token_at : ℕ → List ℕ → Token
token_at n bs = record { line = n; bytes = bs }

-- the pieces of a line that are tokens: what blanks part before the comment
abbrev pub line_pieces : List ℕ → List (List ℕ)
line_pieces l = filter is_filled (slice_split is_blank (uncommented l))

-- the tokens of the line with this number
abbrev pub line_tokens : ℕ → List ℕ → List Token
line_tokens n l = map (token_at n) (line_pieces l)

-- the tokens of lines with their indices, which count from 0
abbrev pub tokens_of : List (ℕ × List ℕ) → List Token
tokens_of ls = flat_map (λ l. line_tokens (l.0 + 1) l.1) ls

-- the tokens of a text, whose lines count from 1
abbrev pub tokens : List ℕ → List Token
tokens text = tokens_of (enumerate_from 0 (slice_split ends_line text))
