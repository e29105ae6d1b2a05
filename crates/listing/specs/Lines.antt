-- The text that lists an image: a line for each address, and one for the run of equal words at the end.
use Rattle.std.specs.Prelude.{◌≡◌, ℕ, ◌+◌, ◌<◌, ◌≤◌, Bool, true, cond, ◌&&◌, ◌≢◌, List, [], ◌∷◌, ◌++◌, length, take, Some, None, codes, ◌==◌, nat_lt, slice_index}
use Rattle.hexadecimal.specs.Hexadecimal.{two_digits, four_digits}
use Rattle.isa.specs.Assembly.{with_space, text_of}
use Rattle.isa.specs.Words.{decoded}

-- a word as text: its instruction, or ? where it is undefined
abbrev pub word_text : ℕ → List ℕ
word_text w = elim (decoded w) [ Some i ↦ text_of i | None ↦ codes "?" ]

-- a word and its text
abbrev pub contents_text : ℕ → List ℕ
contents_text w = with_space (four_digits w) (word_text w)

-- a place in the image, the word that stands there, and its text
abbrev pub placed : List ℕ → ℕ → List ℕ
placed place w = with_space place (contents_text w)

-- the line of one word
abbrev pub line_of : ℕ → ℕ → List ℕ
line_of at w = placed (two_digits at) w

-- the line of a run of equal words from an address to the last one
abbrev pub run_line_of : ℕ → ℕ → List ℕ
run_line_of start w = placed (two_digits start ++ codes "..FF") w

-- a line with its line feed
abbrev pub ended : List ℕ → List ℕ
ended line = line ++ (10 ∷ [])

-- the lines of words that stand from an address on
abbrev pub lines_from : ℕ → List ℕ → List ℕ
lines_from at [] = []
lines_from at (w ∷ ws) = ended (line_of at w) ++ lines_from (at + 1) ws

-- each of these words is w
abbrev pub all_are : ℕ → List ℕ → Bool
all_are w [] = true
all_are w (v ∷ vs) = v == w && all_are w vs

-- the first address from which on all words are equal
abbrev pub run_start : List ℕ → ℕ
run_start [] = 0
run_start (w ∷ ws) = cond (all_are w ws) 0 (run_start ws + 1)

-- the last line: of a run if it has two words or more, else of the last word
abbrev pub last_line : ℕ → ℕ → List ℕ
last_line start w = cond (nat_lt start 0xFF) (run_line_of start w) (line_of start w)

-- the listing of an image: the words before the run at its end, and then the run
abbrev pub listing_of : List ℕ → List ℕ
listing_of image = lines_from 0 (take (run_start image) image) ++ ended (last_line (run_start image) (slice_index image (run_start image)))

-- all words from start on are equal, and the word before them is another
pub record LastRun (image : List ℕ) (start : ℕ) : Type 0 where
  pub inside : start < length image
  pub equal : (k : ℕ) → start ≤ k → k < length image → slice_index image k ≡ slice_index image start
  pub longest : (k : ℕ) → k + 1 ≡ start → slice_index image k ≢ slice_index image start

-- how many lines a text has: its line feeds
abbrev pub line_count : List ℕ → ℕ
line_count [] = 0
line_count (c ∷ cs) = cond (c == 10) (line_count cs + 1) (line_count cs)

-- the text lists an image of 256 words: each address before the last run has a line, and the run has one
pub record Lists (image text : List ℕ) : Type 0 where
  pub size : length image ≡ 256
  pub whole : text ≡ listing_of image
  pub run : LastRun image (run_start image)
  pub lines : line_count text ≡ run_start image + 1
