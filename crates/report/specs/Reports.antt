-- The report on a vetted image: its lines, and the text that they make.
use Rattle.std.specs.Prelude.{ℕ, cond, List, [], ◌∷◌, ◌++◌, length, Some, None, Ok, Err, codes, decimal, Option, Result, nat_lt, slice_index}
use Rattle.listing.specs.Lines.{line_of}
use Rattle.listing.specs.declared.line.Line.{Line}
use Rattle.refusal.specs.Refusals.{address_of, refusal_text}
use Rattle.refusal.specs.declared.refusal.Refusal.{Refusal}
use Rattle.vetting.specs.declared.depths.Depths.{Depths}

-- lines as text, each with its line feed
abbrev pub ended_lines : List (List ℕ) → List ℕ
ended_lines [] = []
ended_lines (line ∷ lines) = line ++ (10 ∷ ended_lines lines)

-- the word of an image at an address, as a line of the listing; none past the image
abbrev pub line_at : List ℕ → ℕ → Option Line
line_at image at = cond (nat_lt at (length image)) (Some (record { at = at; word = slice_index image at })) None

-- the line of the listing that a refusal points at, if it does
abbrev pub pointed_line : List ℕ → Refusal → Option Line
pointed_line image r = elim (address_of r) [ Some at ↦ line_at image at | None ↦ None ]

-- the lines on an accepted image: its depths in decimal
abbrev pub accepted_lines : Depths → List (List ℕ)
accepted_lines d =
    codes "accepted"
    ∷ (codes "main " ++ decimal d.main)
    ∷ (codes "handler " ++ decimal d.handler)
    ∷ (codes "total " ++ decimal d.total)
    ∷ []

-- the lines on a refused image: the refusal, and the line that it points at
abbrev pub refused_lines : Refusal → Option Line → List (List ℕ)
refused_lines r (Some l) = refusal_text r ∷ line_of l.at l.word ∷ []
refused_lines r None = refusal_text r ∷ []

-- the report on an image that vetting answered so
abbrev pub report_of : List ℕ → Result Depths Refusal → List ℕ
report_of image (Ok depths) = ended_lines (accepted_lines depths)
report_of image (Err r) = ended_lines (refused_lines r (pointed_line image r))
