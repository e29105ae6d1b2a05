-- What is written, with the lines that are left, is the whole.
use Rattle.std.proofs.Common.{◌≡◌, ◌++◌, drop, string_bytes}
use Rattle.listing.specs.Lines.{lines_from}
use Rattle.listing.proofs.text.write_lines.Given as goal

abbrev pub invariant-loop-at : goal.invariant-loop-at
invariant-loop-at l = string_bytes l.text ++ lines_from l.at (drop l.at l.words) ≡ string_bytes l.initial.text ++ lines_from 0 l.words
