use Rattle.std.proofs.Common.{◌≡◌, map, Some, vec_items}
use Rattle.std.specs.List.{enumerate_from, slice_split}
use Rattle.std.proofs.lemmas.Iterator.{YieldsList}
use Rattle.files.specs.Texts.{Token, ends_line, tokens_of}
use Rattle.files.specs.Views.{numbered}
use Rattle.files.proofs.reader.read.Given as goal

-- the loop runs over the lines of the text, and these are the words of those so far
abbrev pub invariant-loop-index : goal.invariant-loop-index
invariant-loop-index g l =
    YieldsList (goal.iterator-loop-index g).next_gives numbered l.initial.index-iterator (enumerate_from 0 (slice_split ends_line l.text)) ×
    (map Some (vec_items l.words) ≡ map (λ (t : Token). g.W.Word.value t.bytes) (tokens_of (map numbered l.yielded)))
