use Rattle.std.proofs.Common.{◌≡◌, ◌++◌, map, Some, vec_items}
use Rattle.std.proofs.lemmas.Iterator.{YieldsList}
use Rattle.files.specs.Texts.{Token, token_at, line_pieces}
use Rattle.files.specs.Views.{seen}
use Rattle.files.proofs.reader.add_line.Given as goal

-- the loop runs over the pieces of the line, and the words of those so far are added
abbrev pub invariant-loop-bytes : goal.invariant-loop-bytes
invariant-loop-bytes g l =
    YieldsList (goal.iterator-loop-bytes g).next_gives seen l.initial.bytes-iterator (line_pieces l.text) ×
    (map Some (vec_items l.words) ≡ map Some (vec_items l.initial.words) ++ map (λ (t : Token). g.W.Word.value t.bytes) (map (token_at l.line) (map seen l.yielded)))
