-- The first bytes, and what stands behind them.
use Rattle.std.proofs.Common.{◌++◌, take, None, refl, ap, ◌∙◌}
use Rattle.std.specs.List.{flat_map}
use Rattle.std.proofs.lemmas.Grind.{put_two}
use Rattle.std.proofs.lemmas.Iterator.{YieldsList, YieldsList-from_slice, YieldsList-from_take}
use Rattle.std.proofs.lemmas.Iterator.Consumers.{YieldsList-at, YieldsList-end}
use Rattle.files.specs.Wording.{shown_byte}
use Rattle.files.proofs.shown.ShownDisplay.fmt.Given as given
use Rattle.files.proofs.shown.ShownDisplay.fmt.Goals as goal

pub returns-clause-writes : goal.returns-clause-writes
returns-clause-writes g c plain ok =
    let bytes = c.args.self.now.0.now in
    let road : YieldsList (given.iterator-loop-byte g).next_gives (λ b. b.now) c.into_iter-byte-iterator.result (take 24 bytes) =
    YieldsList-at c.into_iter-byte-iterator.ensures.into_iter_gives (YieldsList-from_take 24 (YieldsList-at c.take-byte-items.ensures.source (YieldsList-from_slice bytes c.iter.ensures.rest)) c.take-byte-items.ensures.count) in
    let end = YieldsList-end road _ _ c.loop-byte.yielded_by None c.next.new.self refl c.in-None.ensures.steps in
    let front = c.loop-byte.invariant.2 plain in
    put_two _ _ _ _ _ _ _ front (c.write_str.ensures.writes front.plain ok) (ap (λ l. flat_map shown_byte l ++ c.dots.result.now) end.0 ∙ ap (λ l. flat_map shown_byte (take 24 bytes) ++ l) c.dots.ensures)
