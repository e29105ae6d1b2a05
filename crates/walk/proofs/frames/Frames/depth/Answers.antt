use Rattle.std.proofs.Common.{rules, refl, arith}
use Rattle.walk.proofs.Walks.{found, past_limit}
use Rattle.walk.proofs.frames.Frames.depth.Goals as goal

pub loop-depth-init : goal.loop-depth-init
loop-depth-init c = record { level = c.of-level.ensures; some = (c.args.start, (c.of-level.ensures c.args.start).1 refl) }

pub returns-then-is_empty : goal.returns-then-is_empty
returns-then-is_empty c =
    let inv = c.loop-depth.invariant in
    found _ _ _ _ _ _ _ _ c.requires inv.level c.close.ensures (search rules) c.entered-level.ensures inv.some (c.if-is_empty.ensures.yes refl) (omega arith)

pub returns-else-is_empty : goal.returns-else-is_empty
returns-else-is_empty c =
    past_limit _ _ _ _ _ _ _ _ c.requires c.loop-depth.invariant.level c.close.ensures (search rules) c.entered-level.ensures (c.if-is_empty.ensures.not refl) (omega arith)
