use Rattle.std.proofs.Common.{arith}
use Rattle.walk.proofs.Closures.{applied_none, applied_more}
use Rattle.walk.proofs.closure.pass.Goals as goal

pub loop-at-init : goal.loop-at-init
loop-at-init g c = applied_none

pub loop-at-preserved : goal.loop-at-preserved
loop-at-preserved g c = applied_more (omega arith) c.loop-at.invariant c.apply-grown.ensures

pub returns-2 : goal.returns-2
returns-2 g c = applied_more (omega arith) c.loop-at.invariant c.apply-grown.ensures
