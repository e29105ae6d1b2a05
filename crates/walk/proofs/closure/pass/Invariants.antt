use Rattle.walk.specs.Closures.{Applied}
use Rattle.walk.proofs.closure.pass.Given as goal

abbrev pub invariant-loop-at : goal.invariant-loop-at
invariant-loop-at g l = Applied (g.R.Rule.asks l.rule) l.at l.initial.set l.set l.grown
