use Rattle.std.proofs.Common.{ℕ}
use Rattle.walk.specs.Sets.{Has, absent}
use Rattle.walk.specs.Closures.{Derived}
use Rattle.walk.proofs.closure.close.Given as goal

abbrev pub invariant-loop : goal.invariant-loop
invariant-loop g l = record {
  keeps : (a : ℕ) → Has l.initial.set a → Has l.set a;
  just : (a : ℕ) → Has l.set a → Derived (g.R.Rule.asks l.rule) l.initial.set a;
}

abbrev pub decreases-loop : goal.decreases-loop
decreases-loop g l = absent l.set
