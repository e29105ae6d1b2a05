use Rattle.std.proofs.Common.{◌+◌}
use Rattle.vetting.specs.Parts.{UnbrokenBelow}
use Rattle.vetting.proofs.part.Part.judge.Given as goal

abbrev pub invariant-loop-rule : goal.invariant-loop-rule
invariant-loop-rule g l = UnbrokenBelow l.self (g.R.Rulebook.breaks l.book) (l.rule-index + 5)
