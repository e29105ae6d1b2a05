use Rattle.std.proofs.Common.{refl}
use Rattle.laws.proofs.defined_words.Goals as goal

pub returns-clause-count : goal.returns-clause-count
returns-clause-count c = refl
