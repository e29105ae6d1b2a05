use Rattle.std.proofs.Common.{rules}
use Rattle.vetting.proofs.Flows.{flows_of_words}
use Rattle.vetting.proofs.part.flows_of.Goals as goal

pub returns : goal.returns
returns c = flows_of_words (search rules) c.map.ensures.items (λ word flow p q call. search rules)
