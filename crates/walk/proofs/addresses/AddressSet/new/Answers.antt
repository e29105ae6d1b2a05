use Rattle.std.proofs.Common.{false, replicate, sym, ◌∙◌, inl, inr}
use Rattle.std.proofs.lemmas.Bool.{false≢true, cases_lt}
use Rattle.std.proofs.lemmas.List.{get_or_past, get_or-replicate}
use Rattle.walk.proofs.addresses.AddressSet.new.Goals as goal

pub returns : goal.returns
returns c a h =
    elim (cases_lt a 256) [
      | inl lt ↦ false≢true (sym (get_or-replicate 256 a false false lt) ∙ h)
      | inr ge ↦ false≢true (sym (get_or_past (replicate 256 false) a false ge) ∙ h)
    ]
