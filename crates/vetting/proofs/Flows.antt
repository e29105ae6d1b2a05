-- The flows of an image's words.
use Rattle.std.proofs.Common.{◌≡◌, ℕ, List, map, length, None, sym, ap, ◌∙◌, inl, inr, arith}
use mathlib.Core.Path.{fun_ext}
use denote.Param.Members.{Mut, Called}
use lib.ListN.{length-map}
use Rattle.std.specs.Array.{IsMapOf}
use Rattle.std.proofs.lemmas.List.{get_or-map, get_or_past}
use Rattle.std.proofs.lemmas.Bool.{cases_lt}
use Rattle.isa.specs.Words.{decoded}
use Rattle.isa.specs.Images.{instruction_in}
use Rattle.walk.specs.declared.flow.Flow.{Flow}
use Rattle.walk.specs.declared.flow.Flow.TheVariants.{Nowhere}
use Rattle.walk.specs.Walk.{graph}
use Rattle.vetting.specs.Programs.{flow_of}
use Rattle.vetting.specs.Parts.{leads_of}

-- the flow of each word of an image is that of the instruction at its address, and past the image too
pub flows_of_words : {F : Type 0} {g : Mut F (ℕ × Unit {0}) Flow} {f : F} {image : List ℕ} {flows : List Flow} {n : ℕ} → length image ≡ n → IsMapOf g f image flows n →
    ((word : ℕ) (flow : Flow) (p q : F) → Called g p (word, tt) flow q → flow ≡ flow_of (decoded word)) → graph flows ≡ leads_of image
flows_of_words {image = image} {flows = flows} {n = n} long mapped each = fun_ext at
  where
    at : (a : ℕ) → graph flows a ≡ leads_of image a
    at a =
        elim (cases_lt a n) [
          | inl lt ↦
              let call = mapped.at a 0 Nowhere lt in
              each _ _ call.0 call.1 call.2 ∙ ap flow_of (sym (get_or-map decoded image a 0 None (omega arith)))
          | inr ge ↦
              let none : instruction_in image a ≡ None = get_or_past (map decoded image) a None (simp length-map (omega arith)) in
              get_or_past flows a Nowhere (omega (arith, mapped.long)) ∙ sym (ap flow_of none)
        ]
