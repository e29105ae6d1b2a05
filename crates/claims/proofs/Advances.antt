-- An advance that is told by its steps is the call's.
use Rattle.std.proofs.Common.{◌≡◌, ℕ, zero, suc, ◌<◌, ◌≤◌, Bool, true, false, cond, ◌⊎◌, sym, refl, ap, ◌∙◌, inl, inr, arith, le-leb}
use borrow.Author.Tests.{lt-leb}
use Rattle.bus.specs.Meaning.{Meaning}
use Rattle.machine.specs.Instructions.{Station}
use Rattle.machine.specs.Steps.{stepped}
use Rattle.vetting.specs.Programs.{Program}
use Rattle.claims.specs.Moments.{steps}
use Rattle.claims.specs.Calls.{advance, Session, most_steps, made, advance_steps, after_call, Advanced}

module _ (p : Program) {S : Type 0} (m : Meaning S) where
  -- the first of some steps may be made before the others
  first_step : (k : ℕ) (st : Station S) → steps p m (suc k) st ≡ steps p m k (stepped m p.image st).station
  first_step zero st = refl
  first_step (suc k) st = ap (λ (x : Station S). (stepped m p.image x).station) (first_step k st)

  made_so : (budget : ℕ) (marks : ℕ → Bool) (st : Station S) (k : ℕ) → ((j : ℕ) → j < k → marks (steps p m j st).processor.pc ≡ false) →
      (k ≡ budget) ⊎ ((k < budget) × (marks (steps p m k st).processor.pc ≡ true)) → k ≡ made p m budget marks st
  unfolding made
  made_so zero marks st k unmarked (inl e) = e
  made_so zero marks st k unmarked (inr h) = let less = h.0 in omega arith
  made_so (suc n) marks st zero unmarked (inl e) = omega arith
  made_so (suc n) marks st zero unmarked (inr h) = sym (ap (λ (b : Bool). cond b 0 (suc (made p m n marks (stepped m p.image st).station))) h.1)
  made_so (suc n) marks st (suc k) unmarked why =
      ap suc (made_so n marks (stepped m p.image st).station k later (reason why))
      ∙ sym (ap (λ (b : Bool). cond b 0 (suc (made p m n marks (stepped m p.image st).station))) (unmarked 0 (omega arith)))
    where
      later : (j : ℕ) → j < k → marks (steps p m j (stepped m p.image st).station).processor.pc ≡ false
      later j below = ap (λ (x : Station S). marks x.processor.pc) (sym (first_step j st)) ∙ unmarked (suc j) (omega arith)

      reason : (suc k ≡ suc n) ⊎ ((suc k < suc n) × (marks (steps p m (suc k) st).processor.pc ≡ true)) →
          (k ≡ n) ⊎ ((k < n) × (marks (steps p m k (stepped m p.image st).station).processor.pc ≡ true))
      reason (inl e) = inl (omega arith)
      reason (inr h) = let less = h.0 in inr (omega arith, ap (λ (x : Station S). marks x.processor.pc) (sym (first_step k st)) ∙ h.1)

  -- an advance whose budget is allowed makes the steps that are told
  pub advanced_steps : (budget : ℕ) (x : Session S) (after : Station S) (k : ℕ) (at_mark : Bool) → budget ≤ most_steps → Advanced p m budget x.marks x.station after k at_mark →
      k ≡ advance_steps p m budget x
  advanced_steps budget x after k at_mark few told =
      made_so budget x.marks x.station k told.unmarked (reason told.why)
      ∙ sym (ap (λ (b : Bool). cond b (made p m budget x.marks x.station) 0) (le-leb budget most_steps few))
    where
      reason : ((k ≡ budget) × (at_mark ≡ false)) ⊎ ((k < budget) × (x.marks after.processor.pc ≡ true) × (at_mark ≡ true)) →
          (k ≡ budget) ⊎ ((k < budget) × (x.marks (steps p m k x.station).processor.pc ≡ true))
      reason (inl h) = inl h.0
      reason (inr h) = inr (h.0, ap (λ (y : Station S). x.marks y.processor.pc) (sym told.end) ∙ h.1)

  -- and leaves what the call leaves
  pub advanced_call : (budget : ℕ) (x : Session S) (after : Station S) (k : ℕ) (at_mark : Bool) → budget ≤ most_steps → Advanced p m budget x.marks x.station after k at_mark →
      record { station = after; marks = x.marks } ≡ after_call p m (advance budget) x
  advanced_call budget x after k at_mark few told =
      ap (λ (st : Station S). record { station = st; marks = x.marks })
      (told.end ∙ ap (λ (n : ℕ). steps p m n x.station) (advanced_steps budget x after k at_mark few told))

  -- a refused advance makes no step
  pub refused_steps : (budget : ℕ) (x : Session S) → most_steps < budget → advance_steps p m budget x ≡ 0
  refused_steps budget x many = ap (λ (b : Bool). cond b (made p m budget x.marks x.station) 0) (lt-leb budget most_steps many)

  -- and leaves the station as it was
  pub refused_advance : (budget : ℕ) (x : Session S) → most_steps < budget → x ≡ after_call p m (advance budget) x
  refused_advance budget x many = sym (ap (λ (n : ℕ). record { station = steps p m n x.station; marks = x.marks }) (refused_steps budget x many))
