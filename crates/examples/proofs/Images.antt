-- The three images. In each of them main reaches address 0 only.
use Rattle.std.proofs.Common.{◌≡◌, ℕ, zero, suc, ◌<◌, Bool, true, false, List, [], ◌∷◌, length, Ok, Err, Result, sym, refl, ap, ◌∙◌, subst, inl, inr, zero-le, arith}
use mathlib.Core.Bool.{false≢true}
use Rattle.refusal.specs.declared.refusal.Refusal.{Refusal}
use Rattle.refusal.specs.declared.refusal.Refusal.TheVariants.{MainReturn as main_return, Depth}
use Rattle.refusal.specs.Refusals.{number_of, place_of}
use Rattle.walk.specs.Walk.{Leads, Reaches}
use Rattle.vetting.specs.declared.depths.Depths.{Depths}
use Rattle.vetting.specs.declared.rules.Rule.{Rule}
use Rattle.vetting.specs.declared.rules.Rule.TheVariants.{MainReturn}
use Rattle.vetting.specs.Sheets.{Ended, FineBelow}
use Rattle.vetting.specs.Programs.{Program, graph_of, instruction_at, enables}
use Rattle.vetting.specs.Verdicts.{Breaks, Counted, Broken, InOrder, Refused, Answered, program_of, main_test, is_filled, rule_number, reset}
use Rattle.vetting.proofs.Unique.{one_answer}
use Rattle.examples.specs.Worked.{with_first, lone_end, no_depth, SoleAnswer, WorkedExamples, WorkedAnswer}
use Rattle.examples.proofs.Words.{load, add, store, rotate, undefined}

ended : Ended lone_end
ended = record {
  some = omega arith;
  few = omega arith;
  last = refl;
  only = λ i lt e. let no : ⊥ = omega arith in no;
}

fine : FineBelow lone_end 1
fine zero lt = (refl, refl)
fine (suc i) lt = absurd (let no : ⊥ = omega arith in no)

in_order : (w : ℕ) → InOrder (with_first w) lone_end
in_order w = record { size = refl; ended = ended; fine = fine }

abbrev p : ℕ → Program
p w = program_of (with_first w) lone_end

-- main reaches address 0 only
abbrev Stays : ℕ → Type 0
Stays w = (a : ℕ) (l : List ℕ) → Reaches (graph_of (p w)) reset a l → a ≡ 0

module _ (w : ℕ) (stays : Stays w) where
  -- what is broken at all is broken at 0, and by main
  at_zero : (test : ℕ → Bool → Bool) (a : ℕ) → Breaks (graph_of (p w)) reset test a → (l : List ℕ) × (test 0 (is_filled l) ≡ true)
  at_zero test a b = (b.0, rw (stays a b.0 b.1) at b.2)

  not_counted : enables (instruction_at (p w) 0) ≡ false → Counted (p w) → ⊥
  not_counted off c = false≢true (sym off ∙ (at_zero (λ b _. enables (instruction_at (p w) b)) c.0 c.1).1)

  unbroken : enables (instruction_at (p w) 0) ≡ false → (rule : Rule) → ((filled : Bool) → main_test (p w) rule 0 filled ≡ false) → (a : ℕ) → Broken (p w) rule a → ⊥
  unbroken off rule none a (inl b) = let h = at_zero (main_test (p w) rule) a b in false≢true (sym (none (is_filled h.0)) ∙ h.1)
  unbroken off rule none a (inr b) = not_counted off b.0

-- 256 jumps to 0
jump_stays : {a : ℕ} {l : List ℕ} → Reaches (graph_of (p 0xB000)) reset a l → (a ≡ 0) × (l ≡ [])
jump_stays Reaches.begin = (refl, refl)
jump_stays (Reaches.on w (Leads.goes g)) = let h = jump_stays w in (rw h.0 at g, h.1)
jump_stays (Reaches.on w (Leads.calls e)) = cc (rw (jump_stays w).0 at e)
jump_stays (Reaches.on w (Leads.returns e)) = cc (rw (jump_stays w).0 at e)

jump_rules : (rule : Rule) (filled : Bool) → main_test (p 0xB000) rule 0 filled ≡ false
jump_rules rule filled = grind arith

-- a return first
return_stays : {a : ℕ} {l : List ℕ} → Reaches (graph_of (p 0xBA00)) reset a l → (a ≡ 0) × (l ≡ [])
return_stays Reaches.begin = (refl, refl)
return_stays (Reaches.on w (Leads.goes g)) = absurd (rw (return_stays w).0 at g)
return_stays (Reaches.on w (Leads.calls e)) = cc (rw (return_stays w).0 at e)
return_stays (Reaches.on {l = r ∷ l} w (Leads.returns e)) = cc (return_stays w).1

-- a call of 0 first
call_stays : {a : ℕ} {l : List ℕ} → Reaches (graph_of (p 0xB900)) reset a l → a ≡ 0
call_stays Reaches.begin = refl
call_stays (Reaches.on w (Leads.goes g)) = absurd (rw (call_stays w) at g)
call_stays (Reaches.on w (Leads.calls e)) = cc (rw (call_stays w) at e)
call_stays (Reaches.on w (Leads.returns e)) = cc (rw (call_stays w) at e)

call_rules : (rule : Rule) (filled : Bool) → main_test (p 0xB900) rule 0 filled ≡ false
call_rules rule filled = grind arith

deeper : (k : ℕ) → (l : List ℕ) × (length l ≡ k) × Reaches (graph_of (p 0xB900)) reset 0 l
deeper zero = ([], refl, Reaches.begin)
deeper (suc k) = let w = deeper k in (1 ∷ w.0, ap suc w.1, Reaches.on w.2 (Leads.calls refl))

pub jumps : SoleAnswer (with_first 0xB000) (Ok no_depth)
jumps = record { fits = fits; sole = sole }
  where
    fits : Answered (with_first 0xB000) lone_end (Ok no_depth)
    fits = (
      in_order 0xB000,
      record {
        rules = λ rule. unbroken 0xB000 (λ a l r. (jump_stays r).0) refl rule (jump_rules rule);
        main = record { found = (0, [], Reaches.begin, refl); most = λ a l r. rw (jump_stays r).1 zero-le };
        handler = inl (not_counted 0xB000 (λ a l r. (jump_stays r).0) refl, refl, refl);
        fits = zero-le;
      },
    )

    sole : (other : Result Depths Refusal) → Answered (with_first 0xB000) lone_end other → other ≡ Ok no_depth
    sole (Ok d) x = ap (λ (e : Depths). Ok e) (one_answer (with_first 0xB000) lone_end (Ok d) (Ok no_depth) x fits)
    sole (Err r) x = absurd (one_answer (with_first 0xB000) lone_end (Err r) (Ok no_depth) x fits)

pub call_first : SoleAnswer (with_first 0xB900) (Err Depth)
call_first = record { fits = fits; sole = sole }
  where
    fits : Answered (with_first 0xB900) lone_end (Err Depth)
    fits = (
      in_order 0xB900,
      λ rule. unbroken 0xB900 (λ a l r. call_stays r) refl rule (call_rules rule),
      inl (let w = deeper 17 in (0, w.0, w.2, omega (arith, w.1))),
    )

    only_depth : (r : Refusal) → number_of r ≡ 11 → r ≡ Depth
    only_depth r e = grind arith

    sole : (other : Result Depths Refusal) → Answered (with_first 0xB900) lone_end other → other ≡ Err Depth
    sole (Ok d) x = absurd (one_answer (with_first 0xB900) lone_end (Ok d) (Err Depth) x fits)
    sole (Err r) x = ap (λ (s : Refusal). Err s) (only_depth r (one_answer (with_first 0xB900) lone_end (Err r) (Err Depth) x fits).0)

pub return_first : SoleAnswer (with_first 0xBA00) (Err (main_return 0))
return_first = record { fits = fits; sole = sole }
  where
    fits : Answered (with_first 0xBA00) lone_end (Err (main_return 0))
    fits = (
      in_order 0xBA00,
      record {
        broken = inl ([], Reaches.begin, refl);
        first = λ other b lt. unbroken 0xBA00 (λ a l r. (return_stays r).0) refl other (earlier other lt) b;
      },
    )
      where
        earlier : (other : Rule) → rule_number other < 6 → (filled : Bool) → main_test (p 0xBA00) other 0 filled ≡ false
        earlier other lt filled = grind arith

    at_zero : (a : ℕ) → Broken (p 0xBA00) MainReturn a → a ≡ 0
    at_zero a (inl b) = (return_stays b.1).0
    at_zero a (inr b) = absurd (not_counted 0xBA00 (λ a l r. (return_stays r).0) refl b.0)

    a_return : (r : Refusal) → number_of r ≡ 6 → r ≡ main_return (place_of r)
    a_return r e = grind arith

    place : (r : Refusal) → number_of r ≡ 6 → Refused (with_first 0xBA00) lone_end r → r ≡ main_return 0
    place r e x =
        let same = a_return r e in
        same ∙ ap (λ (a : ℕ). main_return a) (at_zero (place_of r) (subst (Refused (with_first 0xBA00) lone_end) same x).1.broken)

    sole : (other : Result Depths Refusal) → Answered (with_first 0xBA00) lone_end other → other ≡ Err (main_return 0)
    sole (Ok d) x = absurd (one_answer (with_first 0xBA00) lone_end (Ok d) (Err (main_return 0)) x fits)
    sole (Err r) x = ap (λ (s : Refusal). Err s) (place r (one_answer (with_first 0xBA00) lone_end (Err r) (Err (main_return 0)) x fits).0 x)

pub worked : (first : ℕ) (r : Result Depths Refusal) → Answered (with_first first) lone_end r → WorkedAnswer first r
worked first r x = record {
  jumps = λ e. jumps.sole r (rw e at x);
  return_first = λ e. return_first.sole r (rw e at x);
  call_first = λ e. call_first.sole r (rw e at x);
}

-- the examples, together
pub examples : WorkedExamples
examples = record {
  load = load;
  add = add;
  store = store;
  rotate = rotate;
  swap_with_low_bits = undefined 0x7201 refl;
  control_past_sti = undefined 0xBE00 refl;
  jumps = jumps;
  return_first = return_first;
  call_first = call_first;
}
