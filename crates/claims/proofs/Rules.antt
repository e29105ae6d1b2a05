-- A program that vetting accepts by the rulebooks is one whose words keep to their parts.
use Rattle.std.proofs.Common.{◌≡◌, ℕ, ◌+◌, ◌≤◌, Bool, true, false, not, ◌&&◌, ◌||◌, List, [], ◌∷◌, Some, None, Option, refl, ap, ◌∙◌, inl, inr, mod-eq_of_lt, arith}
use mathlib.Core.Logic.{∥∥₁_elim}
use mathlib.Core.HLevel.{⊥_prop}
use native.Mathlib.Bridge.{le_prop}
use Rattle.isa.specs.declared.register.RegisterName.{RegisterName}
use Rattle.isa.specs.declared.instruction.Operand.{Operand}
use Rattle.isa.specs.declared.instruction.Operand.TheVariants.{Register, Constant}
use Rattle.isa.specs.declared.instruction.AluOperation.{AluOperation}
use Rattle.isa.specs.declared.instruction.AluOperation.TheVariants.{Add, Adc, Sub, Sbc, And, Or, Xor, Tst, Cmp}
use Rattle.isa.specs.declared.instruction.Condition.{Condition}
use Rattle.isa.specs.declared.instruction.Condition.TheVariants.{Always, Zero, NotZero, Carry, NoCarry, Negative, NotNegative, Overflow, NoOverflow}
use Rattle.isa.specs.declared.instruction.Instruction.{Instruction}
use Rattle.isa.specs.declared.instruction.Instruction.TheVariants.{Alu, Move, Load, Store, Jump, Call, Return, ReturnFromInterrupt, DisableInterrupts, EnableInterrupts, Swap, Shift}
use Rattle.isa.specs.Operations.{keeps_result}
use Rattle.walk.specs.Walk.{Longest}
use Rattle.machine.specs.Parts.{does, result_of, way_of, enables}
use Rattle.vetting.specs.declared.depths.Depths.{Depths}
use Rattle.vetting.specs.declared.rules.Rule.{Rule}
use Rattle.vetting.specs.declared.rules.Rule.TheVariants.{MainWord, MainReturn, MainRegister, HandlerWord, HandlerReturn, HandlerWrite}
use Rattle.vetting.specs.Programs.{Program, instruction_at, graph_of, indirect, operand_names, main_breaks, handler_breaks, enables as enables_word}
use Rattle.vetting.specs.Verdicts.{is_filled, vector, Counted, Broken, HandlerDepths, Accepted}
use Rattle.claims.proofs.Constants.{SmallStore, small_stores}
use Rattle.claims.proofs.Rulebooks.{Fixed, Filled, Empty, Mains, MainsOperand, MainResult, MainWay, MainMay, HandlerResult, HandlerWay, HandlerUse, HandlerMay, KeptBy}

impossible : {P : Type 0} → true ≡ false → P
impossible e = absurd (let no : ◌≡◌ {A = ℕ} 0 1 = cc in omega arith)

neither : (a b : Bool) → (a || b) ≡ false → (a ≡ false) × (b ≡ false)
neither true b e = impossible e
neither false b e = (refl, e)

not_false : (b : Bool) → not b ≡ false → b ≡ true
not_false true e = refl
not_false false e = impossible e

if_written : (w b : Bool) → (w && not b) ≡ false → w ≡ true → b ≡ true
if_written true b e h = not_false b e
if_written false b e h = cc

fixed : (o : Operand) → indirect o ≡ false → Fixed o
fixed (Register r) e = impossible e
fixed (Constant k) e = tt

filled : (list : List ℕ) → not (is_filled list) ≡ false → Filled list
filled [] e = impossible e
filled (r ∷ list) e = tt

empty : (list : List ℕ) → is_filled list ≡ false → Empty list
empty [] e = tt
empty (r ∷ list) e = impossible e

module _ (p : Program) where
  mains_operand : (o : Operand) → operand_names p.handlers o ≡ false → MainsOperand p o
  mains_operand (Register r) e = e
  mains_operand (Constant k) e = tt

  main_result : (op : AluOperation) (x : RegisterName) (o : Operand) → Mains p x → MainsOperand p o → MainResult p (result_of op x o)
  main_result Add x o h k = (h, k)
  main_result Adc x o h k = (h, k)
  main_result Sub x o h k = (h, k)
  main_result Sbc x o h k = (h, k)
  main_result And x o h k = (h, k)
  main_result Or x o h k = (h, k)
  main_result Xor x o h k = (h, k)
  main_result Tst x o h k = tt
  main_result Cmp x o h k = tt

  handler_result : (op : AluOperation) (x : RegisterName) (o : Operand) → (keeps_result op ≡ true → p.handlers x.number ≡ true) → HandlerResult p (result_of op x o)
  handler_result Add x o h = h refl
  handler_result Adc x o h = h refl
  handler_result Sub x o h = h refl
  handler_result Sbc x o h = h refl
  handler_result And x o h = h refl
  handler_result Or x o h = h refl
  handler_result Xor x o h = h refl
  handler_result Tst x o h = tt
  handler_result Cmp x o h = tt

  jump_way : (c : Condition) (o : Operand) (list : List ℕ) → Fixed o → MainWay p (way_of c o) list × HandlerWay p (way_of c o) list
  jump_way Always o list f = (f, f)
  jump_way Zero o list f = (f, f)
  jump_way NotZero o list f = (f, f)
  jump_way Carry o list f = (f, f)
  jump_way NoCarry o list f = (f, f)
  jump_way Negative o list f = (f, f)
  jump_way NotNegative o list f = (f, f)
  jump_way Overflow o list f = (f, f)
  jump_way NoOverflow o list f = (f, f)

  abbrev UnbrokenMain : Option Instruction → List ℕ → Type 0
  UnbrokenMain i list = (rule : Rule) → main_breaks p.handlers rule i (is_filled list) ≡ false

  main_may : (i : Option Instruction) (list : List ℕ) → UnbrokenMain i list → MainMay p (does i) list
  main_may None list e = impossible (e MainWord)
  main_may (Some (Alu op x o)) list e =
      let (a, b) = neither _ _ (e MainRegister) in
      let k = mains_operand o b in
      record { result = main_result op x o a k; judgement = (a, k); uses = tt; way = tt }
  main_may (Some (Move x o)) list e = let (a, b) = neither _ _ (e MainRegister) in record { result = (a, mains_operand o b); judgement = tt; uses = tt; way = tt }
  main_may (Some (Load x o)) list e = let (a, b) = neither _ _ (e MainRegister) in record { result = a; judgement = tt; uses = mains_operand o b; way = tt }
  main_may (Some (Store x o)) list e = let (a, b) = neither _ _ (e MainRegister) in record { result = tt; judgement = tt; uses = (a, mains_operand o b); way = tt }
  main_may (Some (Jump c o)) list e = record { result = tt; judgement = tt; uses = tt; way = (jump_way c o list (fixed o (neither _ _ (e MainWord)).0)).0 }
  main_may (Some (Call o)) list e = record { result = tt; judgement = tt; uses = tt; way = fixed o (neither _ _ (e MainWord)).0 }
  main_may (Some Return) list e = record { result = tt; judgement = tt; uses = tt; way = filled list (e MainReturn) }
  main_may (Some ReturnFromInterrupt) list e = impossible (e MainWord)
  main_may (Some DisableInterrupts) list e = record { result = tt; judgement = tt; uses = tt; way = tt }
  main_may (Some EnableInterrupts) list e = record { result = tt; judgement = tt; uses = tt; way = tt }
  main_may (Some (Swap x)) list e = record { result = (e MainRegister, tt); judgement = (e MainRegister, tt); uses = tt; way = tt }
  main_may (Some (Shift s x)) list e = record { result = (e MainRegister, tt); judgement = (e MainRegister, tt); uses = tt; way = tt }

  abbrev UnbrokenHandler : Option Instruction → List ℕ → Type 0
  UnbrokenHandler i list = (rule : Rule) → handler_breaks p.handlers p.ranges rule i (is_filled list) ≡ false

  store_outside : (x : RegisterName) (o : Operand) (list : List ℕ) → SmallStore (Some (Store x o)) → UnbrokenHandler (Some (Store x o)) list → HandlerUse p (does (Some (Store x o))).use_of
  store_outside x (Register r) list small e = impossible (e HandlerWord)
  store_outside x (Constant k) list small e = ap p.ranges (mod-eq_of_lt small) ∙ e HandlerWrite

  written : (b c : Bool) → (not b || c) ≡ false → b ≡ true
  written b c e = not_false b (neither (not b) c e).0

  handler_may : (i : Option Instruction) (list : List ℕ) → SmallStore i → UnbrokenHandler i list → HandlerMay p (does i) list
  handler_may None list small e = impossible (e HandlerWord)
  handler_may (Some (Alu op x o)) list small e = record { result = handler_result op x o (if_written _ _ (neither _ _ (e HandlerWrite)).0); judgement = tt; uses = tt; way = tt }
  handler_may (Some (Move x o)) list small e = record { result = written _ _ (e HandlerWrite); judgement = tt; uses = tt; way = tt }
  handler_may (Some (Load x o)) list small e = record { result = written _ _ (e HandlerWrite); judgement = tt; uses = tt; way = tt }
  handler_may (Some (Store x o)) list small e = record { result = tt; judgement = tt; uses = store_outside x o list small e; way = tt }
  handler_may (Some (Jump c o)) list small e = record { result = tt; judgement = tt; uses = tt; way = (jump_way c o list (fixed o (neither _ _ (e HandlerWord)).0)).1 }
  handler_may (Some (Call o)) list small e = record { result = tt; judgement = tt; uses = tt; way = fixed o (neither _ _ (e HandlerWord)).0 }
  handler_may (Some Return) list small e = record { result = tt; judgement = tt; uses = tt; way = filled list (neither _ _ (e HandlerReturn)).0 }
  handler_may (Some ReturnFromInterrupt) list small e = record { result = tt; judgement = tt; uses = tt; way = empty list (e HandlerReturn) }
  handler_may (Some DisableInterrupts) list small e = record { result = tt; judgement = tt; uses = tt; way = tt }
  handler_may (Some EnableInterrupts) list small e = impossible (e HandlerWord)
  handler_may (Some (Swap x)) list small e = record { result = written _ _ (e HandlerWrite); judgement = tt; uses = tt; way = tt }
  handler_may (Some (Shift s x)) list small e = record { result = written _ _ (e HandlerWrite); judgement = tt; uses = tt; way = tt }

-- only STI sets IE
pub enabling : (i : Option Instruction) → (does i).judgement ≡ enables true → enables_word i ≡ true
enabling None e = cc
enabling (Some (Alu op x o)) e = cc
enabling (Some (Move x o)) e = cc
enabling (Some (Load x o)) e = cc
enabling (Some (Store x o)) e = cc
enabling (Some (Jump c o)) e = cc
enabling (Some (Call o)) e = cc
enabling (Some Return) e = cc
enabling (Some ReturnFromInterrupt) e = cc
enabling (Some DisableInterrupts) e = cc
enabling (Some EnableInterrupts) e = refl
enabling (Some (Swap x)) e = cc
enabling (Some (Shift s x)) e = cc

-- a test that must not pass does not
unpassed : (b : Bool) → (b ≡ true → ⊥) → b ≡ false
unpassed true f = absurd (f refl)
unpassed false f = refl

-- an acceptance that is only known to exist is enough
pub kept_by : (p : Program) (depths : Depths) → ∥ Accepted p depths ∥₁ → KeptBy p depths
kept_by p depths known = record {
  main_keeps = λ pc list r. main_may p (instruction_at p pc) list (λ rule. unpassed _ (λ e. unbroken rule pc (inl (list, r, e))));
  main_within = λ pc list r. ∥∥₁_elim known le_prop (λ ok. ok.main.most pc list r);
  handler_keeps = λ c pc list r. handler_may p (instruction_at p pc) list (small_stores p.image pc) (λ rule. unpassed _ (λ e. unbroken rule pc (inr (c, (list, r, e)))));
  handler_within = λ c pc list r. ∥∥₁_elim known le_prop (λ ok. (counted c ok.handler).0.most pc list r);
  total_main = ∥∥₁_elim known le_prop (λ ok. at_most ok.handler);
  total_counted = λ c.
      let up : depths.total ≤ depths.main + 1 + depths.handler = ∥∥₁_elim known le_prop (λ ok. let e = (counted c ok.handler).1 in omega arith) in
      let down : depths.main + 1 + depths.handler ≤ depths.total = ∥∥₁_elim known le_prop (λ ok. let e = (counted c ok.handler).1 in omega arith) in
      omega arith;
  fits = ∥∥₁_elim known le_prop (λ ok. ok.fits);
}
  where
    unbroken : (rule : Rule) (a : ℕ) → Broken p rule a → ⊥
    unbroken rule a broken = ∥∥₁_elim known ⊥_prop (λ ok. ok.rules rule a broken)

    counted : Counted p → HandlerDepths p depths → Longest (graph_of p) vector depths.handler × (depths.total ≡ depths.main + 1 + depths.handler)
    counted c (inl none) = absurd (none.0 c)
    counted c (inr some) = (some.1, some.2)

    at_most : HandlerDepths p depths → depths.main ≤ depths.total
    at_most (inl none) = let e = none.2 in omega arith
    at_most (inr some) = let e = some.2 in omega arith
