-- What main sees of a station, and how one of main's instructions changes it.
use Rattle.std.proofs.Common.{◌≡◌, ℕ, Bool, true, false, cond, not, ◌&&◌, eqb, List, [], ◌∷◌, map, Some, None, Option, refl, ap, inl, inr}
use Rattle.isa.specs.declared.instruction.Operand.{Operand}
use Rattle.isa.specs.declared.instruction.Operand.TheVariants.{Register, Constant}
use Rattle.isa.specs.declared.instruction.Condition.TheVariants.{Always, Zero, NotZero, Carry, NoCarry, Negative, NotNegative, Overflow, NoOverflow}
use Rattle.isa.specs.declared.instruction.Instruction.{Instruction}
use Rattle.isa.specs.declared.instruction.Instruction.TheVariants.{Alu, Move, Load, Store, Jump, Call, Return, ReturnFromInterrupt, DisableInterrupts, EnableInterrupts, Swap, Shift}
use Rattle.alu.specs.declared.flags.Flags.{Flags}
use Rattle.walk.specs.declared.flow.Flow.{Flow}
use Rattle.walk.specs.declared.flow.Flow.TheVariants.{Nowhere, Next, Branch, Jump as Jumps, Call as Calls, Return as Returns}
use Rattle.walk.specs.Walk.{Reaches, on as then, goes, calls, returns}
use Rattle.machine.specs.declared.processor.Saved.{Saved}
use Rattle.machine.specs.Processors.{saved, next, value_in}
use Rattle.machine.specs.Parts.{Result, none, computes, receives, Judgement, judges, enables, Use, load, store, Way, on, branch, jump, call, return, return_interrupt, nowhere, Action, does, Request, nothing, read, write, request, registers_after, flags_set, flags_after, pc_after, stacking}
use Rattle.vetting.specs.Programs.{Program, flow_of, graph_of}
use Rattle.claims.specs.Interrupts.{no_word}
use Rattle.claims.proofs.Rulebooks.{Fixed, Filled, Empty, MainsOperand, MainResult, MainJudgement, MainUse, MainWay, HandlerResult, HandlerUse, HandlerWay}
use Rattle.claims.proofs.Lists.{mask, getD_mask, mask_set, mask_hidden, words_after, Poppable}

-- how a walk goes on along a way
abbrev pub flow_along : Way → Flow
flow_along on = Next
flow_along (branch c (Register r)) = Nowhere
flow_along (branch c (Constant k)) = Branch k
flow_along (jump (Register r)) = Nowhere
flow_along (jump (Constant k)) = Jumps k
flow_along (call (Register r)) = Nowhere
flow_along (call (Constant k)) = Calls k
flow_along return = Returns
flow_along return_interrupt = Nowhere
flow_along nowhere = Nowhere

-- a word leads along its way
pub same_flow : (i : Option Instruction) → flow_of i ≡ flow_along (does i).way
same_flow None = refl
same_flow (Some (Alu op x o)) = refl
same_flow (Some (Move x o)) = refl
same_flow (Some (Load x o)) = refl
same_flow (Some (Store x o)) = refl
same_flow (Some (Jump Always (Register r))) = refl
same_flow (Some (Jump Always (Constant k))) = refl
same_flow (Some (Jump Zero (Register r))) = refl
same_flow (Some (Jump Zero (Constant k))) = refl
same_flow (Some (Jump NotZero (Register r))) = refl
same_flow (Some (Jump NotZero (Constant k))) = refl
same_flow (Some (Jump Carry (Register r))) = refl
same_flow (Some (Jump Carry (Constant k))) = refl
same_flow (Some (Jump NoCarry (Register r))) = refl
same_flow (Some (Jump NoCarry (Constant k))) = refl
same_flow (Some (Jump Negative (Register r))) = refl
same_flow (Some (Jump Negative (Constant k))) = refl
same_flow (Some (Jump NotNegative (Register r))) = refl
same_flow (Some (Jump NotNegative (Constant k))) = refl
same_flow (Some (Jump Overflow (Register r))) = refl
same_flow (Some (Jump Overflow (Constant k))) = refl
same_flow (Some (Jump NoOverflow (Register r))) = refl
same_flow (Some (Jump NoOverflow (Constant k))) = refl
same_flow (Some (Call (Register r))) = refl
same_flow (Some (Call (Constant k))) = refl
same_flow (Some Return) = refl
same_flow (Some ReturnFromInterrupt) = refl
same_flow (Some DisableInterrupts) = refl
same_flow (Some EnableInterrupts) = refl
same_flow (Some (Swap x)) = refl
same_flow (Some (Shift s x)) = refl

pub record View : Type 0 where
  pub pc : ℕ
  pub flags : Flags
  -- the handler's as 0
  pub registers : List ℕ
  -- what is not guarded as 0
  pub cells : ℕ → ℕ
  pub words : List Saved

abbrev pub newest : List Saved → Saved
newest [] = no_word
newest (w ∷ ws) = w

-- an access that the guarded cells do not answer
abbrev pub opens : (ℕ → Bool) → Request → Bool
opens guard nothing = false
opens guard (read a) = not (guard a)
opens guard (write a b) = false

abbrev pub known : (ℕ → ℕ) → Request → ℕ
known cells nothing = 0
known cells (read a) = cells a
known cells (write a b) = 0

abbrev pub answered : (ℕ → Bool) → Request → (ℕ → ℕ) → ℕ → ℕ
answered guard a cells given = cond (opens guard a) given (known cells a)

abbrev pub stored : (ℕ → Bool) → Request → (ℕ → ℕ) → ℕ → ℕ
stored guard nothing cells k = cells k
stored guard (read a) cells k = cells k
stored guard (write a b) cells k = cond (guard k && eqb a k) b (cells k)

module _ (code : ℕ → Action) (guard : ℕ → Bool) where
  abbrev pub wants : View → Request
  wants v = request (code v.pc).use_of v.registers

  -- main's instruction, where an open read is given an answer
  abbrev pub main_step : View → ℕ → View
  main_step v given =
      let act = code v.pc in
      record {
        pc = pc_after act.way (newest v.words) v.registers v.flags v.pc;
        flags = flags_after act.way (newest v.words) (flags_set act.judgement v.registers v.flags);
        registers = registers_after act.result (answered guard (wants v) v.cells given) v.flags v.registers;
        cells = stored guard (wants v) v.cells;
        words = words_after (stacking act.way) (saved (next v.pc) v.flags) v.words;
      }

abbrev pub addresses : List Saved → List ℕ
addresses ws = map (λ (w : Saved). w.pc) ws

module _ (p : Program) where
  -- a word that main's rulebook lets pass leads where the walk leads
  pub walks :
      (start pc : ℕ) (ws : List Saved) (registers : List ℕ) (flags : Flags) (way : Way) → graph_of p pc ≡ flow_along way → MainWay p way (addresses ws) →
      Reaches (graph_of p) start pc (addresses ws) →
      Reaches (graph_of p) start (pc_after way (newest ws) registers flags pc) (addresses (words_after (stacking way) (saved (next pc) flags) ws))
  walks start pc ws registers flags on e may r = then r (goes (rw e refl))
  walks start pc ws registers flags (branch c (Register x)) e may r = absurd may
  walks start pc ws registers flags (branch c (Constant k)) e may r = either (c flags)
    where
      either : (b : Bool) → Reaches (graph_of p) start (cond b k (next pc)) (addresses ws)
      either true = then r (goes (rw e (inr refl)))
      either false = then r (goes (rw e (inl refl)))
  walks start pc ws registers flags (jump (Register x)) e may r = absurd may
  walks start pc ws registers flags (jump (Constant k)) e may r = then r (goes (rw e refl))
  walks start pc ws registers flags (call (Register x)) e may r = absurd may
  walks start pc ws registers flags (call (Constant k)) e may r = then r (calls e)
  walks start pc [] registers flags return e may r = absurd may
  walks start pc (w ∷ ws) registers flags return e may r = then r (returns e)
  walks start pc ws registers flags return_interrupt e may r = absurd may
  walks start pc ws registers flags nowhere e may r = absurd may

  pub poppable : (way : Way) (ws : List Saved) → MainWay p way (addresses ws) → Poppable (stacking way) ws
  poppable on ws may = tt
  poppable (branch c o) ws may = tt
  poppable (jump o) ws may = tt
  poppable (call o) ws may = tt
  poppable return [] may = may
  poppable return (w ∷ ws) may = tt
  poppable return_interrupt ws may = absurd may
  poppable nowhere ws may = tt

  -- main's rulebook: an instruction does the same with the handler's registers hidden
  value_mask : (o : Operand) (registers : List ℕ) → MainsOperand p o → value_in o (mask p.handlers registers) ≡ value_in o registers
  value_mask (Register r) registers h = getD_mask p.handlers registers r.number h
  value_mask (Constant k) registers h = refl

  pub main_registers :
      (result : Result) (answer : ℕ) (flags : Flags) (registers : List ℕ) → MainResult p result →
      mask p.handlers (registers_after result answer flags registers) ≡ registers_after result answer flags (mask p.handlers registers)
  main_registers none answer flags registers may = refl
  main_registers (computes f x o) answer flags registers may = rw (value_mask o registers may.1, getD_mask p.handlers registers x.number may.0) (mask_set p.handlers registers x.number _ may.0)
  main_registers (receives x) answer flags registers may = mask_set p.handlers registers x.number answer may

  pub main_flags : (judgement : Judgement) (flags : Flags) (registers : List ℕ) → MainJudgement p judgement → flags_set judgement registers flags ≡ flags_set judgement (mask p.handlers registers) flags
  main_flags none flags registers may = refl
  main_flags (judges g x o) flags registers may = rw (value_mask o registers may.1, getD_mask p.handlers registers x.number may.0)
  main_flags (enables b) flags registers may = refl

  pub main_request : (u : Use) (registers : List ℕ) → MainUse p u → request u registers ≡ request u (mask p.handlers registers)
  main_request none registers may = refl
  main_request (load o) registers may = rw (value_mask o registers may)
  main_request (store x o) registers may = rw (value_mask o registers may.1, getD_mask p.handlers registers x.number may.0)

  fixed_value : (o : Operand) (r s : List ℕ) → Fixed o → value_in o r ≡ value_in o s
  fixed_value (Register x) r s f = absurd f
  fixed_value (Constant k) r s f = refl

  -- where a word leads does not hang on the registers, and only a return looks at the newest word
  pub same_pc : (way : Way) (list : List ℕ) (s t : Saved) (r q : List ℕ) (flags : Flags) (pc : ℕ) → MainWay p way list → (Filled list → s ≡ t) → pc_after way s r flags pc ≡ pc_after way t q flags pc
  same_pc on list s t r q flags pc may same = refl
  same_pc (branch c o) list s t r q flags pc may same = ap (λ (k : ℕ). cond (c flags) k (next pc)) (fixed_value o r q may)
  same_pc (jump o) list s t r q flags pc may same = fixed_value o r q may
  same_pc (call o) list s t r q flags pc may same = fixed_value o r q may
  same_pc return list s t r q flags pc may same = ap (λ (w : Saved). w.pc) (same may)
  same_pc return_interrupt list s t r q flags pc may same = absurd may
  same_pc nowhere list s t r q flags pc may same = refl

  pub same_flags : (way : Way) (list : List ℕ) (s : Saved) (flags : Flags) → MainWay p way list → flags_after way s flags ≡ flags
  same_flags on list s flags may = refl
  same_flags (branch c o) list s flags may = refl
  same_flags (jump o) list s flags may = refl
  same_flags (call o) list s flags may = refl
  same_flags return list s flags may = refl
  same_flags return_interrupt list s flags may = absurd may
  same_flags nowhere list s flags may = refl

  -- the handler's: main's registers and ranges stay
  pub handler_registers :
      (result : Result) (answer : ℕ) (flags : Flags) (registers : List ℕ) → HandlerResult p result →
      mask p.handlers (registers_after result answer flags registers) ≡ mask p.handlers registers
  handler_registers none answer flags registers may = refl
  handler_registers (computes f x o) answer flags registers may = mask_hidden p.handlers registers x.number _ may
  handler_registers (receives x) answer flags registers may = mask_hidden p.handlers registers x.number answer may

  -- an access that writes to no range
  abbrev pub Harmless : Request → Type 0
  Harmless nothing = Unit {0}
  Harmless (read a) = Unit {0}
  Harmless (write a b) = p.ranges a ≡ false

  pub handler_request : (u : Use) (registers : List ℕ) → HandlerUse p u → Harmless (request u registers)
  handler_request none registers may = tt
  handler_request (load o) registers may = tt
  handler_request (store x (Register r)) registers may = absurd may
  handler_request (store x (Constant k)) registers may = may

  -- a word of the handler's is a return from interrupt with an empty list, or one that main's rulebook would let pass
  pub handler_cases : {P : Type 0} (way : Way) (list : List ℕ) → HandlerWay p way list → (MainWay p way list → P) → (way ≡ return_interrupt → Empty list → P) → P
  handler_cases on list may k h = k tt
  handler_cases (branch c o) list may k h = k may
  handler_cases (jump o) list may k h = k may
  handler_cases (call o) list may k h = k may
  handler_cases return list may k h = k may
  handler_cases return_interrupt list may k h = h refl may
  handler_cases nowhere list may k h = absurd may
