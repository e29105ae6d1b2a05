-- The rulebooks by the parts of a word, and what an accepted program keeps to in those terms.
use Rattle.std.proofs.Common.{◌≡◌, ℕ, ◌+◌, ◌≤◌, true, false, List, [], ◌∷◌, length}
use Rattle.isa.specs.declared.register.RegisterName.{RegisterName}
use Rattle.isa.specs.declared.instruction.Operand.{Operand}
use Rattle.isa.specs.declared.instruction.Operand.TheVariants.{Register, Constant}
use Rattle.walk.specs.Walk.{Reaches}
use Rattle.machine.specs.Instructions.{byte}
use Rattle.machine.specs.Parts.{Result, none, computes, receives, Judgement, judges, enables, Use, load, store, Way, on, branch, jump, call, return, return_interrupt, nowhere, Action, does}
use Rattle.vetting.specs.declared.depths.Depths.{Depths}
use Rattle.vetting.specs.Programs.{Program, instruction_at, graph_of}
use Rattle.vetting.specs.Verdicts.{Counted, reset, vector}

-- the parts of the word at each address
abbrev pub code_of : Program → ℕ → Action
code_of p a = does (instruction_at p a)

abbrev pub Fixed : Operand → Type 0
Fixed (Register r) = ⊥
Fixed (Constant k) = Unit {0}

abbrev pub Filled : List ℕ → Type 0
Filled [] = ⊥
Filled (r ∷ list) = Unit {0}

abbrev pub Empty : List ℕ → Type 0
Empty [] = Unit {0}
Empty (r ∷ list) = ⊥

module _ (p : Program) where
  abbrev pub Mains : RegisterName → Type 0
  Mains x = p.handlers x.number ≡ false

  abbrev pub MainsOperand : Operand → Type 0
  MainsOperand (Register r) = Mains r
  MainsOperand (Constant k) = Unit {0}

  -- main names only its own registers
  abbrev pub MainResult : Result → Type 0
  MainResult none = Unit {0}
  MainResult (computes f x o) = Mains x × MainsOperand o
  MainResult (receives x) = Mains x

  abbrev pub MainJudgement : Judgement → Type 0
  MainJudgement none = Unit {0}
  MainJudgement (judges g x o) = Mains x × MainsOperand o
  MainJudgement (enables b) = Unit {0}

  abbrev pub MainUse : Use → Type 0
  MainUse none = Unit {0}
  MainUse (load o) = MainsOperand o
  MainUse (store x o) = Mains x × MainsOperand o

  -- jumps and calls nowhere through a register, returns only with a filled list, and never from an interrupt
  abbrev pub MainWay : Way → List ℕ → Type 0
  MainWay on list = Unit {0}
  MainWay (branch c o) list = Fixed o
  MainWay (jump o) list = Fixed o
  MainWay (call o) list = Fixed o
  MainWay return list = Filled list
  MainWay return_interrupt list = ⊥
  MainWay nowhere list = ⊥

  -- main's rulebook
  pub record MainMay (act : Action) (list : List ℕ) : Type 0 where
    pub result : MainResult act.result
    pub judgement : MainJudgement act.judgement
    pub uses : MainUse act.use_of
    pub way : MainWay act.way list

  -- the handler writes only its own registers
  abbrev pub HandlerResult : Result → Type 0
  HandlerResult none = Unit {0}
  HandlerResult (computes f x o) = p.handlers x.number ≡ true
  HandlerResult (receives x) = p.handlers x.number ≡ true

  -- and never enables interrupts
  abbrev pub HandlerJudgement : Judgement → Type 0
  HandlerJudgement none = Unit {0}
  HandlerJudgement (judges g x o) = Unit {0}
  HandlerJudgement (enables true) = ⊥
  HandlerJudgement (enables false) = Unit {0}

  -- it stores to fixed addresses outside the ranges
  abbrev pub HandlerUse : Use → Type 0
  HandlerUse none = Unit {0}
  HandlerUse (load o) = Unit {0}
  HandlerUse (store x (Register r)) = ⊥
  HandlerUse (store x (Constant k)) = p.ranges (byte k) ≡ false

  -- it returns from the interrupt with an empty list
  abbrev pub HandlerWay : Way → List ℕ → Type 0
  HandlerWay on list = Unit {0}
  HandlerWay (branch c o) list = Fixed o
  HandlerWay (jump o) list = Fixed o
  HandlerWay (call o) list = Fixed o
  HandlerWay return list = Filled list
  HandlerWay return_interrupt list = Empty list
  HandlerWay nowhere list = ⊥

  -- the handler's rulebook
  pub record HandlerMay (act : Action) (list : List ℕ) : Type 0 where
    pub result : HandlerResult act.result
    pub judgement : HandlerJudgement act.judgement
    pub uses : HandlerUse act.use_of
    pub way : HandlerWay act.way list
    -- what acceptance says, with these depths

  pub record KeptBy (depths : Depths) : Type 0 where
    pub main_keeps : (pc : ℕ) (list : List ℕ) → Reaches (graph_of p) reset pc list → MainMay (code_of p pc) list
    pub main_within : (pc : ℕ) (list : List ℕ) → Reaches (graph_of p) reset pc list → length list ≤ depths.main
    pub handler_keeps : Counted p → (pc : ℕ) (list : List ℕ) → Reaches (graph_of p) vector pc list → HandlerMay (code_of p pc) list
    pub handler_within : Counted p → (pc : ℕ) (list : List ℕ) → Reaches (graph_of p) vector pc list → length list ≤ depths.handler
    pub total_main : depths.main ≤ depths.total
    pub total_counted : Counted p → depths.total ≡ depths.main + 1 + depths.handler
    pub fits : depths.total ≤ 16
