-- The steps of a run as they are looked back on, and the pushes and pops among them. A past is a list of moments, the newest first.
use Rattle.std.specs.Prelude.{ℕ, zero, suc, ◌+◌, ◌-◌, Bool, true, false, cond, ◌||◌, List, [], ◌∷◌, Some, None, Option}
use Rattle.isa.specs.declared.instruction.Instruction.{Instruction}
use Rattle.isa.specs.declared.instruction.Instruction.TheVariants.{Alu, Move, Load, Store, Jump, Call, Return, ReturnFromInterrupt, DisableInterrupts, EnableInterrupts, Swap, Shift}
use Rattle.bus.specs.Meaning.{Meaning}
use Rattle.machine.specs.declared.access.StepRecord.{StepRecord}
use Rattle.machine.specs.Instructions.{Station}
use Rattle.machine.specs.Steps.{stepped, word_run}
use Rattle.vetting.specs.Programs.{Program, instruction_at, is_rts, is_rti}

-- one step: the station as it was found, the step's record, and the station after the word ran and before an interrupt is accepted
pub record Moment (S : Type 0) : Type 0 where
  pub before : Station S
  pub answer : StepRecord
  pub after : Station S

-- a moment with the past before it
pub record Point (S : Type 0) : Type 0 where
  pub now : Moment S
  pub past : List (Moment S)

module _ (p : Program) {S : Type 0} (m : Meaning S) where
  -- the moment of a step that is made from here
  abbrev pub moment : Station S → Moment S
  moment st = record { before = st; answer = (stepped m p.image st).answer; after = (word_run m p.image st).station }

  -- the station after some steps
  abbrev pub steps : ℕ → Station S → Station S
  steps zero st = st
  steps (suc k) st = (stepped m p.image (steps k st)).station

  -- the past after some steps
  abbrev pub past_after : ℕ → Station S → List (Moment S) → List (Moment S)
  past_after zero st past = past
  past_after (suc k) st past = moment (steps k st) ∷ past_after k st past

-- the instruction is JSR
abbrev pub is_jsr : Instruction → Bool
is_jsr (Alu op x o) = false
is_jsr (Move x o) = false
is_jsr (Load x o) = false
is_jsr (Store x o) = false
is_jsr (Jump c o) = false
is_jsr (Call o) = true
is_jsr Return = false
is_jsr ReturnFromInterrupt = false
is_jsr DisableInterrupts = false
is_jsr EnableInterrupts = false
is_jsr (Swap x) = false
is_jsr (Shift s x) = false

-- a JSR pushes one stack word, other words none
abbrev pub pushed_by : Option Instruction → ℕ
pushed_by None = 0
pushed_by (Some i) = cond (is_jsr i) 1 0

-- an RTS and an RTI pop one stack word, other words none
abbrev pub popped_by : Option Instruction → ℕ
popped_by None = 0
popped_by (Some i) = cond (is_rts i || is_rti i) 1 0

-- an interrupt that is accepted pushes one stack word
abbrev pub pushed_on_entry : Bool → ℕ
pushed_on_entry interrupted = cond interrupted 1 0

module _ (p : Program) {S : Type 0} where
  -- the instruction that ran at a moment
  abbrev pub instruction_of : Moment S → Option Instruction
  instruction_of x = instruction_at p x.answer.address

  -- the pushes of a past, by its words and its interrupts
  abbrev pub pushes : List (Moment S) → ℕ
  pushes [] = 0
  pushes (x ∷ past) = pushed_on_entry x.answer.interrupted + (pushed_by (instruction_of x) + pushes past)

  -- the pops of a past, by its words
  abbrev pub pops : List (Moment S) → ℕ
  pops [] = 0
  pops (x ∷ past) = popped_by (instruction_of x) + pops past

  -- the pushes up to a word, its own included, and before an interrupt is accepted
  abbrev pub pushes_to : Point S → ℕ
  pushes_to x = pushed_by (instruction_of x.now) + pushes x.past

  -- the pops up to a word, its own included
  abbrev pub pops_to : Point S → ℕ
  pops_to x = popped_by (instruction_of x.now) + pops x.past

  -- the stack words in use then: pushed and not yet popped, from the stack's first place on
  abbrev pub in_use : Point S → ℕ
  in_use x = pushes_to x - pops_to x
