-- What every step keeps to, whatever the image, the processor and the bus.
use Rattle.std.specs.Prelude.{◌≡◌, ℕ, Bool, true, false, List, length, Some, None, Option}
use Rattle.isa.specs.declared.instruction.Operand.{Operand}
use Rattle.isa.specs.declared.instruction.Instruction.{Instruction}
use Rattle.isa.specs.declared.instruction.Instruction.TheVariants.{Alu, Move, Load, Store, Jump, Call, Return, ReturnFromInterrupt, DisableInterrupts, EnableInterrupts, Swap, Shift}
use Rattle.isa.specs.Images.{instruction_in}
use Rattle.bus.specs.Meaning.{Meaning}
use Rattle.machine.specs.declared.access.StepRecord.{StepRecord}
use Rattle.machine.specs.declared.processor.Processor.{Processor}
use Rattle.machine.specs.Processors.{places, next, went_on}
use Rattle.machine.specs.Instructions.{Station, returned, returned_from_interrupt}
use Rattle.machine.specs.Steps.{interrupted, word_run}

-- the word loads PC: jumps, calls and returns do
abbrev pub loads_pc : Option Instruction → Bool
loads_pc None = false
loads_pc (Some (Alu op x o)) = false
loads_pc (Some (Move x o)) = false
loads_pc (Some (Load x o)) = false
loads_pc (Some (Store x o)) = false
loads_pc (Some (Jump c o)) = true
loads_pc (Some (Call o)) = true
loads_pc (Some Return) = true
loads_pc (Some ReturnFromInterrupt) = true
loads_pc (Some DisableInterrupts) = false
loads_pc (Some EnableInterrupts) = false
loads_pc (Some (Swap x)) = false
loads_pc (Some (Shift op x)) = false

-- a later processor has the stack words and SP that the first left, whatever else has changed
pub record StackAsLeft (p later : Processor) : Type 0 where
  pub words : later.stack ≡ p.stack
  pub pointer : later.sp ≡ p.sp

-- RTS goes to the address, leaves the flags untouched, and SP is again that of p
pub record ComesBack (p : Processor) (a : ℕ) (later : Processor) : Type 0 where
  pub pc : (returned later).pc ≡ a
  pub flags : (returned later).flags ≡ later.flags
  pub pointer : (returned later).sp ≡ p.sp

-- RTI gives back PC, the six flags and SP as they stood at p
pub record GivesBack (p later : Processor) : Type 0 where
  pub pc : (returned_from_interrupt later).pc ≡ p.pc
  pub flags : (returned_from_interrupt later).flags ≡ p.flags
  pub pointer : (returned_from_interrupt later).sp ≡ p.sp

module _ {S : Type 0} (m : Meaning S) (image : List ℕ) (before : Station S) where
  -- the instruction at PC
  abbrev pub fetched : Option Instruction
  fetched = instruction_in image before.processor.pc

  -- the processor after the word, before an interrupt is accepted
  abbrev pub word_left : Processor
  word_left = (word_run m image before).station.processor

  -- what holds of the processor after a step, and of the step's record
  pub record LawfulStep (after : Processor) (r : StepRecord) : Type 0 where
    -- the word and an acceptance are all that changes the processor
    pub quiet : r.interrupted ≡ false → after ≡ word_left
    pub entered : r.interrupted ≡ true → after ≡ interrupted word_left
    -- no interrupt is accepted in CLI's own step
    pub disabled : fetched ≡ Some DisableInterrupts → r.interrupted ≡ false
    -- an undefined word only moves PC, and makes no access
    pub undefined : fetched ≡ None → (word_left ≡ went_on before.processor) × (r.access ≡ None)
    -- a word that does not load PC leads to the next address, and from 255 to 0
    pub on : loads_pc fetched ≡ false → word_left.pc ≡ next before.processor.pc
    pub round : loads_pc fetched ≡ false → before.processor.pc ≡ 255 → word_left.pc ≡ 0
    -- a call is followed by its return, however much later: it comes back with the flags untouched
    pub call :
        (o : Operand) → fetched ≡ Some (Call o) → length before.processor.stack ≡ places →
        (later : Processor) → StackAsLeft word_left later → ComesBack before.processor (next before.processor.pc) later
    -- an accepted interrupt is followed by its return, however much later: it gives PC and the six flags back
    pub interrupt :
        r.interrupted ≡ true → length before.processor.stack ≡ places →
        (later : Processor) → StackAsLeft after later → GivesBack word_left later
