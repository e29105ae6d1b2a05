-- What each instruction does to the processor and the bus.
use Rattle.std.specs.Prelude.{ℕ, ◌%◌, Bool, true, false, cond, not, Some, None, Option}
use Rattle.isa.specs.declared.register.RegisterName.{RegisterName}
use Rattle.isa.specs.declared.instruction.Operand.{Operand}
use Rattle.isa.specs.declared.instruction.AluOperation.{AluOperation}
use Rattle.isa.specs.declared.instruction.ShiftOperation.{ShiftOperation}
use Rattle.isa.specs.declared.instruction.Condition.{Condition}
use Rattle.isa.specs.declared.instruction.Condition.TheVariants.{Always, Zero, NotZero, Carry, NoCarry, Negative, NotNegative, Overflow, NoOverflow}
use Rattle.isa.specs.declared.instruction.Instruction.{Instruction}
use Rattle.isa.specs.declared.instruction.Instruction.TheVariants.{Alu, Move, Load, Store, Jump, Call, Return, ReturnFromInterrupt, DisableInterrupts, EnableInterrupts, Swap, Shift}
use Rattle.isa.specs.Operations.{keeps_result}
use Rattle.alu.specs.declared.flags.Flags.{Flags}
use Rattle.alu.specs.declared.outcome.Outcome.{Outcome}
use Rattle.alu.specs.Results.{computed, shifted, swapped}
use Rattle.bus.specs.Meaning.{Meaning, read, write}
use Rattle.machine.specs.declared.access.Access.{Access}
use Rattle.machine.specs.declared.access.Access.TheVariants.{Read, Write}
use Rattle.machine.specs.declared.processor.Processor.{Processor}
use Rattle.machine.specs.Processors.{at_pc, with_register, with_flags, register_of, value_of, next, went_on, top, pushed, popped}

-- a jump on this condition is taken
abbrev pub holds : Condition → Flags → Bool
holds Always f = true
holds Zero f = f.z
holds NotZero f = not f.z
holds Carry f = f.c
holds NoCarry f = not f.c
holds Negative f = f.n
holds NotNegative f = not f.n
holds Overflow f = f.v
holds NoOverflow f = not f.v

-- an outcome goes to the flags and to a register, or to the flags alone
abbrev pub with_outcome : Bool → RegisterName → Outcome → Processor → Processor
with_outcome true x o p = with_register x o.value (with_flags o.flags p)
with_outcome false x o p = with_flags o.flags p

-- an outcome goes to the flags, and to a register where one is named
abbrev pub kept : Option RegisterName → Outcome → Processor → Processor
kept (Some x) o p = with_register x o.value (with_flags o.flags p)
kept None o p = with_flags o.flags p

-- an operation on a register and a second operand
abbrev pub operated : AluOperation → RegisterName → Operand → Processor → Processor
operated op x o p = went_on (with_outcome (keeps_result op) x (computed op (register_of x p) (value_of o p) p.flags) p)

-- a register becomes the value of an operand
abbrev pub moved : RegisterName → Operand → Processor → Processor
moved x o p = went_on (with_register x (value_of o p) p)

-- a register becomes the byte that its load was answered
abbrev pub received : RegisterName → ℕ → Processor → Processor
received x byte p = went_on (with_register x byte p)

-- a jump goes to its target if it is taken, else on
abbrev pub jumped : Bool → ℕ → Processor → Processor
jumped taken a p = at_pc (cond taken a (next p.pc)) p

-- a call pushes the next address and the six flags, and goes to its target
abbrev pub called : Operand → Processor → Processor
called o p = at_pc (value_of o p) (pushed (next p.pc) p)

-- RTS takes back PC only
abbrev pub returned : Processor → Processor
returned p = at_pc (top p).pc (popped p)

-- RTI takes back PC and the six flags
abbrev pub returned_from_interrupt : Processor → Processor
returned_from_interrupt p = with_flags (top p).flags (at_pc (top p).pc (popped p))

-- IE as given; the other flags stay
abbrev pub with_enabled : Bool → Flags → Flags
with_enabled e f = record { z = f.z; c = f.c; n = f.n; v = f.v; ie = e; handling = f.handling }

-- STI and CLI set IE
abbrev pub enabled : Bool → Processor → Processor
enabled e p = went_on (with_flags (with_enabled e p.flags) p)

-- the halves of a register change places
abbrev pub halves_swapped : RegisterName → Processor → Processor
halves_swapped x p = went_on (with_outcome true x (swapped (register_of x p) p.flags) p)

-- a register is shifted or rotated
abbrev pub register_shifted : ShiftOperation → RegisterName → Processor → Processor
register_shifted op x p = went_on (with_outcome true x (shifted op (register_of x p) p.flags) p)

-- what the bus carries of a number: addresses and bytes have eight bits
abbrev pub byte : ℕ → ℕ
byte n = n % 256

-- a processor on a bus
pub record Station (S : Type 0) : Type 0 where
  pub processor : Processor
  pub bus : S

-- a station after a word, and the access that the word made
pub record Ran (S : Type 0) : Type 0 where
  pub station : Station S
  pub access : Option Access

-- a processor, a bus and an access as a word leaves them
abbrev pub ran_to : {S : Type 0} → Processor → S → Option Access → Ran S
ran_to p s access = record { station = record { processor = p; bus = s }; access = access }

module _ {S : Type 0} (m : Meaning S) where
  -- no access: the bus stays
  abbrev pub alone : Processor → S → Ran S
  alone p s = ran_to p s None

  -- a load reads the bus at an address
  abbrev pub loaded : RegisterName → ℕ → Processor → S → Ran S
  loaded x a p s = ran_to (received x (m.reads s a) p) (m.after s (read a)) (Some (Read a (m.reads s a)))

  -- a store writes a byte to the bus at an address
  abbrev pub stored : ℕ → ℕ → Processor → S → Ran S
  stored v a p s = ran_to (went_on p) (m.after s (write a v)) (Some (Write a v))

  -- what an instruction does
  abbrev pub executed : Instruction → Processor → S → Ran S
  executed (Alu op x o) p s = alone (operated op x o p) s
  executed (Move x o) p s = alone (moved x o p) s
  executed (Load x o) p s = loaded x (byte (value_of o p)) p s
  executed (Store x o) p s = stored (byte (register_of x p)) (byte (value_of o p)) p s
  executed (Jump c o) p s = alone (jumped (holds c p.flags) (value_of o p) p) s
  executed (Call o) p s = alone (called o p) s
  executed Return p s = alone (returned p) s
  executed ReturnFromInterrupt p s = alone (returned_from_interrupt p) s
  executed DisableInterrupts p s = alone (enabled false p) s
  executed EnableInterrupts p s = alone (enabled true p) s
  executed (Swap x) p s = alone (halves_swapped x p) s
  executed (Shift op x) p s = alone (register_shifted op x p) s

  -- an undefined word only moves the program counter
  abbrev pub ran : Option Instruction → Processor → S → Ran S
  ran None p s = alone (went_on p) s
  ran (Some i) p s = executed i p s
