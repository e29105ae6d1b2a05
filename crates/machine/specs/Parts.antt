-- A word in four parts: the register it writes, the flags it sets, its use of the bus, and where it leads.
-- A second view of what instructions do, for proofs that go by part and not by instruction.
use Rattle.std.specs.Prelude.{◌≡◌, ℕ, Bool, true, false, cond, List, Some, None, Option, slice_set}
use Rattle.isa.specs.declared.register.RegisterName.{RegisterName}
use Rattle.isa.specs.declared.instruction.Operand.{Operand}
use Rattle.isa.specs.declared.instruction.Operand.TheVariants.{Constant}
use Rattle.isa.specs.declared.instruction.AluOperation.{AluOperation}
use Rattle.isa.specs.declared.instruction.AluOperation.TheVariants.{Add, Adc, Sub, Sbc, And, Or, Xor, Tst, Cmp}
use Rattle.isa.specs.declared.instruction.Condition.{Condition}
use Rattle.isa.specs.declared.instruction.Condition.TheVariants.{Always, Zero, NotZero, Carry, NoCarry, Negative, NotNegative, Overflow, NoOverflow}
use Rattle.isa.specs.declared.instruction.Instruction.{Instruction}
use Rattle.isa.specs.declared.instruction.Instruction.TheVariants.{Alu, Move, Load, Store, Jump, Call, Return, ReturnFromInterrupt, DisableInterrupts, EnableInterrupts, Swap, Shift}
use Rattle.isa.specs.Images.{instruction_in}
use Rattle.alu.specs.declared.flags.Flags.{Flags}
use Rattle.alu.specs.Results.{computed, shifted, swapped}
use Rattle.bus.specs.Meaning as Bus
use Rattle.bus.specs.Meaning.{Meaning}
use Rattle.machine.specs.declared.access.Access.{Access}
use Rattle.machine.specs.declared.access.Access.TheVariants.{Read, Write}
use Rattle.machine.specs.declared.pointer.StackPointer.{StackPointer}
use Rattle.machine.specs.declared.processor.Processor.{Processor}
use Rattle.machine.specs.declared.processor.Saved.{Saved}
use Rattle.machine.specs.Processors.{raised, lowered, saved, register_in, value_in, next, top}
use Rattle.machine.specs.Instructions.{holds, with_enabled, byte, Station, Ran}
use Rattle.machine.specs.Steps.{clocked, word_run}

-- the register that a word writes: with what it computes from its old value, an operand and the flags, or with what its load is answered
pub data Result : Type 0 where
  none : Result
  computes : (ℕ → ℕ → Flags → ℕ) → RegisterName → Operand → Result
  receives : RegisterName → Result

-- the flags that a word sets: Z, C, N and V from a register, an operand and the flags, or IE
pub data Judgement : Type 0 where
  none : Judgement
  judges : (ℕ → ℕ → Flags → Flags) → RegisterName → Operand → Judgement
  enables : Bool → Judgement

-- the bus access of a word: a load from the operand's address, or a store of a register to it
pub data Use : Type 0 where
  none : Use
  load : Operand → Use
  store : RegisterName → Operand → Use

-- where a word leads; an undefined word leads nowhere, and PC moves on
pub data Way : Type 0 where
  on : Way
  branch : (Flags → Bool) → Operand → Way
  jump call : Operand → Way
  return return_interrupt : Way
  nowhere : Way

-- what a word does, in four parts
pub record Action : Type 0 where
  pub result : Result
  pub judgement : Judgement
  pub use_of : Use
  pub way : Way

-- TST and CMP write no register
abbrev pub result_of : AluOperation → RegisterName → Operand → Result
result_of Add x o = computes (λ a b f. (computed Add a b f).value) x o
result_of Adc x o = computes (λ a b f. (computed Adc a b f).value) x o
result_of Sub x o = computes (λ a b f. (computed Sub a b f).value) x o
result_of Sbc x o = computes (λ a b f. (computed Sbc a b f).value) x o
result_of And x o = computes (λ a b f. (computed And a b f).value) x o
result_of Or x o = computes (λ a b f. (computed Or a b f).value) x o
result_of Xor x o = computes (λ a b f. (computed Xor a b f).value) x o
result_of Tst x o = none
result_of Cmp x o = none

-- a jump without a condition leads to its target only
abbrev pub way_of : Condition → Operand → Way
way_of Always o = jump o
way_of Zero o = branch (holds Zero) o
way_of NotZero o = branch (holds NotZero) o
way_of Carry o = branch (holds Carry) o
way_of NoCarry o = branch (holds NoCarry) o
way_of Negative o = branch (holds Negative) o
way_of NotNegative o = branch (holds NotNegative) o
way_of Overflow o = branch (holds Overflow) o
way_of NoOverflow o = branch (holds NoOverflow) o

-- the parts of a word
abbrev pub does : Option Instruction → Action
does None = record { result = none; judgement = none; use_of = none; way = nowhere }
does (Some (Alu op x o)) = record { result = result_of op x o; judgement = judges (λ a b f. (computed op a b f).flags) x o; use_of = none; way = on }
does (Some (Move x o)) = record { result = computes (λ a b f. b) x o; judgement = none; use_of = none; way = on }
does (Some (Load x o)) = record { result = receives x; judgement = none; use_of = load o; way = on }
does (Some (Store x o)) = record { result = none; judgement = none; use_of = store x o; way = on }
does (Some (Jump c o)) = record { result = none; judgement = none; use_of = none; way = way_of c o }
does (Some (Call o)) = record { result = none; judgement = none; use_of = none; way = call o }
does (Some Return) = record { result = none; judgement = none; use_of = none; way = return }
does (Some ReturnFromInterrupt) = record { result = none; judgement = none; use_of = none; way = return_interrupt }
does (Some DisableInterrupts) = record { result = none; judgement = enables false; use_of = none; way = on }
does (Some EnableInterrupts) = record { result = none; judgement = enables true; use_of = none; way = on }
does (Some (Swap x)) = record { result = computes (λ a b f. (swapped a f).value) x (Constant 0); judgement = judges (λ a b f. (swapped a f).flags) x (Constant 0); use_of = none; way = on }
does (Some (Shift op x)) = record { result = computes (λ a b f. (shifted op a f).value) x (Constant 0); judgement = judges (λ a b f. (shifted op a f).flags) x (Constant 0); use_of = none; way = on }

-- what a word asks of the bus
pub data Request : Type 0 where
  nothing : Request
  read : ℕ → Request
  write : ℕ → ℕ → Request

-- the request of a use, with these registers
abbrev pub request : Use → List ℕ → Request
request none registers = nothing
request (load o) registers = read (byte (value_in o registers))
request (store x o) registers = write (byte (value_in o registers)) (byte (register_in x registers))

-- the registers after a word whose load, if any, is answered so
abbrev pub registers_after : Result → ℕ → Flags → List ℕ → List ℕ
registers_after none answer flags registers = registers
registers_after (computes f x o) answer flags registers = slice_set registers x.number (f (register_in x registers) (value_in o registers) flags)
registers_after (receives x) answer flags registers = slice_set registers x.number answer

-- Z, C, N and V of the first, IE and IF of the second
abbrev pub with_result_flags : Flags → Flags → Flags
with_result_flags new flags = record { z = new.z; c = new.c; n = new.n; v = new.v; ie = flags.ie; handling = flags.handling }

-- the flags that a word sets, before a return takes any back
abbrev pub flags_set : Judgement → List ℕ → Flags → Flags
flags_set none registers flags = flags
flags_set (judges g x o) registers flags = with_result_flags (g (register_in x registers) (value_in o registers) flags) flags
flags_set (enables e) registers flags = with_enabled e flags

-- RTI takes the six flags back
abbrev pub flags_after : Way → Saved → Flags → Flags
flags_after on word flags = flags
flags_after (branch c o) word flags = flags
flags_after (jump o) word flags = flags
flags_after (call o) word flags = flags
flags_after return word flags = flags
flags_after return_interrupt word flags = word.flags
flags_after nowhere word flags = flags

-- the program counter after a word
abbrev pub pc_after : Way → Saved → List ℕ → Flags → ℕ → ℕ
pc_after on word registers flags pc = next pc
pc_after (branch c o) word registers flags pc = cond (c flags) (value_in o registers) (next pc)
pc_after (jump o) word registers flags pc = value_in o registers
pc_after (call o) word registers flags pc = value_in o registers
pc_after return word registers flags pc = word.pc
pc_after return_interrupt word registers flags pc = word.pc
pc_after nowhere word registers flags pc = next pc

-- what a word does to the stack
pub data Stacking : Type 0 where
  stays pushes pops : Stacking

-- calls push, returns pop
abbrev pub stacking : Way → Stacking
stacking on = stays
stacking (branch c o) = stays
stacking (jump o) = stays
stacking (call o) = pushes
stacking return = pops
stacking return_interrupt = pops
stacking nowhere = stays

-- the stack's places after a word that pushes so
abbrev pub stack_after : Stacking → Saved → List Saved → StackPointer → List Saved
stack_after stays word stack sp = stack
stack_after pushes word stack sp = slice_set stack sp.place word
stack_after pops word stack sp = stack

-- the stack pointer after a word
abbrev pub sp_after : Stacking → StackPointer → StackPointer
sp_after stays sp = sp
sp_after pushes sp = raised sp
sp_after pops sp = lowered sp

-- the processor after a word whose load, if any, is answered so
abbrev pub processor_after : Action → ℕ → Processor → Processor
processor_after act answer p = record {
  pc = pc_after act.way (top p) p.registers p.flags p.pc;
  registers = registers_after act.result answer p.flags p.registers;
  flags = flags_after act.way (top p) (flags_set act.judgement p.registers p.flags);
  stack = stack_after (stacking act.way) (saved (next p.pc) p.flags) p.stack p.sp;
  sp = sp_after (stacking act.way) p.sp;
}

module _ {S : Type 0} (m : Meaning S) where
  -- what a read is answered
  abbrev pub answer : Request → S → ℕ
  answer nothing s = 0
  answer (read a) s = m.reads s a
  answer (write a v) s = 0

  -- the bus after a request
  abbrev pub after_request : Request → S → S
  after_request nothing s = s
  after_request (read a) s = m.after s (Bus.read a)
  after_request (write a v) s = m.after s (Bus.write a v)

  -- the access that a request makes
  abbrev pub access_made : Request → S → Option Access
  access_made nothing s = None
  access_made (read a) s = Some (Read a (m.reads s a))
  access_made (write a v) s = Some (Write a v)

  -- a word, by its parts
  abbrev pub ran_by_parts : Action → Processor → S → Ran S
  ran_by_parts act p s =
      let q : Request = request act.use_of p.registers in
      record { station = record { processor = processor_after act (answer q s) p; bus = after_request q s }; access = access_made q s }

  -- the word at PC does what its parts say
  abbrev pub WordInParts : List ℕ → Station S → Type 0
  WordInParts image st = word_run m image st ≡ ran_by_parts (does (instruction_in image st.processor.pc)) st.processor (clocked m st.bus)
