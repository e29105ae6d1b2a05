-- The processor's parts, each read or changed alone.
use Rattle.std.specs.Prelude.{ℕ, ◌+◌, ◌%◌, false, List, replicate, slice_index, slice_index_or, slice_set}
use Rattle.std.proofs.Common.{mod-lt, lit<}
use Rattle.isa.specs.declared.register.RegisterName.{RegisterName}
use Rattle.isa.specs.declared.instruction.Operand.{Operand}
use Rattle.isa.specs.declared.instruction.Operand.TheVariants.{Register, Constant}
use Rattle.alu.specs.declared.flags.Flags.{Flags}
use Rattle.machine.specs.declared.pointer.StackPointer.{StackPointer}
use Rattle.machine.specs.declared.processor.Processor.{Processor}
use Rattle.machine.specs.declared.processor.Saved.{Saved}

-- how many stack places there are
abbrev pub places : ℕ
places = 16

-- the stack pointer at a place, modulo 16
unfoldable pub pointer : ℕ → StackPointer
pointer n = record { place = n % places; small = mod-lt n (lit< tt) }

-- one place up, from 15 to 0
abbrev pub raised : StackPointer → StackPointer
raised s = pointer (s.place + 1)

-- one place down, from 0 to 15
abbrev pub lowered : StackPointer → StackPointer
lowered s = pointer (s.place + 15)

-- a stack word: an address and the six flags
abbrev pub saved : ℕ → Flags → Saved
saved a f = record { pc = a; flags = f }

-- all six flags are 0
abbrev pub no_flags : Flags
no_flags = record { z = false; c = false; n = false; v = false; ie = false; handling = false }

-- the processor all 0
abbrev pub fresh : Processor
fresh = record { pc = 0; registers = replicate 16 0; flags = no_flags; stack = replicate places (saved 0 no_flags); sp = pointer 0 }

-- the program counter at an address
abbrev pub at_pc : ℕ → Processor → Processor
at_pc a p = record { pc = a; registers = p.registers; flags = p.flags; stack = p.stack; sp = p.sp }

-- a register with a value
abbrev pub with_register : RegisterName → ℕ → Processor → Processor
with_register x v p = record { pc = p.pc; registers = slice_set p.registers x.number v; flags = p.flags; stack = p.stack; sp = p.sp }

-- the six flags as given
abbrev pub with_flags : Flags → Processor → Processor
with_flags f p = record { pc = p.pc; registers = p.registers; flags = f; stack = p.stack; sp = p.sp }

-- the value of a register
abbrev pub register_in : RegisterName → List ℕ → ℕ
register_in x registers = slice_index registers x.number

-- the value of a second operand: a register's, or the constant
abbrev pub value_in : Operand → List ℕ → ℕ
value_in (Register y) registers = register_in y registers
value_in (Constant k) registers = k

-- the value of a register of the processor
abbrev pub register_of : RegisterName → Processor → ℕ
register_of x p = register_in x p.registers

-- the value of a second operand in the processor
abbrev pub value_of : Operand → Processor → ℕ
value_of o p = value_in o p.registers

-- the address behind another: 255 is followed by 0
abbrev pub next : ℕ → ℕ
next a = (a + 1) % 256

-- the program counter goes on by one
abbrev pub went_on : Processor → Processor
went_on p = at_pc (next p.pc) p

-- the word that was pushed last
abbrev pub top : Processor → Saved
top p = slice_index_or p.stack (lowered p.sp).place (saved 0 no_flags)

-- a push stores an address and the six flags at SP and goes one place up
abbrev pub pushed : ℕ → Processor → Processor
pushed a p = record { pc = p.pc; registers = p.registers; flags = p.flags; stack = slice_set p.stack p.sp.place (saved a p.flags); sp = raised p.sp }

-- a pop goes one place down
abbrev pub popped : Processor → Processor
popped p = record { pc = p.pc; registers = p.registers; flags = p.flags; stack = p.stack; sp = lowered p.sp }
