-- What peeks answer and what pokes leave.
use Rattle.std.specs.Prelude.{ℕ, Bool, cond, Ok, Err, Result, nat_lt, slice_index, slice_set}
use Rattle.refusal.specs.declared.refusal.Refusal.{Refusal}
use Rattle.refusal.specs.declared.refusal.Refusal.TheVariants.{Register as no_register, Port}
use Rattle.alu.specs.declared.flags.Flags.{Flags}
use Rattle.bus.specs.Meaning.{Meaning, read, write}
use Rattle.machine.specs.declared.processor.Processor.{Processor}
use Rattle.machine.specs.Processors.{at_pc, with_flags, top}
use Rattle.claims.specs.Calls as Calls
use Rattle.station.specs.declared.places.FlagName.{FlagName}
use Rattle.station.specs.declared.places.FlagName.TheVariants.{Z, C, N, V, Ie, If}
use Rattle.station.specs.declared.places.Place.{Place}
use Rattle.station.specs.declared.places.Place.TheVariants.{Register, Cell, Pc, Flag, Top}
use Rattle.station.specs.declared.places.Peeked.{Peeked}
use Rattle.station.specs.declared.places.Peeked.TheVariants.{Byte, Flag as Bit, Word}
use Rattle.station.specs.declared.places.ResultFlag.{ResultFlag}
use Rattle.station.specs.declared.places.ResultFlag.TheVariants.{Z as z_flag, C as c_flag, N as n_flag, V as v_flag}
use Rattle.station.specs.declared.places.Poke.{Poke}
use Rattle.station.specs.declared.places.Poke.TheVariants.{Register as to_register, Cell as to_cell, Pc as to_pc, Flag as to_flag}

-- the registers
abbrev pub register_count : ℕ
register_count = 16

-- the flag that the claims' calls name
abbrev pub flag_name : FlagName → Calls.FlagName
flag_name Z = Calls.Z
flag_name C = Calls.C
flag_name N = Calls.N
flag_name V = Calls.V
flag_name Ie = Calls.IE
flag_name If = Calls.IF

-- the place that the claims' calls name
abbrev pub place_of : Place → Calls.Place
place_of (Register n) = Calls.register n
place_of (Cell a) = Calls.cell a
place_of Pc = Calls.counter
place_of (Flag f) = Calls.flag (flag_name f)
place_of Top = Calls.top

-- a flag by its name
abbrev pub flag_of : FlagName → Flags → Bool
flag_of Z f = f.z
flag_of C f = f.c
flag_of N f = f.n
flag_of V f = f.v
flag_of Ie f = f.ie
flag_of If f = f.handling

-- one flag of a result set or cleared; the others stay
abbrev pub with_flag : ResultFlag → Bool → Flags → Flags
with_flag z_flag b f = record { z = b; c = f.c; n = f.n; v = f.v; ie = f.ie; handling = f.handling }
with_flag c_flag b f = record { z = f.z; c = b; n = f.n; v = f.v; ie = f.ie; handling = f.handling }
with_flag n_flag b f = record { z = f.z; c = f.c; n = b; v = f.v; ie = f.ie; handling = f.handling }
with_flag v_flag b f = record { z = f.z; c = f.c; n = f.n; v = b; ie = f.ie; handling = f.handling }

-- a register by its number
abbrev pub with_numbered : ℕ → ℕ → Processor → Processor
with_numbered n v p = record { pc = p.pc; registers = slice_set p.registers n v; flags = p.flags; stack = p.stack; sp = p.sp }

module _ {S : Type 0} (m : Meaning S) where
  -- what a peek answers: a register above 15 and a port are refused
  abbrev pub peek_answer : Place → Processor → S → Result Peeked Refusal
  peek_answer (Register n) p s = cond (nat_lt n register_count) (Ok (Byte (slice_index p.registers n))) (Err no_register)
  peek_answer (Cell a) p s = cond (m.keeps s a) (Ok (Byte (m.reads s a))) (Err Port)
  peek_answer Pc p s = Ok (Byte p.pc)
  peek_answer (Flag f) p s = Ok (Bit (flag_of f p.flags))
  peek_answer Top p s = Ok (Word (top p))

  -- the bus after a peek: a kept address is read, and nothing else is touched
  abbrev pub peek_bus : Place → S → S
  peek_bus (Register n) s = s
  peek_bus (Cell a) s = cond (m.keeps s a) (m.after s (read a)) s
  peek_bus Pc s = s
  peek_bus (Flag f) s = s
  peek_bus Top s = s

  -- what a poke answers: a register above 15 and a port are refused
  abbrev pub poke_answer : Poke → S → Result (Unit {0}) Refusal
  poke_answer (to_register n v) s = cond (nat_lt n register_count) (Ok tt) (Err no_register)
  poke_answer (to_cell a v) s = cond (m.keeps s a) (Ok tt) (Err Port)
  poke_answer (to_pc a) s = Ok tt
  poke_answer (to_flag f b) s = Ok tt

  -- the processor after a poke; a refused one leaves it
  abbrev pub poke_processor : Poke → Processor → Processor
  poke_processor (to_register n v) p = cond (nat_lt n register_count) (with_numbered n v p) p
  poke_processor (to_cell a v) p = p
  poke_processor (to_pc a) p = at_pc a p
  poke_processor (to_flag f b) p = with_flags (with_flag f b p.flags) p

  -- the bus after a poke: a kept address is written, and nothing else is touched
  abbrev pub poke_bus : Poke → S → S
  poke_bus (to_register n v) s = s
  poke_bus (to_cell a v) s = cond (m.keeps s a) (m.after s (write a v)) s
  poke_bus (to_pc a) s = s
  poke_bus (to_flag f b) s = s
