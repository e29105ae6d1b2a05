-- The words of the examples.
use Rattle.std.proofs.Common.{◌≡◌, ℕ, None, codes, refl, arith}
use Rattle.std.specs.Fmt.{digits}
use Rattle.isa.specs.declared.instruction.AluOperation.TheVariants.{Add}
use Rattle.isa.specs.declared.instruction.ShiftOperation.TheVariants.{Rol}
use Rattle.isa.specs.declared.instruction.Operand.TheVariants.{Register, Constant}
use Rattle.isa.specs.declared.instruction.Instruction.TheVariants.{Alu, Load, Store, Shift}
use Rattle.isa.specs.Words.{register, decoded}
use Rattle.isa.proofs.Back.{read_back}
use Rattle.examples.specs.Worked.{Written, Undefined}

-- a word that is read as nothing is no instruction's
pub undefined : (w : ℕ) → decoded w ≡ None → Undefined w
undefined w e i has = cc (e, has.1, read_back i has.0)

pub load : Written (codes "MOV r0, 0x00") (Load (register 0) (Constant 0x00)) 0xD000
unfolding register digits
load = (refl, (omega arith, refl))

pub add : Written (codes "ADD r1, r0") (Alu Add (register 1) (Register (register 0))) 0xF100
unfolding register digits
add = (refl, (tt, refl))

pub store : Written (codes "MOV 0x03, r1") (Store (register 1) (Constant 0x03)) 0x9103
unfolding register digits
store = (refl, (omega arith, refl))

pub rotate : Written (codes "ROL r3") (Shift Rol (register 3)) 0xF372
unfolding register digits
rotate = (refl, (tt, refl))
