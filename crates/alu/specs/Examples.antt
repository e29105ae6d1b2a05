-- Worked examples of results with their flags.
use Rattle.std.specs.Prelude.{◌≡◌, ℕ, Bool, true, false}
use Rattle.isa.specs.declared.instruction.AluOperation.TheVariants.{Add, Sub, Sbc}
use Rattle.isa.specs.declared.instruction.ShiftOperation.TheVariants.{Asr}
use Rattle.alu.specs.declared.flags.Flags.{Flags}
use Rattle.alu.specs.declared.outcome.Outcome.{Outcome}
use Rattle.alu.specs.Results.{computed, shifted}

-- an outcome has this value, and C and V
pub record Leaves (byte : ℕ) (c v : Bool) (r : Outcome) : Type 0 where
  pub value : r.value ≡ byte
  pub carry : r.flags.c ≡ c
  pub overflow : r.flags.v ≡ v

-- results and flags, whatever the flags were before
pub record Arithmetic (f : Flags) : Type 0 where
  pub sum : Leaves 0x80 false true (computed Add 0x7F 0x01 f) × ((computed Add 0x7F 0x01 f).flags.n ≡ true)
  pub borrow : Leaves 0xFF true false (computed Sub 0x00 0x01 f)
  pub difference : Leaves 0x7F false true (computed Sub 0x80 0x01 f)
  pub borrow_taken_in : f.c ≡ true → Leaves 0x00 true false (computed Sbc 0x00 0xFF f) × ((computed Sbc 0x00 0xFF f).flags.z ≡ true)
  pub halving : ((shifted Asr 0x81 f).value ≡ 0xC0) × ((shifted Asr 0x81 f).flags.c ≡ true)
