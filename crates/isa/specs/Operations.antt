-- Operations on a register and a second operand.
use Rattle.std.specs.Prelude.{Bool, true, false}
use Rattle.isa.specs.declared.instruction.AluOperation.{AluOperation}
use Rattle.isa.specs.declared.instruction.AluOperation.TheVariants.{Add, Adc, Sub, Sbc, And, Or, Xor, Tst, Cmp}

-- the operation writes its result into its register: all but TST and CMP do
abbrev pub keeps_result : AluOperation → Bool
keeps_result Add = true
keeps_result Adc = true
keeps_result Sub = true
keeps_result Sbc = true
keeps_result And = true
keeps_result Or = true
keeps_result Xor = true
keeps_result Tst = false
keeps_result Cmp = false
