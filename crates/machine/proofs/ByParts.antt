-- A word does what its four parts say.
use Rattle.std.proofs.Common.{◌≡◌, Option, arith}
use Rattle.isa.specs.declared.instruction.Instruction.{Instruction}
use Rattle.bus.specs.Meaning.{Meaning}
use Rattle.machine.specs.declared.processor.Processor.{Processor}
use Rattle.machine.specs.Instructions.{ran}
use Rattle.machine.specs.Parts.{does, ran_by_parts}

pub by_parts : {S : Type 0} (m : Meaning S) (i : Option Instruction) (p : Processor) (s : S) → ran m i p s ≡ ran_by_parts m (does i) p s
by_parts m i p s = grind arith
