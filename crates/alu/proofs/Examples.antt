-- The results and flags of the examples.
use Rattle.std.proofs.Common.{rules}
use Rattle.alu.specs.declared.flags.Flags.{Flags}
use Rattle.alu.specs.Examples.{Arithmetic}

pub arithmetic : (f : Flags) → Arithmetic f
arithmetic f = search rules
