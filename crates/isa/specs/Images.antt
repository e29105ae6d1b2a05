-- Images: words in a row.
use Rattle.std.specs.Prelude.{ℕ, List, map, None, Option, slice_index_or}
use Rattle.isa.specs.declared.instruction.Instruction.{Instruction}
use Rattle.isa.specs.Words.{decoded}

-- the instruction at an address of an image; undefined words hold none, and nothing stands past the image
abbrev pub instruction_in : List ℕ → ℕ → Option Instruction
instruction_in image a = slice_index_or (map decoded image) a None
