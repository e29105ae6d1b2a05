-- What holds of words and instructions: they correspond one to one.
use Rattle.std.specs.Prelude.{◌≡◌, ℕ, zero, suc, ◌+◌, ◌^◌, ◌<◌, Bool, true, false, is_some, Some, None, Option}
use Rattle.isa.specs.declared.instruction.Instruction.{Instruction}
use Rattle.isa.specs.declared.instruction.Instruction.TheVariants.{Alu, Move, Load, Store, Jump, Call, Return, ReturnFromInterrupt, DisableInterrupts, EnableInterrupts, Swap, Shift}
use Rattle.isa.specs.declared.instruction.Operand.{Operand}
use Rattle.isa.specs.declared.instruction.Operand.TheVariants.{Register, Constant}
use Rattle.isa.specs.Words.{encoded, decoded}

-- a constant is a byte
abbrev pub ByteOperand : Operand → Type 0
ByteOperand (Register y) = Unit {0}
ByteOperand (Constant k) = k < 2 ^ 8

-- its constant, if it has one, is a byte
abbrev pub ByteSized : Instruction → Type 0
ByteSized (Alu o x s) = ByteOperand s
ByteSized (Move x s) = ByteOperand s
ByteSized (Load x s) = ByteOperand s
ByteSized (Store x s) = ByteOperand s
ByteSized (Jump c s) = ByteOperand s
ByteSized (Call s) = ByteOperand s
ByteSized Return = Unit {0}
ByteSized ReturnFromInterrupt = Unit {0}
ByteSized DisableInterrupts = Unit {0}
ByteSized EnableInterrupts = Unit {0}
ByteSized (Swap x) = Unit {0}
ByteSized (Shift s x) = Unit {0}

-- the instruction has this word
abbrev pub HasWord : Instruction → ℕ → Type 0
HasWord i w = ByteSized i × (encoded i ≡ w)

-- the instruction that was found has this word, and where none was found no instruction has it
abbrev pub Corresponds : ℕ → Option Instruction → Type 0
Corresponds w (Some i) = HasWord i w
Corresponds w None = (i : Instruction) → HasWord i w → ⊥

-- a word that was made from an instruction is read as that instruction
abbrev pub ReadBack : Type 0
ReadBack = (i : Instruction) → ByteSized i → decoded (encoded i) ≡ Some i

-- an instruction that was read from a word has that word
abbrev pub WrittenBack : Type 0
WrittenBack = (w : ℕ) → w < 2 ^ 16 → (i : Instruction) → decoded w ≡ Some i → HasWord i w

-- 1 for a test that passes, else 0
abbrev pub tally : Bool → ℕ
tally true = 1
tally false = 0

-- how many of the 2 ^ k numbers from n on pass a test
abbrev pub passing : (ℕ → Bool) → ℕ → ℕ → ℕ
passing f n zero = tally (f n)
passing f n (suc k) = passing f n k + passing f (n + 2 ^ k) k

-- exactly 55,108 of the 65,536 words are defined
abbrev pub DefinedWords : Type 0
DefinedWords = passing (λ w. is_some (decoded w)) 0 16 ≡ 55108
