-- The text of instructions, in the assembler's form.
use Rattle.std.specs.Prelude.{◌≡◌, ℕ, List, ◌++◌, codes, decimal}
use Rattle.hexadecimal.specs.Hexadecimal.{two_digits}
use Rattle.isa.specs.Laws.{ByteSized}
use Rattle.isa.specs.declared.register.RegisterName.{RegisterName}
use Rattle.isa.specs.declared.instruction.Operand.{Operand}
use Rattle.isa.specs.declared.instruction.Operand.TheVariants.{Register, Constant}
use Rattle.isa.specs.declared.instruction.AluOperation.{AluOperation}
use Rattle.isa.specs.declared.instruction.AluOperation.TheVariants.{Add, Adc, Sub, Sbc, And, Or, Xor, Tst, Cmp}
use Rattle.isa.specs.declared.instruction.ShiftOperation.{ShiftOperation}
use Rattle.isa.specs.declared.instruction.ShiftOperation.TheVariants.{Sl0, Sl1, Sr0, Sr1, Asr, Rol, Ror, Rlc, Rrc}
use Rattle.isa.specs.declared.instruction.Condition.{Condition}
use Rattle.isa.specs.declared.instruction.Condition.TheVariants.{Always, Zero, NotZero, Carry, NoCarry, Negative, NotNegative, Overflow, NoOverflow}
use Rattle.isa.specs.declared.instruction.Instruction.{Instruction}
use Rattle.isa.specs.declared.instruction.Instruction.TheVariants.{Alu, Move, Load, Store, Jump, Call, Return, ReturnFromInterrupt, DisableInterrupts, EnableInterrupts, Swap, Shift}

-- the mnemonic of an operation on two operands
abbrev pub alu_mnemonic : AluOperation → List ℕ
alu_mnemonic Add = codes "ADD"
alu_mnemonic Adc = codes "ADC"
alu_mnemonic Sub = codes "SUB"
alu_mnemonic Sbc = codes "SBC"
alu_mnemonic And = codes "AND"
alu_mnemonic Or = codes "OR"
alu_mnemonic Xor = codes "XOR"
alu_mnemonic Tst = codes "TST"
alu_mnemonic Cmp = codes "CMP"

-- the mnemonic of a shift or rotate
abbrev pub shift_mnemonic : ShiftOperation → List ℕ
shift_mnemonic Sl0 = codes "SL0"
shift_mnemonic Sl1 = codes "SL1"
shift_mnemonic Sr0 = codes "SR0"
shift_mnemonic Sr1 = codes "SR1"
shift_mnemonic Asr = codes "ASR"
shift_mnemonic Rol = codes "ROL"
shift_mnemonic Ror = codes "ROR"
shift_mnemonic Rlc = codes "RLC"
shift_mnemonic Rrc = codes "RRC"

-- the mnemonic of a jump on a condition
abbrev pub jump_mnemonic : Condition → List ℕ
jump_mnemonic Always = codes "JMP"
jump_mnemonic Zero = codes "JZ"
jump_mnemonic NotZero = codes "JNZ"
jump_mnemonic Carry = codes "JC"
jump_mnemonic NoCarry = codes "JNC"
jump_mnemonic Negative = codes "JN"
jump_mnemonic NotNegative = codes "JNN"
jump_mnemonic Overflow = codes "JV"
jump_mnemonic NoOverflow = codes "JNV"

-- two texts with a space between them
abbrev pub with_space : List ℕ → List ℕ → List ℕ
with_space a b = a ++ (codes " " ++ b)

-- two texts with a comma and a space between them
abbrev pub with_comma : List ℕ → List ℕ → List ℕ
with_comma a b = a ++ (codes ", " ++ b)

-- a register: r and its number in decimal
abbrev pub register_text : RegisterName → List ℕ
register_text x = codes "r" ++ decimal x.number

-- an operand whose value is meant: a register, or # and a constant
abbrev pub value_text : Operand → List ℕ
value_text (Register y) = register_text y
value_text (Constant k) = codes "#0x" ++ two_digits k

-- an operand that is an address: a register in parentheses, or a constant
abbrev pub address_text : Operand → List ℕ
address_text (Register y) = codes "(" ++ (register_text y ++ codes ")")
address_text (Constant k) = codes "0x" ++ two_digits k

-- the text of an instruction
abbrev pub text_of : Instruction → List ℕ
text_of (Alu o x s) = with_space (alu_mnemonic o) (with_comma (register_text x) (value_text s))
text_of (Move x s) = with_space (codes "MOV") (with_comma (register_text x) (value_text s))
text_of (Load x s) = with_space (codes "MOV") (with_comma (register_text x) (address_text s))
text_of (Store x s) = with_space (codes "MOV") (with_comma (address_text s) (register_text x))
text_of (Jump c s) = with_space (jump_mnemonic c) (address_text s)
text_of (Call s) = with_space (codes "JSR") (address_text s)
text_of Return = codes "RTS"
text_of ReturnFromInterrupt = codes "RTI"
text_of DisableInterrupts = codes "CLI"
text_of EnableInterrupts = codes "STI"
text_of (Swap x) = with_space (codes "SWP") (register_text x)
text_of (Shift s x) = with_space (shift_mnemonic s) (register_text x)

-- different instructions have different text
abbrev pub DifferentTexts : Type 0
DifferentTexts = (i j : Instruction) → ByteSized i → ByteSized j → text_of i ≡ text_of j → i ≡ j
