-- The words of the instructions. A word has four hexadecimal digits; X and Y name registers, K is a byte.
use Rattle.std.specs.Prelude.{ℕ, ◌+◌, ◌*◌, ◌/◌, ◌%◌, Bool, true, false, not, ◌&&◌, Some, None, Option, ◌==◌, nat_le}
use Rattle.std.proofs.Common.{mod-lt, lit<}
use Rattle.isa.specs.declared.register.RegisterName.{RegisterName}
use Rattle.isa.specs.declared.instruction.Operand.{Operand}
use Rattle.isa.specs.declared.instruction.Operand.TheVariants.{Register, Constant}
use Rattle.isa.specs.declared.instruction.AluOperation.{AluOperation}
use Rattle.isa.specs.declared.instruction.AluOperation.TheVariants.{Add, Adc, Sub, Sbc, And, Or, Xor, Tst, Cmp}
use Rattle.isa.specs.declared.instruction.ShiftOperation.{ShiftOperation}
use Rattle.isa.specs.declared.instruction.ShiftOperation.TheVariants.{Sl0, Sl1, Sr0, Sr1, Asr, Rol, Ror, Rlc, Rrc}
use Rattle.isa.specs.declared.instruction.Condition.{Condition}
use Rattle.isa.specs.declared.instruction.Condition.TheVariants.{Always, Zero, NotZero, Carry, NoCarry, Negative, NotNegative, Overflow, NoOverflow}
use Rattle.isa.specs.declared.instruction.Instruction.{Instruction}
use Rattle.isa.specs.declared.instruction.Instruction.TheVariants.{Alu, Move, Load, Store, Jump, Call, Return, ReturnFromInterrupt, DisableInterrupts, EnableInterrupts, Swap, Shift}

-- the code of an operation on two operands
abbrev pub alu_code : AluOperation → ℕ
alu_code Add = 0
alu_code Adc = 1
alu_code Sub = 2
alu_code Sbc = 3
alu_code And = 4
alu_code Or = 5
alu_code Xor = 6
alu_code Tst = 8
alu_code Cmp = 10

-- the code of a shift or rotate
abbrev pub shift_code : ShiftOperation → ℕ
shift_code Sl0 = 0
shift_code Sr0 = 1
shift_code Rol = 2
shift_code Ror = 3
shift_code Sl1 = 4
shift_code Sr1 = 5
shift_code Rlc = 6
shift_code Rrc = 7
shift_code Asr = 9

-- the code of a jump on a condition
abbrev pub jump_code : Condition → ℕ
jump_code Always = 0
jump_code Zero = 1
jump_code NotZero = 2
jump_code Carry = 3
jump_code NoCarry = 4
jump_code Negative = 5
jump_code NotNegative = 6
jump_code Overflow = 7
jump_code NoOverflow = 8

-- oXKK and FXoY: the word of code o with digit X and a second operand
abbrev pub operand_word : ℕ → ℕ → Operand → ℕ
operand_word o x (Constant k) = o * 0x1000 + x * 0x100 + k
operand_word o x (Register y) = 0xF000 + x * 0x100 + o * 0x10 + y.number

-- the word of code o with register X and a second operand
abbrev pub two_operand : ℕ → RegisterName → Operand → ℕ
two_operand o x s = operand_word o x.number s

-- BcKK and FcBY: the word of jump c to an operand
abbrev pub jump_to : ℕ → Operand → ℕ
jump_to c s = operand_word 0xB c s

-- the word of an instruction
abbrev pub encoded : Instruction → ℕ
encoded (Alu o x s) = two_operand (alu_code o) x s
encoded (Move x s) = two_operand 0xC x s
encoded (Load x s) = two_operand 0xD x s
encoded (Store x s) = two_operand 0x9 x s
encoded (Jump c s) = jump_to (jump_code c) s
encoded (Call s) = jump_to 9 s
encoded Return = 0xBA00
encoded ReturnFromInterrupt = 0xBB00
encoded DisableInterrupts = 0xBC00
encoded EnableInterrupts = 0xBD00
encoded (Swap x) = 0x7000 + x.number * 0x100
encoded (Shift s x) = 0xF070 + x.number * 0x100 + shift_code s

-- the register that a digit names
unfoldable pub register : ℕ → RegisterName
register n = record { number = n % 16; small = mod-lt n (lit< tt) }

-- what a test picks, or else what comes after it
abbrev pub pick : {A : Type 0} → Bool → A → Option A → Option A
pick true a rest = Some a
pick false a rest = rest

-- the instruction of code o with register X and a second operand
abbrev pub operand_form : ℕ → RegisterName → Operand → Option Instruction
operand_form o x s =
    pick (o == 0x0) (Alu Add x s)
    (pick (o == 0x1) (Alu Adc x s)
    (pick (o == 0x2) (Alu Sub x s)
    (pick (o == 0x3) (Alu Sbc x s)
    (pick (o == 0x4) (Alu And x s)
    (pick (o == 0x5) (Alu Or x s)
    (pick (o == 0x6) (Alu Xor x s)
    (pick (o == 0x8) (Alu Tst x s)
    (pick (o == 0xA) (Alu Cmp x s)
    (pick (o == 0xC) (Move x s)
    (pick (o == 0xD) (Load x s)
    (pick (o == 0x9) (Store x s) None)))))))))))

-- the jump or call of code c to an operand
abbrev pub jump_form : ℕ → Operand → Option Instruction
jump_form c s =
    pick (c == 0) (Jump Always s)
    (pick (c == 1) (Jump Zero s)
    (pick (c == 2) (Jump NotZero s)
    (pick (c == 3) (Jump Carry s)
    (pick (c == 4) (Jump NoCarry s)
    (pick (c == 5) (Jump Negative s)
    (pick (c == 6) (Jump NotNegative s)
    (pick (c == 7) (Jump Overflow s)
    (pick (c == 8) (Jump NoOverflow s)
    (pick (c == 9) (Call s) None)))))))))

-- the shift of code s
abbrev pub shift_form : ℕ → RegisterName → Option Instruction
shift_form s x =
    pick (s == 0) (Shift Sl0 x)
    (pick (s == 1) (Shift Sr0 x)
    (pick (s == 2) (Shift Rol x)
    (pick (s == 3) (Shift Ror x)
    (pick (s == 4) (Shift Sl1 x)
    (pick (s == 5) (Shift Sr1 x)
    (pick (s == 6) (Shift Rlc x)
    (pick (s == 7) (Shift Rrc x)
    (pick (s == 9) (Shift Asr x) None))))))))

-- FX.. by its last two digits
abbrev pub register_form : ℕ → ℕ → ℕ → Option Instruction
register_form x o y =
    elim (o == 0xB) [
      | true ↦ jump_form x (Register (register y))
      | false ↦ elim (o == 0x7) [ true ↦ shift_form y (register x) | false ↦ operand_form o (register x) (Register (register y)) ]
    ]

-- BXKK: a jump to K, or one of four words with K = 0
abbrev pub flow_form : ℕ → ℕ → Option Instruction
flow_form x k =
    elim (nat_le x 9) [
      | true ↦ jump_form x (Constant k)
      | false ↦ elim (k == 0) [
        | true ↦ pick (x == 0xA) Return (pick (x == 0xB) ReturnFromInterrupt (pick (x == 0xC) DisableInterrupts (pick (x == 0xD) EnableInterrupts None)))
        | false ↦ None
      ]
    ]

-- a word by its four digits: the first, X, the third and Y; K is the byte of the last two
abbrev pub word_form : ℕ → ℕ → ℕ → ℕ → Option Instruction
word_form o x p y =
    elim (o == 0xF) [
      | true ↦ register_form x p y
      | false ↦ elim (o == 0xB) [
        | true ↦ flow_form x (p * 0x10 + y)
        | false ↦ elim (o == 0x7) [ true ↦ pick (p * 0x10 + y == 0) (Swap (register x)) None | false ↦ operand_form o (register x) (Constant (p * 0x10 + y)) ]
      ]
    ]

-- the instruction that a word holds, if it is defined
abbrev pub decoded : ℕ → Option Instruction
decoded w = word_form (w / 0x1000) (w / 0x100 % 0x10) (w % 0x100 / 0x10) (w % 0x10)

-- the codes that take a second operand: 0 to D without 7 and B
abbrev pub takes_operand : ℕ → Bool
takes_operand o = nat_le o 0xD && not (o == 0x7) && not (o == 0xB)
