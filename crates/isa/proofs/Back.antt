-- A word that was made from an instruction is read as that instruction.
use Rattle.std.proofs.Common.{◌≡◌, ℕ, ◌+◌, ◌*◌, ◌/◌, ◌%◌, ◌<◌, ◌≢◌, Some, refl, ap, ◌∙◌, subst, arith}
use native.Mathlib.Bridge.{le_prop}
use Rattle.isa.specs.declared.register.RegisterName.{RegisterName}
use Rattle.isa.specs.declared.instruction.Operand.{Operand}
use Rattle.isa.specs.declared.instruction.Operand.TheVariants.{Register, Constant}
use Rattle.isa.specs.declared.instruction.AluOperation.{AluOperation}
use Rattle.isa.specs.declared.instruction.Instruction.TheVariants.{Alu, Move, Load, Store, Jump, Call, Return, ReturnFromInterrupt, DisableInterrupts, EnableInterrupts, Swap, Shift}
use Rattle.isa.specs.Words.{alu_code, shift_code, jump_code, two_operand, jump_to, encoded, register, decoded, word_form, register_form, operand_form, jump_form, shift_form}
use Rattle.isa.specs.Laws.{ReadBack, ByteOperand}

-- two names of one number are one name
pub same_name : (x y : RegisterName) → x.number ≡ y.number → x ≡ y
same_name x y e =
    let made : (n : ℕ) → n < 16 → RegisterName = λ n p. record { number = n; small = p } in
    subst (λ (n : ℕ). (q : n < 16) → x ≡ made n q) e (λ q. ap (made x.number) (le_prop x.small q)) y.small

pub named : (x : RegisterName) → register x.number ≡ x
unfolding register
named x = same_name (register x.number) x (omega arith)

-- a word is read by its digits
pub at_digits : (o x p y w : ℕ) → x < 16 → p < 16 → y < 16 → w ≡ o * 0x1000 + x * 0x100 + p * 0x10 + y → decoded w ≡ word_form o x p y
at_digits o x p y w hx hp hy e =
    let first : w / 0x1000 ≡ o = omega arith in
    let second : w / 0x100 % 0x10 ≡ x = omega arith in
    let third : w % 0x100 / 0x10 ≡ p = omega arith in
    let fourth : w % 0x10 ≡ y = omega arith in
    simp (first, second, third, fourth)

-- the byte of two digits
byte_of : (k : ℕ) → k / 0x10 * 0x10 + k % 0x10 ≡ k
byte_of k = omega arith

at_constant : (o x k w : ℕ) → x < 16 → k < 256 → w ≡ o * 0x1000 + x * 0x100 + k → decoded w ≡ word_form o x (k / 0x10) (k % 0x10)
at_constant o x k w hx hk e = at_digits o x (k / 0x10) (k % 0x10) w hx (omega arith) (omega arith) (omega arith)

at_register : (x o y w : ℕ) → x < 16 → o < 16 → y < 16 → w ≡ 0xF000 + x * 0x100 + o * 0x10 + y → decoded w ≡ register_form x o y
at_register x o y w hx ho hy e = at_digits 0xF x o y w hx ho hy (omega arith)

-- a code that takes a second operand is none of the three that say how to read on
abbrev Plain : ℕ → Type 0
Plain o = (o < 15) × (o ≢ 0x7) × (o ≢ 0xB)

plain_digits : (o x p y : ℕ) → Plain o → word_form o x p y ≡ operand_form o (register x) (Constant (p * 0x10 + y))
plain_digits o x p y h = grind arith

plain_constant : (o x k : ℕ) → Plain o → word_form o x (k / 0x10) (k % 0x10) ≡ operand_form o (register x) (Constant k)
plain_constant o x k h = rw byte_of at (plain_digits o x (k / 0x10) (k % 0x10) h)

plain_register : (x o y : ℕ) → Plain o → register_form x o y ≡ operand_form o (register x) (Register (register y))
plain_register x o y h = grind arith

two_back : (o : ℕ) (x : RegisterName) (s : Operand) → Plain o → ByteOperand s → decoded (two_operand o x s) ≡ operand_form o x s
two_back o x (Constant k) p h =
    cc (at_constant o x.number k _ x.small h refl, plain_constant o x.number k p, named x)
two_back o x (Register y) p h =
    cc (at_register x.number o y.number _ x.small (omega arith) y.small refl, plain_register x.number o y.number p, named x, named y)

jump_back : (c : ℕ) (s : Operand) → c < 10 → ByteOperand s → decoded (jump_to c s) ≡ jump_form c s
jump_back c (Constant k) p h =
    let digits : word_form 0xB c (k / 0x10) (k % 0x10) ≡ jump_form c (Constant k) = grind (arith, byte_of) in
    cc (at_constant 0xB c k _ (omega arith) h refl, digits)
jump_back c (Register y) p h =
    cc (at_register c 0xB y.number _ (omega arith) (omega arith) y.small refl, named y)

alu_plain : (o : AluOperation) → Plain (alu_code o)
alu_plain o = grind arith

alu_form : (o : AluOperation) (x : RegisterName) (s : Operand) → operand_form (alu_code o) x s ≡ Some (Alu o x s)
alu_form o x s = grind arith

pub read_back : ReadBack
read_back (Alu o x s) h = two_back (alu_code o) x s (alu_plain o) h ∙ alu_form o x s
read_back (Move x s) h = two_back 0xC x s (omega arith) h
read_back (Load x s) h = two_back 0xD x s (omega arith) h
read_back (Store x s) h = two_back 0x9 x s (omega arith) h
read_back (Jump c s) h = jump_back (jump_code c) s (grind arith) h ∙ grind arith
read_back (Call s) h = jump_back 9 s (omega arith) h
read_back Return h = refl
read_back ReturnFromInterrupt h = refl
read_back DisableInterrupts h = refl
read_back EnableInterrupts h = refl
read_back (Swap x) h = cc (at_constant 0x7 x.number 0 (encoded (Swap x)) x.small (omega arith) (omega arith), named x)
read_back (Shift s x) h =
    let form : shift_form (shift_code s) x ≡ Some (Shift s x) = grind arith in
    cc (at_register x.number 0x7 (shift_code s) (encoded (Shift s x)) x.small (omega arith) (grind arith) (omega arith), form, named x)
