-- An instruction can be read from its text, so different instructions have different text.
use Rattle.std.proofs.Common.{◌≡◌, ℕ, ◌+◌, ◌-◌, ◌*◌, ◌/◌, ◌%◌, ◌^◌, ◌<◌, Bool, false, cond, eqb, ltb, List, [], ◌∷◌, ◌++◌, drop, codes, decimal, sym, refl, ap, ◌∙◌, arith, ne_eqb}
use Rattle.std.specs.Str.Parse.{digits_value}
use Rattle.std.proofs.lemmas.Fmt.{decimal_is_IsNumeral, decimal_by_steps}
use Rattle.hexadecimal.specs.Hexadecimal.{digit_of, two_digits}
use Rattle.isa.specs.declared.register.RegisterName.{RegisterName}
use Rattle.isa.specs.declared.instruction.Operand.{Operand}
use Rattle.isa.specs.declared.instruction.Operand.TheVariants.{Register, Constant}
use Rattle.isa.specs.declared.instruction.AluOperation.{AluOperation}
use Rattle.isa.specs.declared.instruction.AluOperation.TheVariants.{Add, Adc, Sub, Sbc, And, Or, Xor, Tst, Cmp}
use Rattle.isa.specs.declared.instruction.ShiftOperation.{ShiftOperation}
use Rattle.isa.specs.declared.instruction.ShiftOperation.TheVariants.{Sl0, Sl1, Sr0, Sr1, Asr, Rol, Ror, Rlc, Rrc}
use Rattle.isa.specs.declared.instruction.Condition.{Condition}
use Rattle.isa.specs.declared.instruction.Condition.TheVariants.{Always, Zero, NotZero, Carry, NoCarry, Negative, NotNegative, Overflow, NoOverflow}
use Rattle.isa.specs.declared.instruction.Instruction.{Instruction}
use Rattle.isa.specs.declared.instruction.Instruction.TheVariants.{Alu, Move, Load, Store, Jump, Call, Return, ReturnFromInterrupt, DisableInterrupts, EnableInterrupts, Swap, Shift}
use Rattle.isa.specs.Assembly.{alu_mnemonic, shift_mnemonic, jump_mnemonic, with_space, with_comma, register_text, value_text, address_text, text_of, DifferentTexts}
use Rattle.isa.specs.Laws.{ByteOperand, ByteSized}
use Rattle.isa.specs.Words.{register}
use Rattle.isa.proofs.Back.{named}

-- what stands before the first c, and what after it
abbrev upto : ℕ → List ℕ → List ℕ
upto c [] = []
upto c (x ∷ xs) = cond (eqb x c) [] (x ∷ upto c xs)

abbrev past : ℕ → List ℕ → List ℕ
past c [] = []
past c (x ∷ xs) = cond (eqb x c) xs (past c xs)

abbrev Lacks : ℕ → List ℕ → Type 0
Lacks c [] = Unit {0}
Lacks c (x ∷ xs) = (eqb x c ≡ false) × Lacks c xs

upto_at : (c : ℕ) (a b : List ℕ) → Lacks c a → upto c (a ++ (c ∷ b)) ≡ a
upto_at c [] b h = grind arith
upto_at c (x ∷ xs) b h = let rest = upto_at c xs b h.1 in grind arith

past_at : (c : ℕ) (a b : List ℕ) → Lacks c a → past c (a ++ (c ∷ b)) ≡ b
past_at c [] b h = grind arith
past_at c (x ∷ xs) b h = let rest = past_at c xs b h.1 in grind arith

lacks_append : (c : ℕ) (a b : List ℕ) → Lacks c a → Lacks c b → Lacks c (a ++ b)
lacks_append c [] b p q = q
lacks_append c (x ∷ xs) b p q = (p.0, lacks_append c xs b p.1 q)

-- digits are neither a comma nor a parenthesis
lacks_decimal : (c : ℕ) → c < 48 → (n : ℕ) → n < 2 ^ 64 → Lacks c (decimal n)
lacks_decimal c h =
    decimal_by_steps (λ n ds. Lacks c ds)
    (λ n l. (ne_eqb (48 + n) c (λ e. omega arith), tt))
    (λ n ds l rest. lacks_append c ds ((48 + n % 10) ∷ []) rest (ne_eqb (48 + n % 10) c (λ e. omega arith), tt))

lacks_digit : (n : ℕ) → eqb (digit_of n) 44 ≡ false
lacks_digit n = grind arith

lacks_name : (c : ℕ) → c < 48 → (x : RegisterName) → Lacks c (register_text x)
lacks_name c h x = let l = x.small in (ne_eqb 114 c (λ e. omega arith), lacks_decimal c h x.number (omega arith))

lacks_address : (s : Operand) → Lacks 44 (address_text s)
lacks_address (Register y) = (refl, lacks_append 44 (register_text y) (codes ")") (lacks_name 44 (omega arith) y) (refl, tt))
lacks_address (Constant k) = (refl, (refl, (lacks_digit (k / 0x10 % 0x10), (lacks_digit (k % 0x10), tt))))

-- reading numbers, registers and operands

abbrev digit_value : ℕ → ℕ
digit_value c = cond (ltb c 58) (c - 48) (c - 55)

abbrev byte_value : List ℕ → ℕ
byte_value [] = 0
byte_value (a ∷ bs) = elim bs [ [] ↦ 0 | b ∷ rest ↦ digit_value a * 0x10 + digit_value b ]

digit_back : (n : ℕ) → n < 16 → digit_value (digit_of n) ≡ n
digit_back n h = grind arith

byte_back : (k : ℕ) → k < 256 → byte_value (two_digits k) ≡ k
byte_back k h =
    omega (arith, digit_back (k / 0x10 % 0x10) (omega arith), digit_back (k % 0x10) (omega arith))

abbrev register_in : List ℕ → RegisterName
register_in t = register (digits_value 10 (drop 1 t))

register_back : (x : RegisterName) → register_in (register_text x) ≡ x
register_back x =
    let l = x.small in
    ap register (decimal_is_IsNumeral x.number (omega arith)).1 ∙ named x

abbrev first : List ℕ → ℕ
first [] = 0
first (c ∷ cs) = c

abbrev value_in : List ℕ → Operand
value_in t = cond (eqb (first t) 114) (Register (register_in t)) (Constant (byte_value (drop 3 t)))

value_back : (s : Operand) → ByteOperand s → value_in (value_text s) ≡ s
value_back s h = grind (arith, register_back, byte_back)

abbrev address_in : List ℕ → Operand
address_in t = cond (eqb (first t) 40) (Register (register_in (upto 41 (drop 1 t)))) (Constant (byte_value (drop 2 t)))

address_back : (s : Operand) → ByteOperand s → address_in (address_text s) ≡ s
address_back (Register y) h =
    let name = upto_at 41 (register_text y) [] (lacks_name 41 (omega arith) y) in
    grind (arith, register_back)
address_back (Constant k) h = ap Constant (byte_back k h)

-- the two operands of a text, at its comma
abbrev left : List ℕ → List ℕ
left t = upto 44 t

abbrev right : List ℕ → List ℕ
right t = drop 1 (past 44 t)

left_back : (a b : List ℕ) → Lacks 44 a → left (with_comma a b) ≡ a
left_back a b h = upto_at 44 a (32 ∷ b) h

right_back : (a b : List ℕ) → Lacks 44 a → right (with_comma a b) ≡ b
right_back a b h = ap (drop 1) (past_at 44 a (32 ∷ b) h)

-- the mnemonic of a text as one number, and what it says of the rest
abbrev code : ℕ → List ℕ → ℕ
code n [] = n
code n (c ∷ cs) = code (n * 0x100 + c) cs

abbrev is : ℕ → List ℕ → Bool
is m name = eqb m (code 0 name)

-- a move: to a register from a value or from an address, or to an address
abbrev move_in : List ℕ → Instruction
move_in t =
    cond (eqb (first t) 114)
    (cond (eqb (first (right t)) 114) (Move (register_in (left t)) (value_in (right t)))
    (cond (eqb (first (right t)) 35) (Move (register_in (left t)) (value_in (right t)))
    (Load (register_in (left t)) (address_in (right t)))))
    (Store (register_in (right t)) (address_in (left t)))

abbrev alu_in : AluOperation → List ℕ → Instruction
alu_in o t = Alu o (register_in (left t)) (value_in (right t))

abbrev by_mnemonic : ℕ → List ℕ → Instruction
by_mnemonic m t =
    cond (is m (codes "ADD")) (alu_in Add t)
    (cond (is m (codes "ADC")) (alu_in Adc t)
    (cond (is m (codes "SUB")) (alu_in Sub t)
    (cond (is m (codes "SBC")) (alu_in Sbc t)
    (cond (is m (codes "AND")) (alu_in And t)
    (cond (is m (codes "OR")) (alu_in Or t)
    (cond (is m (codes "XOR")) (alu_in Xor t)
    (cond (is m (codes "TST")) (alu_in Tst t)
    (cond (is m (codes "CMP")) (alu_in Cmp t)
    (cond (is m (codes "MOV")) (move_in t)
    (cond (is m (codes "JMP")) (Jump Always (address_in t))
    (cond (is m (codes "JZ")) (Jump Zero (address_in t))
    (cond (is m (codes "JNZ")) (Jump NotZero (address_in t))
    (cond (is m (codes "JC")) (Jump Carry (address_in t))
    (cond (is m (codes "JNC")) (Jump NoCarry (address_in t))
    (cond (is m (codes "JN")) (Jump Negative (address_in t))
    (cond (is m (codes "JNN")) (Jump NotNegative (address_in t))
    (cond (is m (codes "JV")) (Jump Overflow (address_in t))
    (cond (is m (codes "JNV")) (Jump NoOverflow (address_in t))
    (cond (is m (codes "JSR")) (Call (address_in t))
    (cond (is m (codes "RTS")) (Return)
    (cond (is m (codes "RTI")) (ReturnFromInterrupt)
    (cond (is m (codes "CLI")) (DisableInterrupts)
    (cond (is m (codes "STI")) (EnableInterrupts)
    (cond (is m (codes "SWP")) (Swap (register_in t))
    (cond (is m (codes "SL0")) (Shift Sl0 (register_in t))
    (cond (is m (codes "SL1")) (Shift Sl1 (register_in t))
    (cond (is m (codes "SR0")) (Shift Sr0 (register_in t))
    (cond (is m (codes "SR1")) (Shift Sr1 (register_in t))
    (cond (is m (codes "ASR")) (Shift Asr (register_in t))
    (cond (is m (codes "ROL")) (Shift Rol (register_in t))
    (cond (is m (codes "ROR")) (Shift Ror (register_in t))
    (cond (is m (codes "RLC")) (Shift Rlc (register_in t))
    (Shift Rrc (register_in t))))))))))))))))))))))))))))))))))

abbrev read : List ℕ → Instruction
read t = by_mnemonic (code 0 (upto 32 t)) (past 32 t)

read_alu : (o : AluOperation) (t : List ℕ) → read (with_space (alu_mnemonic o) t) ≡ alu_in o t
read_alu o t = grind arith

read_shift : (o : ShiftOperation) (t : List ℕ) → read (with_space (shift_mnemonic o) t) ≡ Shift o (register_in t)
read_shift o t = grind arith

read_jump : (c : Condition) (t : List ℕ) → read (with_space (jump_mnemonic c) t) ≡ Jump c (address_in t)
read_jump c t = grind arith

name_left : (x : RegisterName) (b : List ℕ) → register_in (left (with_comma (register_text x) b)) ≡ x
name_left x b = ap register_in (left_back (register_text x) b (lacks_name 44 (omega arith) x)) ∙ register_back x

name_right : (x : RegisterName) (b : List ℕ) → right (with_comma (register_text x) b) ≡ b
name_right x b = right_back (register_text x) b (lacks_name 44 (omega arith) x)

read_move : (x : RegisterName) (s : Operand) → ByteOperand s → move_in (with_comma (register_text x) (value_text s)) ≡ Move x s
read_move x s h = grind (arith, name_right, name_left, value_back)

read_load : (x : RegisterName) (s : Operand) → ByteOperand s → move_in (with_comma (register_text x) (address_text s)) ≡ Load x s
read_load x s h = grind (arith, name_right, name_left, address_back)

read_store : (x : RegisterName) (s : Operand) → ByteOperand s → move_in (with_comma (address_text s) (register_text x)) ≡ Store x s
read_store x s h =
    let lacks = lacks_address s in
    grind (arith, left_back, right_back, register_back, address_back)

read_back_text : (i : Instruction) → ByteSized i → read (text_of i) ≡ i
read_back_text (Alu o x s) h = grind (arith, read_alu, name_left, name_right, value_back)
read_back_text (Move x s) h = read_move x s h
read_back_text (Load x s) h = read_load x s h
read_back_text (Store x s) h = read_store x s h
read_back_text (Jump c s) h = read_jump c (address_text s) ∙ ap (Jump c) (address_back s h)
read_back_text (Call s) h = ap Call (address_back s h)
read_back_text Return h = refl
read_back_text ReturnFromInterrupt h = refl
read_back_text DisableInterrupts h = refl
read_back_text EnableInterrupts h = refl
read_back_text (Swap x) h = ap Swap (register_back x)
read_back_text (Shift o x) h = read_shift o (register_text x) ∙ ap (Shift o) (register_back x)

pub different_texts : DifferentTexts
different_texts i j p q e = sym (read_back_text i p) ∙ ap read e ∙ read_back_text j q
