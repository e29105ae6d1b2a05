-- An instruction that was read from a word has that word.
use Rattle.std.proofs.Common.{◌≡◌, ℕ, ◌+◌, ◌*◌, ◌/◌, ◌%◌, ◌^◌, ◌<◌, Bool, true, false, eqb, leb, Some, None, Option, sym, refl, ap, ◌∙◌, subst, arith}
use Rattle.std.proofs.lemmas.Bool.{eqb-true}
use Rattle.isa.specs.declared.register.RegisterName.{RegisterName}
use Rattle.isa.specs.declared.instruction.Operand.{Operand}
use Rattle.isa.specs.declared.instruction.Operand.TheVariants.{Register, Constant}
use Rattle.isa.specs.declared.instruction.Instruction.{Instruction}
use Rattle.isa.specs.Words.{two_operand, jump_to, register, decoded, word_form, register_form, flow_form, operand_form, jump_form, shift_form}
use Rattle.isa.specs.Laws.{WrittenBack, ByteOperand, HasWord, Corresponds}
use Rattle.isa.proofs.Back.{read_back}

-- what was read, if anything, has the word w
abbrev Has : Option Instruction → ℕ → Type 0
Has (Some i) w = HasWord i w
Has None w = Unit {0}

record Holds (i : Option Instruction) (w : ℕ) : Type 0 where
  has : Has i w

register_number : (n : ℕ) → n < 16 → (register n).number ≡ n
unfolding register
register_number n h = omega arith

operand_holds : (o : ℕ) (x : RegisterName) (s : Operand) → ByteOperand s → Holds (operand_form o x s) (two_operand o x s)
operand_holds o x s byte = grind arith

jump_holds : (c : ℕ) (s : Operand) → ByteOperand s → Holds (jump_form c s) (jump_to c s)
jump_holds c s byte = grind arith

shift_holds : (s : ℕ) (x : RegisterName) → Holds (shift_form s x) (0xF070 + x.number * 0x100 + s)
shift_holds s x = grind arith

by_test : (b : Bool) (p q : Option Instruction) (w : ℕ) → (b ≡ true → Holds p w) → (b ≡ false → Holds q w) → Holds (elim b [ true ↦ p | false ↦ q ]) w
by_test true p q w yes_case no_case = yes_case refl
by_test false p q w yes_case no_case = no_case refl

at_word : {i : Option Instruction} {v w : ℕ} → v ≡ w → Holds i v → Holds i w
at_word {i} e h = subst (Holds i) e h

register_holds : (x o y : ℕ) → x < 16 → o < 16 → y < 16 → Holds (register_form x o y) (0xF000 + x * 0x100 + o * 0x10 + y)
register_holds x o y hx ho hy =
    let ex = register_number x hx in
    let ey = register_number y hy in
    by_test (eqb o 0xB) _ _ _
    (λ e. at_word (omega (arith, eqb-true)) (jump_holds x (Register (register y)) tt))
    (λ _. by_test (eqb o 0x7) _ _ _
    (λ e. at_word (omega (arith, eqb-true)) (shift_holds y (register x)))
    (λ _. at_word (omega arith) (operand_holds o (register x) (Register (register y)) tt)))

flow_holds : (x k : ℕ) → x < 16 → k < 256 → Holds (flow_form x k) (0xB000 + x * 0x100 + k)
flow_holds x k hx hk =
    by_test (leb x 9) _ _ _ (λ _. jump_holds x (Constant k) hk) (λ _. by_test (eqb k 0) _ _ _ (λ e. grind arith) (λ _. record { has = tt }))

word_holds : (o x p y : ℕ) → o < 16 → x < 16 → p < 16 → y < 16 → Holds (word_form o x p y) (o * 0x1000 + x * 0x100 + p * 0x10 + y)
word_holds o x p y ho hx hp hy =
    let ex = register_number x hx in
    by_test (eqb o 0xF) _ _ _
    (λ e. at_word (omega (arith, eqb-true)) (register_holds x p y hx hp hy))
    (λ _. by_test (eqb o 0xB) _ _ _
    (λ e. at_word (omega (arith, eqb-true)) (flow_holds x (p * 0x10 + y) hx (omega arith)))
    (λ _. by_test (eqb o 0x7) _ _ _
    (λ e. grind (arith, ex))
    (λ _. at_word (omega arith) (operand_holds o (register x) (Constant (p * 0x10 + y)) (omega arith)))))

pub written_back : WrittenBack
written_back w h i e =
    let all = word_holds (w / 0x1000) (w / 0x100 % 0x10) (w % 0x100 / 0x10) (w % 0x10) (omega arith) (omega arith) (omega arith) (omega arith) in
    subst (λ (o : Option Instruction). Has o w) e (at_word (omega arith) all).has

-- what a word is read as corresponds to it
pub corresponds : (w : ℕ) → w < 2 ^ 16 → (r : Option Instruction) → r ≡ decoded w → Corresponds w r
corresponds w h (Some i) e = written_back w h i (sym e)
corresponds w h None e = λ i has. let clash : None ≡ Some i = e ∙ ap decoded (sym has.1) ∙ read_back i has.0 in cc
