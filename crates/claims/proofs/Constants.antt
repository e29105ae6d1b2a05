-- The constant address of a store in an image is below 256.
use Rattle.std.proofs.Common.{ℕ, zero, suc, ◌+◌, ◌*◌, ◌/◌, ◌%◌, ◌<◌, Bool, true, false, eqb, leb, List, [], ◌∷◌, map, get_or, Some, None, Option, arith}
use Rattle.isa.specs.declared.register.RegisterName.{RegisterName}
use Rattle.isa.specs.declared.instruction.Operand.{Operand}
use Rattle.isa.specs.declared.instruction.Operand.TheVariants.{Register, Constant}
use Rattle.isa.specs.declared.instruction.Instruction.{Instruction}
use Rattle.isa.specs.declared.instruction.Instruction.TheVariants.{Alu, Move, Load, Store, Jump, Call, Return, ReturnFromInterrupt, DisableInterrupts, EnableInterrupts, Swap, Shift}
use Rattle.isa.specs.Words.{pick, register, operand_form, jump_form, shift_form, flow_form, word_form, decoded}

abbrev pub Small : Operand → Type 0
Small (Register y) = Unit {0}
Small (Constant k) = k < 256

-- if it is a store, its constant is below 256
abbrev pub SmallStore : Option Instruction → Type 0
SmallStore None = Unit {0}
SmallStore (Some (Alu op x o)) = Unit {0}
SmallStore (Some (Move x o)) = Unit {0}
SmallStore (Some (Load x o)) = Unit {0}
SmallStore (Some (Store x o)) = Small o
SmallStore (Some (Jump c o)) = Unit {0}
SmallStore (Some (Call o)) = Unit {0}
SmallStore (Some Return) = Unit {0}
SmallStore (Some ReturnFromInterrupt) = Unit {0}
SmallStore (Some DisableInterrupts) = Unit {0}
SmallStore (Some EnableInterrupts) = Unit {0}
SmallStore (Some (Swap x)) = Unit {0}
SmallStore (Some (Shift s x)) = Unit {0}

picked : (b : Bool) (i : Instruction) (rest : Option Instruction) → SmallStore (Some i) → SmallStore rest → SmallStore (pick b i rest)
picked true i rest h k = h
picked false i rest h k = k

chosen : (b : Bool) (i j : Option Instruction) → SmallStore i → SmallStore j → SmallStore (elim b [ true ↦ i | false ↦ j ])
chosen true i j h k = h
chosen false i j h k = k

small_operand : (o : ℕ) (x : RegisterName) (s : Operand) → Small s → SmallStore (operand_form o x s)
small_operand o x s h =
    picked (eqb o 0x0) _ _ tt (picked (eqb o 0x1) _ _ tt (picked (eqb o 0x2) _ _ tt (picked (eqb o 0x3) _ _ tt
    (picked (eqb o 0x4) _ _ tt (picked (eqb o 0x5) _ _ tt (picked (eqb o 0x6) _ _ tt (picked (eqb o 0x8) _ _ tt
    (picked (eqb o 0xA) _ _ tt (picked (eqb o 0xC) _ _ tt (picked (eqb o 0xD) _ _ tt (picked (eqb o 0x9) _ _ h tt)))))))))))

small_jump : (c : ℕ) (s : Operand) → SmallStore (jump_form c s)
small_jump c s =
    picked (eqb c 0) _ _ tt (picked (eqb c 1) _ _ tt (picked (eqb c 2) _ _ tt (picked (eqb c 3) _ _ tt (picked (eqb c 4) _ _ tt
    (picked (eqb c 5) _ _ tt (picked (eqb c 6) _ _ tt (picked (eqb c 7) _ _ tt (picked (eqb c 8) _ _ tt (picked (eqb c 9) _ _ tt tt)))))))))

small_shift : (s : ℕ) (x : RegisterName) → SmallStore (shift_form s x)
small_shift s x =
    picked (eqb s 0) _ _ tt (picked (eqb s 1) _ _ tt (picked (eqb s 2) _ _ tt (picked (eqb s 3) _ _ tt (picked (eqb s 4) _ _ tt
    (picked (eqb s 5) _ _ tt (picked (eqb s 6) _ _ tt (picked (eqb s 7) _ _ tt (picked (eqb s 9) _ _ tt tt))))))))

small_flow : (x k : ℕ) → SmallStore (flow_form x k)
small_flow x k =
    chosen (leb x 9) _ _ (small_jump x (Constant k))
    (chosen (eqb k 0) _ _ (picked (eqb x 0xA) _ _ tt (picked (eqb x 0xB) _ _ tt (picked (eqb x 0xC) _ _ tt (picked (eqb x 0xD) _ _ tt tt)))) tt)

small_word : (o x p y : ℕ) → p < 16 → y < 16 → SmallStore (word_form o x p y)
small_word o x p y h k =
    chosen (eqb o 0xF) _ _
    (chosen (eqb p 0xB) _ _ (small_jump x (Register (register y))) (chosen (eqb p 0x7) _ _ (small_shift y (register x)) (small_operand p (register x) (Register (register y)) tt)))
    (chosen (eqb o 0xB) _ _ (small_flow x (p * 0x10 + y))
    (chosen (eqb o 0x7) _ _ (picked (eqb (p * 0x10 + y) 0) _ _ tt tt) (small_operand o (register x) (Constant (p * 0x10 + y)) (omega arith))))

pub small_stores : (image : List ℕ) (a : ℕ) → SmallStore (get_or (map decoded image) a None)
small_stores [] a = tt
small_stores (w ∷ image) zero = small_word (w / 0x1000) (w / 0x100 % 0x10) (w % 0x100 / 0x10) (w % 0x10) (omega arith) (omega arith)
small_stores (w ∷ image) (suc a) = small_stores image a
