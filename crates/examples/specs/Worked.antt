-- Worked examples: words with their instructions and text, undefined words, and three small images with their answers.
use Rattle.std.specs.Prelude.{◌≡◌, ℕ, List, [], ◌∷◌, replicate, Ok, Err, codes, Result}
use Rattle.refusal.specs.declared.refusal.Refusal.{Refusal}
use Rattle.refusal.specs.declared.refusal.Refusal.TheVariants.{MainReturn, Depth}
use Rattle.isa.specs.declared.instruction.AluOperation.TheVariants.{Add}
use Rattle.isa.specs.declared.instruction.ShiftOperation.TheVariants.{Rol}
use Rattle.isa.specs.declared.instruction.Operand.TheVariants.{Register, Constant}
use Rattle.isa.specs.declared.instruction.Instruction.{Instruction}
use Rattle.isa.specs.declared.instruction.Instruction.TheVariants.{Alu, Load, Store, Shift}
use Rattle.isa.specs.Assembly.{text_of}
use Rattle.isa.specs.Laws.{HasWord}
use Rattle.isa.specs.Words.{register}
use Rattle.vetting.specs.declared.depths.Depths.{Depths}
use Rattle.vetting.specs.Verdicts.{Answered}

-- the instruction has this text and this word
abbrev pub Written : List ℕ → Instruction → ℕ → Type 0
Written text i w = (text_of i ≡ text) × HasWord i w

-- no instruction has the word
abbrev pub Undefined : ℕ → Type 0
Undefined w = (i : Instruction) → HasWord i w → ⊥

-- 256 words: one, and then JMP 0x00 throughout
abbrev pub with_first : ℕ → List ℕ
with_first w = w ∷ replicate 255 0xB000

-- the sheet of the end word alone
abbrev pub lone_end : List ℕ
lone_end = 0x80000000 ∷ []

-- the image is answered so with the lone end word, and no other answer fits
pub record SoleAnswer (image : List ℕ) (answer : Result Depths Refusal) : Type 0 where
  pub fits : Answered image lone_end answer
  pub sole : (other : Result Depths Refusal) → Answered image lone_end other → other ≡ answer

-- nothing calls: all depths are 0
abbrev pub no_depth : Depths
no_depth = record { main = 0; handler = 0; total = 0 }

-- the examples, together
pub record WorkedExamples : Type 0 where
  pub load : Written (codes "MOV r0, 0x00") (Load (register 0) (Constant 0x00)) 0xD000
  pub add : Written (codes "ADD r1, r0") (Alu Add (register 1) (Register (register 0))) 0xF100
  pub store : Written (codes "MOV 0x03, r1") (Store (register 1) (Constant 0x03)) 0x9103
  pub rotate : Written (codes "ROL r3") (Shift Rol (register 3)) 0xF372
  pub swap_with_low_bits : Undefined 0x7201
  pub control_past_sti : Undefined 0xBE00
  pub jumps : SoleAnswer (with_first 0xB000) (Ok no_depth)
  pub return_first : SoleAnswer (with_first 0xBA00) (Err (MainReturn 0))
  pub call_first : SoleAnswer (with_first 0xB900) (Err Depth)

-- the answers to the three images, by their first word
pub record WorkedAnswer (first : ℕ) (r : Result Depths Refusal) : Type 0 where
  pub jumps : first ≡ 0xB000 → r ≡ Ok no_depth
  pub return_first : first ≡ 0xBA00 → r ≡ Err (MainReturn 0)
  pub call_first : first ≡ 0xB900 → r ≡ Err Depth
