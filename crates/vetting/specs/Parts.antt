-- What a part of a program tells of its words.
use Rattle.std.specs.Prelude.{◌≡◌, ℕ, ◌<◌, Bool, true, false, List, Some, None, Ok, Err, Option, Result}
use Rattle.isa.specs.declared.instruction.Instruction.{Instruction}
use Rattle.isa.specs.Images.{instruction_in}
use Rattle.walk.specs.declared.addresses.AddressSet.{AddressSet}
use Rattle.walk.specs.Sets.{Has}
use Rattle.walk.specs.Walk.{Graph}
use Rattle.walk.specs.Result.{Walked}
use Rattle.vetting.specs.declared.part.Part.{Part}
use Rattle.vetting.specs.declared.rules.Rule.{Rule}
use Rattle.vetting.specs.declared.rules.Breach.{Breach}
use Rattle.vetting.specs.Programs.{flow_of, enables}
use Rattle.vetting.specs.Verdicts.{rule_number, stack_size}

-- how the word at each address of an image leads on
abbrev pub leads_of : List ℕ → Graph
leads_of image a = flow_of (instruction_in image a)

-- the part is what the walk through the image from the start reaches
pub record PartOf (image : List ℕ) (start : ℕ) (part : Part) : Type 0 where
  pub same : part.image.now ≡ image
  pub walked : Walked (leads_of image) start stack_size part.reach

-- a test of a word that is reached with an empty or a filled list; an undefined word holds no instruction
abbrev pub WordTest : Type 0
WordTest = Option Instruction → Bool → Bool

-- the word enables interrupts, whatever the list
abbrev pub enabling : WordTest
enabling instruction filled = enables instruction

-- the addresses that are reached with an empty or a filled list
abbrev pub reached : Part → Bool → AddressSet
reached part false = part.reach.empty
reached part true = part.reach.filled

-- an address that is reached with a word and a list for which the answer is true, if there is one
abbrev pub FoundBy : Part → (Option Instruction → Bool → Bool → Type 0) → Option ℕ → Type 0
FoundBy part answers (Some a) = (filled : Bool) × Has (reached part filled) a × answers (instruction_in part.image.now a) filled true
FoundBy part answers None = (a : ℕ) (filled : Bool) → a < 256 → Has (reached part filled) a → answers (instruction_in part.image.now a) filled false

-- the test is true of some situation that is reached at the address
abbrev pub TrueAt : Part → WordTest → ℕ → Type 0
TrueAt part test a = (filled : Bool) × Has (reached part filled) a × (test (instruction_in part.image.now a) filled ≡ true)

-- an address at which the test is true, if there is one
abbrev pub Found : Part → WordTest → Option ℕ → Type 0
Found part test (Some a) = TrueAt part test a
Found part test None = (a : ℕ) → a < 256 → TrueAt part test a → ⊥

-- whether the test is true at some address
abbrev pub Tells : Part → WordTest → Bool → Type 0
Tells part test true = (a : ℕ) × TrueAt part test a
Tells part test false = Found part test None

-- no rule of a number below n is broken
pub record UnbrokenBelow (part : Part) (breaks : Rule → WordTest) (n : ℕ) : Type 0 where
  pub none : (rule : Rule) (a : ℕ) → rule_number rule < n → a < 256 → TrueAt part (breaks rule) a → ⊥

-- the rule is broken at the address, and no rule of a smaller number is broken anywhere
pub record FirstFound (part : Part) (breaks : Rule → WordTest) (b : Breach) : Type 0 where
  pub broken : TrueAt part (breaks b.rule) b.at
  pub first : UnbrokenBelow part breaks (rule_number b.rule)

-- no rule is broken, or the first that is broken, with an address; the last number is 10
abbrev pub Judged : Part → (Rule → WordTest) → Result (Unit {0}) Breach → Type 0
Judged part breaks (Ok u) = UnbrokenBelow part breaks 11
Judged part breaks (Err b) = FirstFound part breaks b
