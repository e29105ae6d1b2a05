-- What vetting answers of an image and a sheet.
use Rattle.std.specs.Prelude.{◌≡◌, ℕ, ◌+◌, ◌<◌, ◌≤◌, Bool, true, false, ◌⊎◌, List, [], ◌∷◌, length, Ok, Err, Result}
use Rattle.refusal.specs.declared.refusal.Refusal.{Refusal}
use Rattle.refusal.specs.declared.refusal.Refusal.TheVariants.{ImageSize, SheetEnd, SheetWord, SheetRange, MainWord as main_word, MainReturn as main_return, MainRegister as main_register, HandlerWord as handler_word, HandlerReturn as handler_return, HandlerWrite as handler_write, Depth, Register, Port, Budget, BurnBuffer}
use Rattle.refusal.specs.Refusals.{number_of, place_of}
use Rattle.walk.specs.Walk.{Graph, Reaches, Longest}
use Rattle.vetting.specs.declared.rules.Rule.{Rule}
use Rattle.vetting.specs.declared.rules.Rule.TheVariants.{MainWord, MainReturn, MainRegister, HandlerWord, HandlerReturn, HandlerWrite}
use Rattle.vetting.specs.declared.depths.Depths.{Depths}
use Rattle.vetting.specs.Sheets.{Ended, FineBelow, FirstImproper, FirstTurned, in_ranges, handles}
use Rattle.vetting.specs.Programs.{Program, instruction_at, graph_of, main_breaks, handler_breaks, enables}

-- the words of an image
abbrev pub image_size : ℕ
image_size = 256

-- the places of the stack
abbrev pub stack_size : ℕ
stack_size = 16

-- where main's walk starts
abbrev pub reset : ℕ
reset = 0

-- where the handler's walk starts
abbrev pub vector : ℕ
vector = 1

-- the program of an image and a sheet
abbrev pub program_of : List ℕ → List ℕ → Program
program_of image sheet = record { image = image; ranges = in_ranges sheet; handlers = handles sheet }

-- a list of return addresses is filled
abbrev pub is_filled : List ℕ → Bool
is_filled [] = false
is_filled (r ∷ l) = true

-- a test of the words with an empty or a filled list, by address
abbrev pub Test : Type 0
Test = ℕ → Bool → Bool

-- some situation that is reached at the address fails the test
abbrev pub Breaks : Graph → ℕ → Test → ℕ → Type 0
Breaks g start test a = (l : List ℕ) × Reaches g start a l × (test a (is_filled l) ≡ true)

-- main's words, tested by a rule of main's
abbrev pub main_test : Program → Rule → Test
main_test p rule a = main_breaks p.handlers rule (instruction_at p a)

-- the handler's words, tested by a rule of the handler's
abbrev pub handler_test : Program → Rule → Test
handler_test p rule a = handler_breaks p.handlers p.ranges rule (instruction_at p a)

-- main's walk reaches an STI, so the handler's walk counts
abbrev pub Counted : Program → Type 0
Counted p = (a : ℕ) × Breaks (graph_of p) reset (λ b _. enables (instruction_at p b)) a

-- a situation that is reached at the address breaks the rule, in main's walk or in a handler's walk that counts
abbrev pub Broken : Program → Rule → ℕ → Type 0
Broken p rule a =
    Breaks (graph_of p) reset (main_test p rule) a
    ⊎ (Counted p × Breaks (graph_of p) vector (handler_test p rule) a)

-- lists are reached that come to more than the stack holds: main's alone or, where the handler's walk counts, main's, the interrupt's own place and the handler's
abbrev pub TooDeep : Program → Type 0
TooDeep p =
    ((a : ℕ) × (l : List ℕ) × Reaches (graph_of p) reset a l × (stack_size < length l))
    ⊎ (Counted p × ((a : ℕ) × (l : List ℕ) × Reaches (graph_of p) reset a l ×
    ((b : ℕ) × (m : List ℕ) × Reaches (graph_of p) vector b m × (stack_size < length l + 1 + length m))))

-- the handler's depth and the total, whether the handler's walk counts or not
abbrev pub HandlerDepths : Program → Depths → Type 0
HandlerDepths p d =
    ((Counted p → ⊥) × (d.handler ≡ 0) × (d.total ≡ d.main))
    ⊎ (Counted p × Longest (graph_of p) vector d.handler × (d.total ≡ d.main + 1 + d.handler))

-- no reached situation breaks a rule, each depth is the longest list reached, and the total fits the stack
pub record Accepted (p : Program) (d : Depths) : Type 0 where
  pub rules : (rule : Rule) (a : ℕ) → Broken p rule a → ⊥
  pub main : Longest (graph_of p) reset d.main
  pub handler : HandlerDepths p d
  pub fits : d.total ≤ stack_size

-- the number of a rule, which is that of its refusal
abbrev pub rule_number : Rule → ℕ
rule_number MainWord = 5
rule_number MainReturn = 6
rule_number MainRegister = 7
rule_number HandlerWord = 8
rule_number HandlerReturn = 9
rule_number HandlerWrite = 10

-- the rule is broken at the address, and no rule of a smaller number is broken anywhere
pub record FirstBroken (p : Program) (rule : Rule) (a : ℕ) : Type 0 where
  pub broken : Broken p rule a
  pub first : (other : Rule) (b : ℕ) → rule_number other < rule_number rule → Broken p other b → ⊥

-- the image has its size and the sheet is in order
pub record InOrder (image sheet : List ℕ) : Type 0 where
  pub size : length image ≡ image_size
  pub ended : Ended sheet
  pub fine : FineBelow sheet (length sheet)

-- why an image and a sheet are refused, by the refusal; vetting has no others
abbrev pub Refused : List ℕ → List ℕ → Refusal → Type 0
Refused image sheet ImageSize = length image ≡ image_size → ⊥
Refused image sheet SheetEnd = (length image ≡ image_size) × (Ended sheet → ⊥)
Refused image sheet (SheetWord i) = (length image ≡ image_size) × FirstImproper sheet i
Refused image sheet (SheetRange i) = (length image ≡ image_size) × FirstTurned sheet i
Refused image sheet (main_word a) = InOrder image sheet × FirstBroken (program_of image sheet) MainWord a
Refused image sheet (main_return a) = InOrder image sheet × FirstBroken (program_of image sheet) MainReturn a
Refused image sheet (main_register a) = InOrder image sheet × FirstBroken (program_of image sheet) MainRegister a
Refused image sheet (handler_word a) = InOrder image sheet × FirstBroken (program_of image sheet) HandlerWord a
Refused image sheet (handler_return a) = InOrder image sheet × FirstBroken (program_of image sheet) HandlerReturn a
Refused image sheet (handler_write a) = InOrder image sheet × FirstBroken (program_of image sheet) HandlerWrite a
Refused image sheet Depth = InOrder image sheet × ((rule : Rule) (a : ℕ) → Broken (program_of image sheet) rule a → ⊥) × TooDeep (program_of image sheet)
Refused image sheet Register = ⊥
Refused image sheet Port = ⊥
Refused image sheet Budget = ⊥
Refused image sheet BurnBuffer = ⊥

-- the answer: depths exactly where the image and the sheet are accepted with them, a refusal exactly where it is due
abbrev pub Answered : List ℕ → List ℕ → Result Depths Refusal → Type 0
Answered image sheet (Ok d) = InOrder image sheet × Accepted (program_of image sheet) d
Answered image sheet (Err r) = Refused image sheet r

-- the number is one of those whose place is free: 5 to 10
abbrev pub Free : ℕ → Type 0
Free n = (5 ≤ n) × (n ≤ 10)

-- two answers agree: the same depths, or the same number and, but for 5 to 10, the same place
abbrev pub Agree : Result Depths Refusal → Result Depths Refusal → Type 0
Agree (Ok d) (Ok e) = d ≡ e
Agree (Ok d) (Err s) = ⊥
Agree (Err r) (Ok e) = ⊥
Agree (Err r) (Err s) = (number_of r ≡ number_of s) × ((place_of r ≡ place_of s) ⊎ Free (number_of r))

-- whatever else would answer agrees
abbrev pub NoOther : List ℕ → List ℕ → Result Depths Refusal → Type 0
NoOther image sheet r = (other : Result Depths Refusal) → Answered image sheet other → Agree r other
