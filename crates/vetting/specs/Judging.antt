-- What a sheet as it was read makes of an image, and what its walks answer.
use Rattle.std.specs.Prelude.{◌≡◌, ℕ, ◌+◌, ◌<◌, ◌≤◌, List, Some, None, Option, Ok, Err, Result}
use Rattle.refusal.specs.declared.refusal.Refusal.{Refusal}
use Rattle.refusal.specs.declared.refusal.Refusal.TheVariants.{ImageSize, SheetEnd, SheetWord, SheetRange, Depth, Register, Port, Budget, BurnBuffer, MainWord as main_word, MainReturn as main_return, MainRegister as main_register, HandlerWord as handler_word, HandlerReturn as handler_return, HandlerWrite as handler_write}
use Rattle.vetting.specs.declared.rules.Rule.{Rule}
use Rattle.vetting.specs.declared.rules.Rule.TheVariants.{MainWord, MainReturn, MainRegister, HandlerWord, HandlerReturn, HandlerWrite}
use Rattle.vetting.specs.declared.depths.Depths.{Depths}
use Rattle.vetting.specs.declared.sheet.Sheet.{Sheet}
use Rattle.vetting.specs.Sheets.{guarded, handled}
use Rattle.vetting.specs.Programs.{Program}
use Rattle.vetting.specs.Verdicts.{Broken, TooDeep, FirstBroken, Accepted, stack_size}

-- the refusal of a rule that is broken at an address
abbrev pub refusal_of : Rule → ℕ → Refusal
refusal_of MainWord a = main_word a
refusal_of MainReturn a = main_return a
refusal_of MainRegister a = main_register a
refusal_of HandlerWord a = handler_word a
refusal_of HandlerReturn a = handler_return a
refusal_of HandlerWrite a = handler_write a

-- the program of an image and a sheet as it was read
abbrev pub read_program : List ℕ → Sheet → Program
read_program image s = record { image = image; ranges = guarded s; handlers = handled s }

-- why a program is refused, by the refusal; the walks have no others
abbrev pub ProgramRefused : Program → Refusal → Type 0
ProgramRefused p ImageSize = ⊥
ProgramRefused p SheetEnd = ⊥
ProgramRefused p (SheetWord i) = ⊥
ProgramRefused p (SheetRange i) = ⊥
ProgramRefused p (main_word a) = FirstBroken p MainWord a
ProgramRefused p (main_return a) = FirstBroken p MainReturn a
ProgramRefused p (main_register a) = FirstBroken p MainRegister a
ProgramRefused p (handler_word a) = FirstBroken p HandlerWord a
ProgramRefused p (handler_return a) = FirstBroken p HandlerReturn a
ProgramRefused p (handler_write a) = FirstBroken p HandlerWrite a
ProgramRefused p Depth = ((rule : Rule) (a : ℕ) → Broken p rule a → ⊥) × TooDeep p
ProgramRefused p Register = ⊥
ProgramRefused p Port = ⊥
ProgramRefused p Budget = ⊥
ProgramRefused p BurnBuffer = ⊥

-- what the walks answer of a program
abbrev pub ProgramAnswered : Program → Result Depths Refusal → Type 0
ProgramAnswered p (Ok d) = Accepted p d
ProgramAnswered p (Err r) = ProgramRefused p r

-- a depth is within the stack
abbrev pub Small : Option ℕ → Type 0
Small (Some d) = d ≤ stack_size
Small None = Unit {0}

-- the depths where main's walk alone counts
abbrev pub DepthsAlone : Option ℕ → Result Depths Refusal → Type 0
DepthsAlone (Some m) (Ok d) = d ≡ record { main = m; handler = 0; total = m }
DepthsAlone (Some m) (Err r) = ⊥
DepthsAlone None (Ok d) = ⊥
DepthsAlone None (Err r) = r ≡ Depth

-- the depths of two walks, with the interrupt's own place, if they fit the stack
abbrev pub DepthsTogether : Option ℕ → Option ℕ → Result Depths Refusal → Type 0
DepthsTogether (Some m) (Some h) (Ok d) = (m + 1 + h ≤ stack_size) × (d ≡ record { main = m; handler = h; total = m + 1 + h })
DepthsTogether (Some m) (Some h) (Err r) = (stack_size < m + 1 + h) × (r ≡ Depth)
DepthsTogether (Some m) None (Ok d) = ⊥
DepthsTogether (Some m) None (Err r) = r ≡ Depth
DepthsTogether None h (Ok d) = ⊥
DepthsTogether None h (Err r) = r ≡ Depth
