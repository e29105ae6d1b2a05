use Rattle.std.proofs.Common.{ℕ, ◌<◌, Bool, false}
use Rattle.walk.specs.Sets.{Has}
use Rattle.isa.specs.Images.{instruction_in}
use Rattle.vetting.specs.Parts.{reached}
use Rattle.vetting.proofs.part.Part.find.Given as goal

abbrev pub invariant-loop-at : goal.invariant-loop-at
invariant-loop-at g l =
    (a : ℕ) (filled : Bool) → a < l.at → Has (reached l.self filled) a → goal.F-post g l.test (instruction_in l.self.image.now a) filled false
