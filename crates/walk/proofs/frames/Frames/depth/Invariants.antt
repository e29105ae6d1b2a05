use Rattle.std.proofs.Common.{ℕ, ◌↔◌}
use Rattle.walk.specs.Sets.{Has}
use Rattle.walk.specs.Walk.{graph}
use Rattle.walk.specs.Frames.{Base}
use Rattle.walk.proofs.frames.Frames.depth.Given as goal

abbrev pub invariant-loop-depth : goal.invariant-loop-depth
invariant-loop-depth l = record {
  level : (a : ℕ) → Has l.level a ↔ Base (graph l.self.flows.now) l.start l.depth a;
  some : (a : ℕ) × Has l.level a;
}
