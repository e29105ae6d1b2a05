use Rattle.walk.specs.Closures.{Derived}
use Rattle.walk.proofs.Closures.{derived_of}
use Rattle.walk.proofs.closure.close.Goals as goal

pub loop-init : goal.loop-init
loop-init g c = record { keeps = λ a h. h; just = λ a h. Derived.given h }

pub loop-preserved : goal.loop-preserved
loop-preserved g c =
    let pass = c.called_pass.ensures in
    record {
      keeps = λ a h. pass.grows.keeps a (c.loop.invariant.keeps a h);
      just = λ a h. derived_of c.loop.invariant.just (pass.just a h);
    }
