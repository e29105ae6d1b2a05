-- What a walk answers.
use Rattle.std.specs.Prelude.{ℕ, ◌↔◌, List, [], ◌∷◌}
use Rattle.walk.specs.declared.search.Reach.{Reach}
use Rattle.walk.specs.Sets.{Has, Within}
use Rattle.walk.specs.Walk.{Graph, Reaches, Deepest}

-- the sets hold exactly the addresses that are reached with an empty and with a filled list, and the depth is exact
pub record Walked (p : Graph) (start limit : ℕ) (w : Reach) : Type 0 where
  pub empty : (a : ℕ) → Has w.empty a ↔ Reaches p start a []
  pub filled : (a : ℕ) → Has w.filled a ↔ ((r : ℕ) × (l : List ℕ) × Reaches p start a (r ∷ l))
  pub within : Within w.empty × Within w.filled
  pub depth : Deepest p start limit w.depth
