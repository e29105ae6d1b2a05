-- What the walk puts together.
use Rattle.std.proofs.Common.{◌≡◌, ℕ, ◌+◌, ◌≤◌, ◌↔◌, List, length, Some, None, Option, add-one}
use Rattle.walk.specs.declared.addresses.AddressSet.{AddressSet}
use Rattle.walk.specs.declared.flow.Flow.{Flow}
use Rattle.walk.specs.Sets.{Has}
use Rattle.walk.specs.Walk.{graph, Deepest}
use Rattle.walk.specs.Result.{Walked}
use Rattle.walk.specs.Frames.{Returning, Entered, Base}
use Rattle.walk.specs.Closures.{IsClosure}
use Rattle.walk.specs.Rules.{AsksSteps, AsksDeep}
use Rattle.walk.proofs.Sets.{within}
use Rattle.walk.proofs.Levels.{levels, deepest, beyond, empty_reached, filled_reached, reached_filled}
use Rattle.walk.proofs.Steps.{spread, deep_steps, level, next_level}

pub walked : (flows told : List Flow) (r begin empty entered filled : AddressSet) (start limit : ℕ) (depth : Option ℕ) →
    told ≡ flows → ((a : ℕ) → Has r a ↔ Returning (graph told) a) →
    ((a : ℕ) → Has begin a ↔ (a ≡ start)) → IsClosure (AsksSteps told r) begin empty → length empty.members ≡ 256 →
    ((t : ℕ) → Has entered t ↔ Entered (graph told) (Has empty) t) → IsClosure (AsksDeep told r) entered filled →
    length filled.members ≡ 256 → Deepest (graph told) start limit depth →
    Walked (graph flows) start limit (record { empty = empty; filled = filled; depth = depth })
walked flows told r begin empty entered filled start limit depth same exact begins closed long calls deep long_filled depths =
    let p = graph told in
    let at_empty = level told r exact start 0 begin empty begins (within empty long) closed in
    let next = next_level told r exact start 0 begin empty begins (within empty long) closed entered calls in
    let at_filled = spread _ _ (deep_steps p r exact) entered filled (Base p start 1) next (within filled long_filled) deep in
    rw (← same) (record {
      empty = λ a. (λ h. empty_reached p start ((at_empty a).0 h), λ w. (at_empty a).1 (levels p start w));
      filled = λ a. (λ h. filled_reached p start ((at_filled a).0 h), λ w. (at_filled a).1 (reached_filled p start w.2));
      within = (within empty long, within filled long_filled);
      depth = depths;
    })

-- one level of the search for the depth: from the set `begin`, where the frames of level d begin, to `next`
module _ (flows : List Flow) (r begin level next : AddressSet) (start limit d : ℕ)
    (exact : (a : ℕ) → Has r a ↔ Returning (graph flows) a)
    (begins : (a : ℕ) → Has begin a ↔ Base (graph flows) start d a)
    (closed : IsClosure (AsksSteps flows r) begin level)
    (long : length level.members ≡ 256)
    (calls : (t : ℕ) → Has next t ↔ Entered (graph flows) (Has level) t) where
  pub deeper : (a : ℕ) → Has next a ↔ Base (graph flows) start (d + 1) a
  deeper = rw add-one (next_level flows r exact start d begin level begins (within level long) closed next calls)

  pub found : (a : ℕ) × Has begin a → ((b : ℕ) → Has next b → ⊥) → d ≤ limit → Deepest (graph flows) start limit (Some d)
  found some none le =
      deepest (graph flows) start d limit le some.0 ((begins some.0).0 some.1) (λ b v. none b ((deeper b).1 (rw add-one v)))

  pub past_limit : (a : ℕ) × Has next a → d ≡ limit → Deepest (graph flows) start limit None
  past_limit some e = beyond (graph flows) start d limit e some.0 (rw add-one at ((deeper some.0).0 some.1))
