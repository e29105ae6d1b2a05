-- Closures under the rules of steps and calls, and the levels.
use Rattle.std.proofs.Common.{◌≡◌, ℕ, suc, Bool, true, false, ◌⊎◌, ◌↔◌, List, refl, inl, inr}
use Rattle.walk.specs.declared.addresses.AddressSet.{AddressSet}
use Rattle.walk.specs.declared.flow.Flow.{Flow}
use Rattle.walk.specs.declared.flow.Flow.TheVariants.{Next, Branch, Jump, Call, Return, Nowhere}
use Rattle.walk.specs.Sets.{has, Has, Within}
use Rattle.walk.specs.Walk.{Graph, graph, Goes}
use Rattle.walk.specs.Frames.{Returning, Step, Spread, Entered, Base, Level}
use Rattle.walk.specs.Closures.{Derived, Applied, IsClosure}
use Rattle.walk.specs.Rules.{Follows, AsksSteps, AsksCalls}
use Rattle.walk.proofs.Levels.{spreads}

-- the closure under a rule that follows edges from the addresses in the set
module _ (edge step : ℕ → ℕ → Type 0) (same : (a b : ℕ) → edge a b ↔ step a b) (s t : AddressSet) (from : ℕ → Type 0)
    (begins : (a : ℕ) → Has s a ↔ from a) where
  derived_spread : {a : ℕ} → Derived (λ u a b. Has u a × edge a b) s a → Spread step from a
  derived_spread (Derived.given h) = Spread.given ((begins _).0 h)
  derived_spread (Derived.asked {a = a} u before k) = Spread.on (derived_spread (before a k.0)) ((same _ _).0 k.1)

  pub spread : Within t → IsClosure (λ u a b. Has u a × edge a b) s t → (a : ℕ) → Has t a ↔ Spread step from a
  spread within c a = (
    λ h. derived_spread (c.just a h),
    spreads (Has t) (λ b k. c.keeps b ((begins b).1 k)) (λ b d h k. c.all b d (within b h) (h, (same b d).1 k)),
  )

module _ (p : Graph) (r : AddressSet) (exact : (a : ℕ) → Has r a ↔ Returning p a) where
  follows_step : (deep : Bool) (a b : ℕ) → Follows r (p a) a b → Step p deep a b
  follows_step deep a b = go (p a) refl
    where
      go : (f : Flow) → p a ≡ f → Follows r f a b → Step p deep a b
      go Nowhere e k = absurd k
      go Next e k = Step.along (rw e k)
      go (Branch t) e k = Step.along (rw e k)
      go (Jump t) e k = Step.along (rw e k)
      go (Call t) e k = rw k.1 (Step.over e ((exact t).0 k.0))
      go Return e k = absurd k

  goes_follows : (a b : ℕ) (f : Flow) → Goes f a b → Follows r f a b
  goes_follows a b Nowhere g = g
  goes_follows a b Next g = g
  goes_follows a b (Branch t) g = g
  goes_follows a b (Jump t) g = g
  goes_follows a b (Call t) g = absurd g
  goes_follows a b Return g = g

  step_follows : {a b : ℕ} → Step p false a b → Follows r (p a) a b
  step_follows (Step.along {a = a} {b = b} g) = goes_follows a b (p a) g
  step_follows (Step.over {t = t} e x) = let h : has r t ≡ true = (exact t).1 x in rw e (h, refl)
  step_follows (Step.into e d) = cc

  deep_follows : {a b : ℕ} → Step p true a b → Follows r (p a) a b ⊎ (p a ≡ Call b)
  deep_follows (Step.along {a = a} {b = b} g) = inl (goes_follows a b (p a) g)
  deep_follows (Step.over {t = t} e x) = let h : has r t ≡ true = (exact t).1 x in inl (rw e (h, refl))
  deep_follows (Step.into e d) = inr e

  pub steps : (a b : ℕ) → Follows r (p a) a b ↔ Step p false a b
  steps a b = (follows_step false a b, step_follows)

  pub deep_steps : (a b : ℕ) → (Follows r (p a) a b ⊎ (p a ≡ Call b)) ↔ Step p true a b
  deep_steps a b = (λ k. elim k [ inl k ↦ follows_step true a b k | inr e ↦ Step.into e refl ], deep_follows)

module _ (flows : List Flow) (from s t : AddressSet) (none : (a : ℕ) → Has s a → ⊥) where
  derived_entered : {b : ℕ} → Derived (AsksCalls flows from) s b → Entered (graph flows) (Has from) b
  derived_entered (Derived.given h) = absurd (none _ h)
  derived_entered (Derived.asked u before k) = Entered.entered k.0 k.1

  -- the closure of the empty set under the rule of calls is the set of the targets of calls
  pub calls : Within from → IsClosure (AsksCalls flows from) s t → (b : ℕ) → Has t b ↔ Entered (graph flows) (Has from) b
  calls within c b = (λ h. derived_entered (c.just b h), back)
    where
      back : {b : ℕ} → Entered (graph flows) (Has from) b → Has t b
      back (Entered.entered {a = a} {t = b} h e) = c.all a b (within a h) (h, e)

  -- one pass makes that closure, since the rule does not look at the set that it fills
  pub calls_at_once : Within from → {grown : Bool} → Applied (AsksCalls flows from) 256 s t grown →
      (b : ℕ) → Has t b ↔ Entered (graph flows) (Has from) b
  calls_at_once within c =
      calls within (record { keeps = c.grows.keeps; just = c.just; all = λ a b lt k. c.always a b lt (λ u. k) })

entered_in : {p : Graph} {b : ℕ} (from into : ℕ → Type 0) → ((a : ℕ) → from a → into a) → Entered p from b → Entered p into b
entered_in from into all (Entered.entered {a = a} h e) = Entered.entered (all a h) e

module _ (flows : List Flow) (r : AddressSet) (exact : (a : ℕ) → Has r a ↔ Returning (graph flows) a) (start d : ℕ) (s t : AddressSet)
    (base : (a : ℕ) → Has s a ↔ Base (graph flows) start d a) (within : Within t) (c : IsClosure (AsksSteps flows r) s t) where
  -- the closure of where the frames of a level begin is the level
  pub level : (a : ℕ) → Has t a ↔ Level (graph flows) start d a
  level = spread _ _ (steps (graph flows) r exact) s t (Base (graph flows) start d) base within c

  -- and what it calls is where those of the next begin
  pub next_level : (e : AddressSet) → ((b : ℕ) → Has e b ↔ Entered (graph flows) (Has t) b) →
      (b : ℕ) → Has e b ↔ Base (graph flows) start (suc d) b
  next_level e entered b = (
    λ h. entered_in (Has t) (Level (graph flows) start d) (λ a. (level a).0) ((entered b).0 h),
    λ v. (entered b).1 (entered_in (Level (graph flows) start d) (Has t) (λ a. (level a).1) v),
  )
