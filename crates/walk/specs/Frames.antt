-- The walk by frames: a frame is what happens between a call and its return. None of these speaks of lists.
use Rattle.std.specs.Prelude.{◌≡◌, ℕ, zero, suc, Bool, true, false}
use Rattle.walk.specs.declared.flow.Flow.TheVariants.{Call, Return}
use Rattle.walk.specs.Walk.{after, Graph, Goes}

-- from a, a return of the same frame can be come to
pub data Returning (p : Graph) : ℕ → Type 0 where
  here : {a : ℕ} → p a ≡ Return → Returning p a
  later : {a b : ℕ} → Goes (p a) a b → Returning p b → Returning p a
  behind : {a t : ℕ} → p a ≡ Call t → Returning p t → Returning p (after a) → Returning p a

-- a step within a frame, over a call that returns; or, if deep, into a call as well
pub data Step (p : Graph) (deep : Bool) : ℕ → ℕ → Type 0 where
  along : {a b : ℕ} → Goes (p a) a b → Step p deep a b
  over : {a t : ℕ} → p a ≡ Call t → Returning p t → Step p deep a (after a)
  into : {a t : ℕ} → p a ≡ Call t → deep ≡ true → Step p deep a t

-- what such steps come to from some addresses
pub data Spread (step : ℕ → ℕ → Type 0) (from : ℕ → Type 0) : ℕ → Type 0 where
  given : {a : ℕ} → from a → Spread step from a
  on : {a b : ℕ} → Spread step from a → step a b → Spread step from b

-- the targets of the calls at some addresses
pub data Entered (p : Graph) (from : ℕ → Type 0) : ℕ → Type 0 where
  entered : {a t : ℕ} → from a → p a ≡ Call t → Entered p from t

-- where the frames of each level begin; level 0 has one, which begins at the start
abbrev pub Base : Graph → ℕ → ℕ → ℕ → Type 0
Base p start zero = λ a. a ≡ start
Base p start (suc k) = Entered p (Spread (Step p false) (Base p start k))

-- the addresses in the frames of each level
abbrev pub Level : Graph → ℕ → ℕ → ℕ → Type 0
Level p start k = Spread (Step p false) (Base p start k)
