-- Closures under a rule. A rule asks for addresses to be put into a set: `asks s a b` says that at the set s and the address a it asks for b.
use Rattle.std.specs.Prelude.{◌≡◌, ℕ, ◌<◌, Bool, false}
use Rattle.walk.specs.declared.addresses.AddressSet.{AddressSet}
use Rattle.walk.specs.Sets.{Has, Grown}

module _ (asks : AddressSet → ℕ → ℕ → Type 0) where
  -- the addresses that the rule derives from a set: those in it, and those that it asks for at a set of derived addresses
  pub data Derived (from : AddressSet) : ℕ → Type 0 where
    given : {a : ℕ} → Has from a → Derived from a
    asked : {a b : ℕ} (s : AddressSet) → ((c : ℕ) → Has s c → Derived from c) → asks s a b → Derived from b

  -- s became t as the rule was applied at the addresses below n: t has what the rule asks for whatever the set, and, if it
  -- did not grow, all that the rule asks for
  pub record Applied (n : ℕ) (s t : AddressSet) (grown : Bool) : Type 0 where
    pub just : (a : ℕ) → Has t a → Derived s a
    pub always : (a b : ℕ) → a < n → ((u : AddressSet) → asks u a b) → Has t b
    pub closed : grown ≡ false → (a b : ℕ) → a < n → asks s a b → Has s b
    pub grows : Grown s t grown

  -- t is the closure of s under the rule: it holds s, derived addresses only, and all that the rule asks for at t
  pub record IsClosure (s t : AddressSet) : Type 0 where
    pub keeps : (a : ℕ) → Has s a → Has t a
    pub just : (a : ℕ) → Has t a → Derived s a
    pub all : (a b : ℕ) → a < 256 → asks t a b → Has t b
