-- The rule that finds from where a frame returns.
use Rattle.std.proofs.Common.{◌≡◌, ℕ, ◌-◌, true, ◌↔◌, List, length, refl, inl, inr, arith}
use Rattle.std.proofs.lemmas.Bool.{false≢true, cases_lt, or_cases, or_left, or_right, and_parts}
use Rattle.std.proofs.lemmas.List.{get_or_past}
use Rattle.walk.specs.declared.addresses.AddressSet.{AddressSet}
use Rattle.walk.specs.declared.flow.Flow.{Flow}
use Rattle.walk.specs.declared.flow.Flow.TheVariants.{Next, Branch, Jump, Call, Return, Nowhere}
use Rattle.walk.specs.Sets.{has, Has}
use Rattle.walk.specs.Walk.{after, Graph, graph, Goes}
use Rattle.walk.specs.Frames.{Returning}
use Rattle.walk.specs.Closures.{Derived, IsClosure}
use Rattle.walk.specs.Rules.{returns_of, AsksReturns}

module _ (p : Graph) (s : AddressSet) where
  -- the test tells the truth of sets that do
  pub returns_just : (a : ℕ) → ((b : ℕ) → Has s b → Returning p b) → returns_of s a (p a) ≡ true → Returning p a
  returns_just a just = go (p a) refl
    where
      go : (f : Flow) → p a ≡ f → returns_of s a f ≡ true → Returning p a
      go Nowhere e h = cc
      go Next e h = Returning.later {b = after a} (rw e refl) (just _ h)
      go (Branch t) e h = elim (or_cases (has s (after a)) (has s t) h) [
        | inl k ↦ Returning.later {b = after a} (rw e (inl refl)) (just _ k)
        | inr k ↦ Returning.later {b = t} (rw e (inr refl)) (just _ k)
      ]
      go (Jump t) e h = Returning.later {b = t} (rw e refl) (just _ h)
      go (Call t) e h = let k = and_parts (has s t) (has s (after a)) h in Returning.behind e (just _ k.0) (just _ k.1)
      go Return e h = Returning.here e

  goes_returns : (a b : ℕ) (f : Flow) → Goes f a b → Has s b → returns_of s a f ≡ true
  goes_returns a b Nowhere g h = absurd g
  goes_returns a b Next g h = rw g at h
  goes_returns a b (Branch t) g h = elim g [
    | inl e ↦ let k : has s (after a) ≡ true = rw e at h in or_left (has s (after a)) (has s t) k
    | inr e ↦ let k : has s t ≡ true = rw e at h in or_right (has s (after a)) (has s t) k
  ]
  goes_returns a b (Jump t) g h = rw g at h
  goes_returns a b (Call t) g h = absurd g
  goes_returns a b Return g h = absurd g

  -- a set that holds each address that the test names holds all
  pub returns_all : ((a : ℕ) → returns_of s a (p a) ≡ true → Has s a) → {a : ℕ} → Returning p a → Has s a
  returns_all closed (Returning.here {a = a} e) = closed a (rw e refl)
  returns_all closed (Returning.later {a = a} {b = b} g x) = closed a (goes_returns a b (p a) g (returns_all closed x))
  returns_all closed (Returning.behind {a = a} {t = t} e x y) =
      let k : has s t ≡ true = returns_all closed x in
      let m : has s (after a) ≡ true = returns_all closed y in
      closed a (rw (e, k, m))

module _ (flows : List Flow) (s t : AddressSet) (none : (a : ℕ) → Has s a → ⊥) where
  derived_returns : {a : ℕ} → Derived (AsksReturns flows) s a → Returning (graph flows) a
  derived_returns (Derived.given h) = absurd (none _ h)
  derived_returns (Derived.asked {a = a} u before (h, e)) =
      rw e (returns_just (graph flows) u (255 - a) (λ c k. derived_returns (before c k)) h)

  -- the closure of the empty set is the set of the addresses from which a frame returns
  pub exact : length flows ≡ 256 → IsClosure (AsksReturns flows) s t → (a : ℕ) → Has t a ↔ Returning (graph flows) a
  exact long c a = (λ h. derived_returns (c.just a h), returns_all (graph flows) t closed)
    where
      closed : (a : ℕ) → returns_of t a (graph flows a) ≡ true → Has t a
      closed a h =
          elim (cases_lt a 256) [
            | inl lt ↦
                let e : 255 - (255 - a) ≡ a = omega arith in
                c.all (255 - a) a (omega arith) (rw e (h, refl))
            | inr ge ↦
                let q : graph flows a ≡ Nowhere = get_or_past flows a Nowhere (omega arith) in
                absurd (false≢true (rw q at h))
          ]
