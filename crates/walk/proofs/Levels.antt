-- The levels hold exactly what the walk reaches: an address is in level k if and only if it is reached with a list of k addresses.
use Rattle.std.proofs.Common.{◌≡◌, ℕ, zero, suc, ◌≤◌, true, false, List, [], ◌∷◌, length, Some, None, refl, ap, inl, inr, zero-le, arith}
use Rattle.std.proofs.lemmas.Bool.{cases_eq}
use Rattle.walk.specs.Walk.{after, Graph, Leads, Reaches, Deepest}
use Rattle.walk.specs.Frames.{Returning, Step, Spread, Entered, Base, Level}

-- what holds of the addresses given and is handed on by each step holds of all that the steps come to
pub spreads : {step : ℕ → ℕ → Type 0} {from : ℕ → Type 0} {b : ℕ} (Q : ℕ → Type 0) →
    ((a : ℕ) → from a → Q a) → ((a b : ℕ) → Q a → step a b → Q b) → Spread step from b → Q b
spreads Q first more (Spread.given h) = first _ h
spreads Q first more (Spread.on v s) = more _ _ (spreads Q first more v) s

origin : {step : ℕ → ℕ → Type 0} {from : ℕ → Type 0} {b : ℕ} → Spread step from b → (a : ℕ) × from a
origin (Spread.given {a = a} h) = (a, h)
origin (Spread.on v s) = origin v

caller : {p : Graph} {from : ℕ → Type 0} {t : ℕ} → Entered p from t → (a : ℕ) × from a
caller (Entered.entered {a = a} h e) = (a, h)

module _ (p : Graph) (start : ℕ) where
  -- a frame that can return is left again, whatever lies beneath
  leaves : {a r : ℕ} {l : List ℕ} → Returning p a → Reaches p start a (r ∷ l) → Reaches p start r l
  leaves (Returning.here e) w = Reaches.on w (Leads.returns e)
  leaves (Returning.later g x) w = leaves x (Reaches.on w (Leads.goes g))
  leaves (Returning.behind e x y) w = leaves y (leaves x (Reaches.on w (Leads.calls e)))

  steps : {a b : ℕ} {l : List ℕ} → Step p false a b → Reaches p start a l → Reaches p start b l
  steps (Step.along g) w = Reaches.on w (Leads.goes g)
  steps (Step.over e x) w = leaves x (Reaches.on w (Leads.calls e))
  steps (Step.into e d) w = cc

  -- reached with a list of k addresses
  abbrev pub Reached : ℕ → ℕ → Type 0
  Reached k a = (l : List ℕ) × (length l ≡ k) × Reaches p start a l

  handed_on : (k a b : ℕ) → Reached k a → Step p false a b → Reached k b
  handed_on k a b w s = (w.0, w.1, steps s w.2)

  entered_reached : {k t : ℕ} (from : ℕ → Type 0) → ((a : ℕ) → from a → Reached k a) → Entered p from t → Reached (suc k) t
  entered_reached from all (Entered.entered {a = a} v e) =
      let w = all a v in (after a ∷ w.0, ap suc w.1, Reaches.on w.2 (Leads.calls e))

  base_reached : (k a : ℕ) → Base p start k a → Reached k a
  base_reached zero a e = ([], refl, rw e Reaches.begin)
  base_reached (suc k) a v =
      entered_reached (Level p start k) (λ a. spreads (Reached k) (base_reached k) (handed_on k)) v

  pub reached : (k : ℕ) {a : ℕ} → Level p start k a → Reached k a
  reached k = spreads (Reached k) (base_reached k) (handed_on k)

  -- what holds of each situation that is reached: where the newest frame can return, it holds of the situation after that too
  abbrev Stands : ℕ → List ℕ → Type 0
  Stands a [] = Level p start 0 a
  Stands a (r ∷ l) = Level p start (suc (length l)) a × (Returning p a → Stands r l)

  level_of : (a : ℕ) (l : List ℕ) → Stands a l → Level p start (length l) a
  level_of a [] v = v
  level_of a (r ∷ l) v = v.0

  stays : {a b : ℕ} (l : List ℕ) → Step p false a b → (Returning p b → Returning p a) → Stands a l → Stands b l
  stays [] s back v = Spread.on v s
  stays (r ∷ l) s back v = (Spread.on v.0 s, λ x. v.1 (back x))

  stands : {a : ℕ} {l : List ℕ} → Reaches p start a l → Stands a l
  stands Reaches.begin = Spread.given refl
  stands (Reaches.on {l = l} w (Leads.goes g)) = stays l (Step.along g) (Returning.later g) (stands w)
  stands (Reaches.on {a = a} {l = l} w (Leads.calls e)) = (
    Spread.given (Entered.entered (level_of a l (stands w)) e),
    λ x. stays l (Step.over e x) (Returning.behind e x) (stands w),
  )
  stands (Reaches.on w (Leads.returns e)) = (stands w).1 (Returning.here e)

  pub levels : {a : ℕ} {l : List ℕ} → Reaches p start a l → Level p start (length l) a
  levels {a = a} {l = l} w = level_of a l (stands w)

  -- no level is deeper than one that calls nothing
  none_deeper : (d : ℕ) → ((b : ℕ) → Base p start (suc d) b → ⊥) → (k b : ℕ) → Base p start k b → k ≤ d
  none_deeper d none zero b v = zero-le
  none_deeper d none (suc k) b v =
      let o = origin (caller v).1 in
      let h : k ≤ d = none_deeper d none k o.0 o.1 in
      elim (cases_eq k d) [ inl e ↦ absurd (none b (rw e at v)) | inr ne ↦ omega arith ]

  pub deepest : (d limit : ℕ) → d ≤ limit → (a : ℕ) → Base p start d a → ((b : ℕ) → Base p start (suc d) b → ⊥) → Deepest p start limit (Some d)
  deepest d limit le a v none =
      let w = reached d (Spread.given v) in (
        le,
        record {
          found = (a, w.0, w.2, w.1);
          most = λ b l r. let o = origin (levels r) in none_deeper d none (length l) o.0 o.1;
        },
      )

  pub beyond : (d limit : ℕ) → d ≡ limit → (a : ℕ) → Base p start (suc d) a → Deepest p start limit None
  beyond d limit e a v = let w = reached (suc d) (Spread.given v) in (a, w.0, w.2, omega (arith, w.1))

  -- what is reached with a filled list: one closure, into calls as well
  pub deep_level : {b : ℕ} → Spread (Step p true) (Base p start 1) b → (k : ℕ) × Level p start (suc k) b
  deep_level =
      spreads (λ b. (k : ℕ) × Level p start (suc k) b) (λ a v. (0, Spread.given v)) (λ a b w s. onwards w s)
    where
      onwards : {a b : ℕ} → (k : ℕ) × Level p start (suc k) a → Step p true a b → (k : ℕ) × Level p start (suc k) b
      onwards w (Step.along g) = (w.0, Spread.on w.1 (Step.along g))
      onwards w (Step.over e x) = (w.0, Spread.on w.1 (Step.over e x))
      onwards w (Step.into e d) = (suc w.0, Spread.given (Entered.entered w.1 e))

  deepen : {a b : ℕ} → Step p false a b → Step p true a b
  deepen (Step.along g) = Step.along g
  deepen (Step.over e x) = Step.over e x
  deepen (Step.into e d) = cc

  abbrev Deep : ℕ → Type 0
  Deep = Spread (Step p true) (Base p start 1)

  into_deep : {t : ℕ} (from : ℕ → Type 0) → ((a : ℕ) → from a → Deep a) → Entered p from t → Deep t
  into_deep from all (Entered.entered {a = a} v e) = Spread.on (all a v) (Step.into e refl)

  pub level_deep : (k : ℕ) {b : ℕ} → Level p start (suc k) b → Deep b
  level_deep zero = spreads Deep (λ a v. Spread.given v) (λ a b v s. Spread.on v (deepen s))
  level_deep (suc k) =
      spreads Deep (λ a. into_deep (Level p start (suc k)) (λ a. level_deep k {b = a})) (λ a b v s. Spread.on v (deepen s))

  pub filled_reached : {b : ℕ} → Spread (Step p true) (Base p start 1) b → (r : ℕ) × (l : List ℕ) × Reaches p start b (r ∷ l)
  filled_reached v = let w = deep_level v in let u = reached (suc w.0) w.1 in front u.0 u.1 u.2
    where
      front : {b k : ℕ} (l : List ℕ) → length l ≡ suc k → Reaches p start b l → (r : ℕ) × (m : List ℕ) × Reaches p start b (r ∷ m)
      front [] e w = absurd (omega arith)
      front (r ∷ m) e w = (r, m, w)

  pub reached_filled : {b r : ℕ} {l : List ℕ} → Reaches p start b (r ∷ l) → Spread (Step p true) (Base p start 1) b
  reached_filled {l = l} w = level_deep (length l) (levels w)

  pub empty_reached : {b : ℕ} → Level p start 0 b → Reaches p start b []
  empty_reached v = let w = reached 0 v in none w.0 w.1 w.2
    where
      none : {b : ℕ} (l : List ℕ) → length l ≡ 0 → Reaches p start b l → Reaches p start b []
      none [] e w = w
      none (r ∷ m) e w = absurd (omega arith)
