-- What insertions do to a set of addresses.
use Rattle.std.proofs.Common.{◌≡◌, ℕ, ◌<◌, Bool, true, false, cond, not, ◌||◌, ◌⊎◌, List, length, set, sym, refl, ap, ◌∙◌, inl, inr, arith, get_or-set_other, get_or-set_same}
use Rattle.std.proofs.lemmas.Bool.{false≢true, cases_eq, cases_lt, not-false}
use Rattle.std.proofs.lemmas.List.{get_or_past, set-get_or}
use Rattle.std.proofs.lemmas.List.Sums.{sum_by-set}
use Rattle.walk.specs.declared.addresses.AddressSet.{AddressSet}
use Rattle.walk.specs.Sets.{has, Has, Within, absent, Grown, Puts}

module _ (s : AddressSet) (at : ℕ) (fits : at < length s.members) where
  abbrev grown_to : AddressSet
  grown_to = record { members = set s.members at true }

  keeps : (a : ℕ) → Has s a → Has grown_to a
  keeps a h =
      elim (cases_eq a at) [
        | inl e ↦ rw e (get_or-set_same s.members at true false fits)
        | inr ne ↦ rw (get_or-set_other s.members at a true false ne) h
      ]

  only : (a : ℕ) → Has grown_to a → (a ≡ at) ⊎ Has s a
  only a h =
      elim (cases_eq a at) [
        | inl e ↦ inl e
        | inr ne ↦ inr (rw (get_or-set_other s.members at a true false ne) at h)
      ]

  pub inserted : Puts (λ a. a ≡ at) s grown_to (not (has s at))
  unfolding absent
  inserted = record {
    holds = λ a e. rw e (get_or-set_same s.members at true false fits);
    only = only;
    grows = record {
      keeps = keeps;
      same = λ e.
          let u : set s.members at true ≡ s.members = rw (not-false (has s at) e) at (set-get_or s.members at false) in
          ap (λ (m : List Bool). let t : AddressSet = record { members = m } in t) u;
      fewer = λ e.
          let n = sum_by-set (λ b. cond (not b) 1 0) s.members at true false fits in
          omega (arith, rw e at n);
    };
  }

pub grown_none : (s : AddressSet) → Grown s s false
grown_none s = record { keeps = λ a h. h; same = λ e. refl; fewer = λ e. cc }

pub grown_both : (s t u : AddressSet) (g n : Bool) → Grown s t g → Grown t u n → Grown s u (g || n)
grown_both s t u g n x y = record {
  keeps = λ a h. y.keeps a (x.keeps a h);
  same = same g n x y;
  fewer = fewer g n x y;
}
  where
    same : (g n : Bool) → Grown s t g → Grown t u n → (g || n) ≡ false → u ≡ s
    same true n x y e = cc
    same false n x y e = y.same e ∙ x.same refl

    fewer : (g n : Bool) → Grown s t g → Grown t u n → (g || n) ≡ true → absent u < absent s
    fewer true true x y e = omega (arith, x.fewer refl, y.fewer refl)
    fewer true false x y e = rw (y.same refl) (x.fewer refl)
    fewer false n x y e = rw (x.same refl) at (y.fewer e)

-- a set of 256 places holds addresses only
pub within : (s : AddressSet) → length s.members ≡ 256 → Within s
within s long a h =
    elim (cases_lt a 256) [
      | inl lt ↦ lt
      | inr ge ↦ absurd (false≢true (sym (get_or_past s.members a false (omega arith)) ∙ h))
    ]
