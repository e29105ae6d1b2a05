-- One application of a rule more, and one pass more.
use Rattle.std.proofs.Common.{◌≡◌, ℕ, ◌+◌, Bool, false, ◌||◌, inl, inr, arith}
use Rattle.std.proofs.lemmas.Bool.{cases_eq, or_parts}
use Rattle.walk.specs.declared.addresses.AddressSet.{AddressSet}
use Rattle.walk.specs.Sets.{Has, Puts}
use Rattle.walk.specs.Closures.{Derived, Applied}
use Rattle.walk.proofs.Sets.{grown_none, grown_both}

module _ {asks : AddressSet → ℕ → ℕ → Type 0} where
  pub applied_none : {s : AddressSet} → Applied asks 0 s s false
  applied_none {s = s} = record {
    just = λ a h. Derived.given h;
    always = λ a b lt. absurd (omega arith);
    closed = λ e a b lt. absurd (omega arith);
    grows = grown_none s;
  }

  pub applied_more : {i m : ℕ} {s t u : AddressSet} {g n : Bool} → m ≡ i + 1 → Applied asks i s t g → Puts (asks t i) t u n →
      Applied asks m s u (g || n)
  applied_more {i = i} {s = s} {t = t} {u = u} {g = g} {n = n} one inv add =
      let grows = grown_both s t u g n inv.grows add.grows in
      record {
        just = λ a h. elim (add.only a h) [ inl k ↦ Derived.asked t inv.just k | inr h ↦ inv.just a h ];
        always = λ a b lt k. elim (cases_eq a i) [
          | inl q ↦ add.holds b (rw q at (k t))
          | inr ne ↦ add.grows.keeps b (inv.always a b (omega arith) k)
        ];
        closed = λ e a b lt k. elim (cases_eq a i) [
          | inl q ↦
              let here : asks t i b = rw (inv.grows.same (or_parts g n e).0) (rw q at k) in
              rw (grows.same e) at (add.holds b here)
          | inr ne ↦ inv.closed (or_parts g n e).0 a b (omega arith) k
        ];
        grows = grows;
      }

  -- what is derived from a set of addresses derived from s is derived from s
  pub derived_of : {s t : AddressSet} → ((a : ℕ) → Has t a → Derived asks s a) → {a : ℕ} → Derived asks t a → Derived asks s a
  derived_of all (Derived.given h) = all _ h
  derived_of all (Derived.asked u before k) = Derived.asked u (λ c h. derived_of all (before c h)) k
