-- The part of a line before its comment, from its pairs of neighbours.
use Rattle.std.proofs.Common.{◌≡◌, ℕ, suc, ◌+◌, ◌<◌, ◌≤◌, Bool, true, false, ◌&&◌, eqb, ltb, List, [], ◌∷◌, length, take, drop, Option, refl, ap, ◌∙◌, arith, ltb-true, take_all, unwrap_or, ltb-false, subst}
use Rattle.std.specs.List.{position, position_or_len}
use Rattle.std.specs.Slice.Iter.{windows_rest, windows_size, windows_steps}
use Rattle.std.specs.declared.slice.Windows.{Windows}
use Rattle.std.proofs.lemmas.Bool.Decides.{nat_tests}
use Rattle.std.proofs.lemmas.Iterator.{YieldsList}
use Rattle.std.proofs.lemmas.Iterator.Splits.{YieldsList-from_shown_while}
use Rattle.files.specs.Texts.{slashes, uncommented}

-- each two neighbours
abbrev pub pairs : List ℕ → List (List ℕ)
pairs [] = []
pairs (a ∷ []) = []
pairs (a ∷ b ∷ bs) = (a ∷ b ∷ []) ∷ pairs (b ∷ bs)

-- whether these are two slashes
abbrev pub two_slashes : List ℕ → Bool
two_slashes bs = eqb (length bs) 2 && slashes bs

no_pairs : (bs : List ℕ) → length bs < 2 → length (pairs bs) ≡ 0
no_pairs [] few = refl
no_pairs (a ∷ []) few = refl
no_pairs (a ∷ b ∷ bs) few = absurd (omega arith)

next_pair : (bs pair rest : List ℕ) → 2 ≤ length bs → pair ≡ take 2 bs → rest ≡ drop 1 bs → pairs bs ≡ pair ∷ pairs rest
next_pair [] pair rest some first more = absurd (omega arith)
next_pair (a ∷ []) pair rest some first more = absurd (omega arith)
next_pair (a ∷ b ∷ bs) pair rest some first more = rw (first, more)

-- `windows(2)` yields them
pub YieldsList-from_windows : {s : Windows ℕ} (bs : List ℕ) → windows_rest s ≡ bs → windows_size s ≡ 2 → YieldsList windows_steps (λ x. x.now) s (pairs bs)
YieldsList-from_windows {s} bs rest two =
    subst (λ l. YieldsList windows_steps (λ x. x.now) s (pairs l)) rest
    (YieldsList-from_shown_while windows_steps (λ x. x.now) (λ s. pairs (windows_rest s)) (λ s. windows_size s ≡ 2)
    (λ s t p e. no_pairs (windows_rest s) (omega (arith, p, e.1.0)))
    (λ s x t p e. (e.0 ∙ p, next_pair (windows_rest s) x.now (windows_rest t) (omega (arith, p, e.1.0)) (rw p at e.1.1) e.1.2)) s two)

take_first : {X : Type 0} (x : X) (xs : List X) (n : ℕ) → take (1 + n) (x ∷ xs) ≡ x ∷ take n xs
take_first x xs n = let one : 1 + n ≡ suc n = omega arith in ap (λ m. take m (x ∷ xs)) one

-- a line up to its first two slashes
comment_at : (bs : List ℕ) → position_or_len two_slashes (pairs bs) < length (pairs bs) → take (position_or_len two_slashes (pairs bs)) bs ≡ uncommented bs
comment_at [] h = absurd (omega arith)
comment_at (a ∷ []) h = absurd (omega arith)
comment_at (a ∷ b ∷ bs) h = by (two_slashes (a ∷ b ∷ [])) refl (λ k. comment_at (b ∷ bs) k)
  where
    by : (t : Bool) → two_slashes (a ∷ b ∷ []) ≡ t → (position_or_len two_slashes (pairs (b ∷ bs)) < length (pairs (b ∷ bs)) → take (position_or_len two_slashes (pairs (b ∷ bs))) (b ∷ bs) ≡ uncommented (b ∷ bs)) → take (position_or_len two_slashes (pairs (a ∷ b ∷ bs))) (a ∷ b ∷ bs) ≡ uncommented (a ∷ b ∷ bs)
    by true e later = rw e
    by false e later = let more = rw e at h in rw (e, take_first a (b ∷ bs) (position_or_len two_slashes (pairs (b ∷ bs)))) (ap (λ l. a ∷ l) (later (omega arith)))

-- a line without them
comment_none : (bs : List ℕ) → length (pairs bs) ≤ position_or_len two_slashes (pairs bs) → bs ≡ uncommented bs
comment_none [] h = refl
comment_none (a ∷ []) h = grind (arith, nat_tests)
comment_none (a ∷ b ∷ bs) h = by (two_slashes (a ∷ b ∷ [])) refl (λ k. comment_none (b ∷ bs) k)
  where
    by : (t : Bool) → two_slashes (a ∷ b ∷ []) ≡ t → (length (pairs (b ∷ bs)) ≤ position_or_len two_slashes (pairs (b ∷ bs)) → b ∷ bs ≡ uncommented (b ∷ bs)) → a ∷ b ∷ bs ≡ uncommented (a ∷ b ∷ bs)
    by true e later = let none = rw e at h in absurd (omega arith)
    by false e later = let more = rw e at h in rw e (ap (λ l. a ∷ l) (later (omega arith)))

-- the first two slashes begin the comment
pub comment_cut : (bs : List ℕ) (r : Option ℕ) → r ≡ position two_slashes (pairs bs) → take (unwrap_or r (length bs)) bs ≡ uncommented bs
comment_cut bs r e = ap (λ o. take (unwrap_or o (length bs)) bs) e ∙ by (ltb (position_or_len two_slashes (pairs bs)) (length (pairs bs))) refl
  where
    by : (t : Bool) → ltb (position_or_len two_slashes (pairs bs)) (length (pairs bs)) ≡ t → take (unwrap_or (position two_slashes (pairs bs)) (length bs)) bs ≡ uncommented bs
    by true h = rw h (comment_at bs (ltb-true _ _ h))
    by false h = rw h (take_all (length bs) bs (omega arith) ∙ comment_none bs (ltb-false _ _ h))
