-- The number of a word, digit by digit.
use Rattle.std.proofs.Common.{◌≡◌, ℕ, ◌+◌, ◌*◌, ◌^◌, ◌<◌, ◌≤◌, List, [], ◌∷◌, length, Some, None, Option, IfSome, MatchOption, Iter, refl, sym, ap, ◌∙◌, pow-suc, add-one, arith, eq-eqb}
use Rattle.std.proofs.Math.Nat.{pow-le-pow_right}
use Rattle.std.proofs.lemmas.Bool.Decides.{nat_tests}
use Rattle.std.proofs.iter.Yields.{fronts}
use Rattle.std.proofs.lemmas.List.{nil_from_length}
use Rattle.std.specs.Borrow.{Bor}
use Rattle.std.specs.Iterator.{Yields}
use Rattle.std.specs.List.{FoldsTo}
use Rattle.std.specs.Slice.Iter.{iter_rest, iter_steps}
use Rattle.hexadecimal.specs.Hexadecimal.{value_of}
use Rattle.files.specs.Words.{digit_count, with_digit, number_on, word_of}
use Rattle.files.specs.declared.fault.Digits.{Digits}
use Rattle.files.specs.declared.fault.Digits.TheVariants.{Four, Eight}

pub value_small : (c d : ℕ) → value_of c ≡ Some d → d < 16
value_small c d e = grind (arith, nat_tests)

pub at_most_eight : (digits : Digits) → digit_count digits ≤ 8
at_most_eight Four = omega arith
at_most_eight Eight = omega arith

-- one digit more, or none
read_more : (n c m : ℕ) (cs : List ℕ) → with_digit n c ≡ Some m → number_on n (c ∷ cs) ≡ number_on m cs
read_more n c m cs e = ap (λ (o : Option ℕ). elim o [ Some m ↦ number_on m cs | None ↦ None ]) e

read_none : (n c : ℕ) (cs : List ℕ) → with_digit n c ≡ None → number_on n (c ∷ cs) ≡ None
read_none n c cs e = ap (λ (o : Option ℕ). elim o [ Some m ↦ number_on m cs | None ↦ None ]) e

pub digit_read : (n c d : ℕ) (cs : List ℕ) → value_of c ≡ Some d → number_on n (c ∷ cs) ≡ number_on (n * 16 + d) cs
digit_read n c d cs e = read_more n c (n * 16 + d) cs (ap (λ (o : Option ℕ). elim o [ Some d ↦ Some (n * 16 + d) | None ↦ None ]) e)

grows : (n c m i : ℕ) → with_digit n c ≡ Some m → n < 16 ^ i → m < 16 ^ (i + 1)
grows n c m i e h = by (value_of c) refl e
  where
    by : (o : Option ℕ) → value_of c ≡ o → ◌≡◌ {A = Option ℕ} (elim o [ Some d ↦ Some (n * 16 + d) | None ↦ None ]) (Some m) → m < 16 ^ (i + 1)
    by (Some d) value is = let same : n * 16 + d ≡ m = cc in rw (add-one, pow-suc 16 i) (omega (arith, value_small c d value, same))
    by None value is = cc

-- between s and t stand k digits, which take the number from n, of i digits, to m
pub record Between (s t : Iter ℕ) (n m i k : ℕ) : Type 0 where
  pub reads : number_on n (iter_rest s) ≡ number_on m (iter_rest t)
  pub small : m < 16 ^ (i + k)
  pub long : length (iter_rest s) ≡ k + length (iter_rest t)

module _ {F : Type 0} (R : F × ℕ → Bor ℕ → F × ℕ → Type 0) (turn : (p : F × ℕ) (x : Bor ℕ) (q : F × ℕ) → R p x q → with_digit p.1 x.now ≡ Some q.1) where
  pub between : (xs : List (Bor ℕ)) (s t : Iter ℕ) (p q : F × ℕ) (i : ℕ) → p.1 < 16 ^ i → Yields fronts s xs t → FoldsTo R p xs q → Between s t p.1 q.1 i (length xs)
  between [] s t p q i h y f = let zero : i + 0 ≡ i = omega arith in rw (sym y, sym f) (record { reads = refl; small = rw zero h; long = omega arith })
  between (x ∷ xs) s t p q i h (j, step, y) (k, taken, f) =
      let later = between xs j t k q (i + 1) (grows p.1 x.now k.1 i (turn p x k taken) h) y f in
      let same : i + 1 + length xs ≡ i + length (x ∷ xs) = omega arith in
      record {
        reads = ap (number_on p.1) step ∙ read_more p.1 x.now k.1 (iter_rest j) (turn p x k taken) ∙ later.reads;
        small = rw (sym same) later.small;
        long = omega (arith, ap length step, later.long);
      }

-- fewer digits than a word has leave room for one more
pub room : (digits : Digits) (n i : ℕ) → n < 16 ^ i → i < digit_count digits → n < 2 ^ 28
room digits n i h few =
    let most : 16 ^ i ≤ 16 ^ 7 = pow-le-pow_right (omega arith) {i = i} {j = 7} (omega (arith, at_most_eight digits)) in
    omega (arith, h)

-- the bytes end, or one of them is no digit
module _ (digits : Digits) (bs : List ℕ) (long : length bs ≡ digit_count digits) (s t u : Iter ℕ) (n k : ℕ) (r : Option ℕ) (all : iter_rest s ≡ bs) (read : Between s t 0 n 0 k) where
  word_is : word_of digits bs ≡ number_on n (iter_rest t)
  word_is = rw (eq-eqb _ _ long) (sym (ap (number_on 0) all) ∙ read.reads)

  pub read_end : {Stop : Bor ℕ → Type 0} (o : Option (Bor ℕ)) → iter_steps t o u → MatchOption o (r ≡ Some n) Stop → ((x : Bor ℕ) → Stop x → (with_digit n x.now ≡ None) × (r ≡ None)) → (r ≡ word_of digits bs) × IfSome r (λ m. m < 16 ^ digit_count digits)
  read_end None (none, same) is stop =
      let whole : 0 + k ≡ digit_count digits = omega (arith, read.long, long, none, ap length all) in
      rw is (sym (word_is ∙ ap (number_on n) (nil_from_length _ none)), rw whole at read.small)
  read_end (Some x) next stopped stop =
      let bad = stop x stopped in
      rw bad.1 (sym (word_is ∙ ap (number_on n) next ∙ read_none n x.now (iter_rest u) bad.0), tt)
