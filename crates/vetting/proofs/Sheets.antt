-- What the reading of a sheet rests on.
use Rattle.std.proofs.Common.{◌≡◌, ℕ, zero, suc, ◌+◌, ◌/◌, ◌^◌, ◌<◌, ◌≤◌, true, false, ◌&&◌, ltb, List, length, take, replicate, get_or, sym, refl, ◌∙◌, inl, inr, lt_of_lt_of_le, arith, below_more, pow_mono}
use native.Mathlib.Nat.{div-eq_of_lt}
use Rattle.std.proofs.lemmas.Bool.{cases_lt, lt-ltb, and_right}
use Rattle.std.proofs.lemmas.List.Folds.{list_any_more}
use Rattle.vetting.specs.declared.sheet.Sheet.{Sheet}
use Rattle.vetting.specs.declared.sheet_word.SheetWord.{SheetWord}
use Rattle.vetting.specs.Sheets.{FineBelow, ReadFrom, covers, gives}
use Rattle.vetting.specs.SheetWords.{Added, ReadAs, is_set}

-- a list of the default alone is the default everywhere
pub get_or-replicate_default : {A : Type 0} (n i : ℕ) (d : A) → get_or (replicate n d) i d ≡ d
get_or-replicate_default zero i d = refl
get_or-replicate_default (suc n) zero d = refl
get_or-replicate_default (suc n) (suc i) d = get_or-replicate_default n i d

-- sixteen bits are all that are set
pub all_bits : (bits i r : ℕ) → bits < 2 ^ 16 → 16 ≤ i → (ltb r i && is_set bits r) ≡ is_set bits r
all_bits bits i r small wide =
    elim (cases_lt r i) [
      | inl lt ↦ let t : ltb r i ≡ true = lt-ltb r i lt in rw t
      | inr ge ↦
          let far : 16 ≤ r = omega arith in
          let none : bits / 2 ^ r ≡ 0 = div-eq_of_lt (lt_of_lt_of_le small (pow_mono far)) in
          rw none (and_right (ltb r i) false refl)
    ]

-- one more word is read
pub read_more : (words : List ℕ) (i : ℕ) (s t : Sheet) (word : SheetWord) → i < length words → FineBelow words i → ReadFrom (take i words) s →
    ReadAs (get_or words i 0) word → Added s word t → FineBelow words (i + 1) × ReadFrom (take (i + 1) words) t
read_more words i s t word lt fine read here added = (
  below_more _ _ fine here.fine,
  record {
    ranges = λ a. added.ranges a ∙ (rw (read.ranges a, here.addresses a) (sym (list_any_more (covers a) words i 0 lt)));
    handlers = λ r. added.handlers r ∙ (rw (read.handlers r, here.registers r) (sym (list_any_more (gives r) words i 0 lt)));
  },
)
