-- The rules are tried in the order of their numbers.
use Rattle.std.proofs.Common.{◌≡◌, ℕ, ◌+◌, ◌<◌, ◌≤◌, List, [], ◌∷◌, get_or, subst, inl, inr, None, arith}
use Rattle.std.proofs.lemmas.Bool.{cases_eq}
use Rattle.vetting.specs.declared.part.Part.{Part}
use Rattle.vetting.specs.declared.rules.Rule.{Rule}
use Rattle.vetting.specs.declared.rules.Rule.TheVariants.{MainWord, MainReturn, MainRegister, HandlerWord, HandlerReturn, HandlerWrite}
use Rattle.vetting.specs.Verdicts.{rule_number}
use Rattle.vetting.specs.Parts.{WordTest, TrueAt, Found, UnbrokenBelow}

-- the rules in the order of their numbers
abbrev in_order : List Rule
in_order = MainWord ∷ MainReturn ∷ MainRegister ∷ HandlerWord ∷ HandlerReturn ∷ HandlerWrite ∷ []

pub number_at : (k : ℕ) → k < 6 → rule_number (get_or in_order k MainWord) ≡ k + 5
number_at k lt = grind arith

rule_at : (r : Rule) (k : ℕ) → rule_number r ≡ k + 5 → r ≡ get_or in_order k MainWord
rule_at r k e = grind arith

module _ (part : Part) (breaks : Rule → WordTest) (k : ℕ) where
  -- one more rule is not broken
  pub unbroken_more : UnbrokenBelow part breaks (k + 5) → Found part (breaks (get_or in_order k MainWord)) None → UnbrokenBelow part breaks (k + 1 + 5)
  unbroken_more below none = record {
    none = λ rule a lt small broken. elim (cases_eq (rule_number rule) (k + 5)) [
      | inl e ↦ none a small (subst (λ (r : Rule). TrueAt part (breaks r) a) (rule_at rule k e) broken)
      | inr ne ↦ below.none rule a (omega (arith, ne)) small broken
    ];
  }

  -- none is broken before the one at a place
  pub unbroken_before : k < 6 → UnbrokenBelow part breaks (k + 5) → UnbrokenBelow part breaks (rule_number (get_or in_order k MainWord))
  unbroken_before lt below = rw (number_at k lt) below

  -- no rule is left
  pub unbroken_all : 6 ≤ k → k ≤ 6 → UnbrokenBelow part breaks (k + 5) → UnbrokenBelow part breaks 11
  unbroken_all low high below = record { none = λ rule a lt. below.none rule a (omega arith) }
