-- The rules of the buttons, bit by bit.
use Rattle.std.proofs.Common.{◌≡◌, refl, ◌∙◌, true, ℕ, zero, suc, ◌-◌, ◌/◌, ◌%◌, min, arith}
use Rattle.std.specs.Int.{bit_at, w8}
use Rattle.std.specs.Int.Bits.{bit_and, bit_xor}
use Rattle.std.proofs.Math.Arith.{bin_ind}
use Rattle.std.proofs.lemmas.Bool.Decides.{nat_tests}
use Rattle.std.proofs.lemmas.Nat.Bits.{bit_at-lt, bit_at-suc, bit_at-zero, bit_at_lowest, bit_at_and, bit_at_or, bit_at_xor, bit_at_not}
use Rattle.devices.specs.Buttons.{buttons, FlagsTellChanges, OnesClearFlags, RequestsForEnabledFlags}

-- a number that is not 0 has a bit that is 1
some_bit : (n : ℕ) → (n ≡ 0 → ⊥) → (i : ℕ) × (bit_at n i ≡ 1)
some_bit = bin_ind (λ (n : ℕ). (n ≡ 0 → ⊥) → (i : ℕ) × (bit_at n i ≡ 1)) (λ n. absurd (n refl)) (λ n ih. found n ih (n % 2) refl)
  where
    found : (n : ℕ) → ((n / 2 ≡ 0 → ⊥) → (i : ℕ) × (bit_at (n / 2) i ≡ 1)) → (d : ℕ) → n % 2 ≡ d → (n ≡ 0 → ⊥) → (i : ℕ) × (bit_at n i ≡ 1)
    found n ih zero e some = let (i, p) = ih (λ h. some (omega arith)) in (suc i, bit_at-suc n i ∙ p)
    found n ih (suc zero) e some = (0, bit_at_lowest n ∙ e)
    found n ih (suc (suc d)) e some = absurd (omega arith)

pub flags_tell_changes : FlagsTellChanges
flags_tell_changes s i =
    grind (arith, nat_tests, bit_at_or s.flags (bit_xor s.register s.lines) i, bit_at_xor s.register s.lines i, bit_at-lt s.flags i, bit_at-lt s.register i, bit_at-lt s.lines i)

pub ones_clear_flags : OnesClearFlags
ones_clear_flags s i v below byte =
    grind (arith, nat_tests, bit_at_and s.flags (255 - v) i, bit_at_not w8 v i byte below, bit_at-lt s.flags i, bit_at-lt v i)

pub requests_for_enabled_flags : RequestsForEnabledFlags
requests_for_enabled_flags s = (requested, requesting)
  where
    both : (i : ℕ) → bit_at (bit_and s.flags s.enables) i ≡ min (bit_at s.flags i) (bit_at s.enables i)
    both = bit_at_and s.flags s.enables

    requested : buttons.requests s ≡ true → (i : ℕ) × (bit_at s.flags i ≡ 1) × (bit_at s.enables i ≡ 1)
    requested e =
        let (i, p) = some_bit (bit_and s.flags s.enables) (grind (arith, nat_tests)) in
        (i, omega (arith, both i, bit_at-lt s.flags i), omega (arith, both i, bit_at-lt s.enables i))

    requesting : (i : ℕ) × (bit_at s.flags i ≡ 1) × (bit_at s.enables i ≡ 1) → buttons.requests s ≡ true
    requesting (i, flag, enable) = grind (arith, nat_tests, both i, bit_at-zero i)
