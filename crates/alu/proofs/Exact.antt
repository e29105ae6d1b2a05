-- The laws of results and flags.
use Rattle.std.proofs.Common.{◌≡◌, ℕ, ◌+◌, ◌-◌, ◌%◌, ◌<◌, Bool, false, not, pos, ◌+ℤ◌, ◌-ℤ◌, Decides, arith, rules}
use Rattle.std.proofs.lemmas.Int.{ints}
use Rattle.std.proofs.lemmas.Bool.Decides.{nat_tests}
use Rattle.isa.specs.declared.instruction.AluOperation.{AluOperation}
use Rattle.isa.specs.declared.instruction.AluOperation.TheVariants.{Add, Adc, Sub, Sbc, And, Or, Xor, Tst, Cmp}
use Rattle.alu.specs.declared.flags.Flags.{Flags}
use Rattle.alu.specs.Results.{bit, signed_value, out_of_range, added, subtracted, computed}
use Rattle.alu.specs.Laws.{Sum, Difference, Exact}

-- V is 0 exactly when the signed value of the sum's byte is the signed sum
signed_sum : (a b : ℕ) (c : Bool) → a < 256 → b < 256
    → Decides (not (out_of_range (signed_value a +ℤ signed_value b +ℤ pos (bit c)))) (signed_value ((a + b + bit c) % 256) ≡ signed_value a +ℤ signed_value b +ℤ pos (bit c))
signed_sum a b c h k = grind (arith, ints, nat_tests)

-- the same of a difference
signed_difference : (a b : ℕ) (c : Bool) → a < 256 → b < 256
    → Decides (not (out_of_range (signed_value a -ℤ signed_value b -ℤ pos (bit c)))) (signed_value ((a + 512 - (b + bit c)) % 256) ≡ signed_value a -ℤ signed_value b -ℤ pos (bit c))
signed_difference a b c h k = grind (arith, ints, nat_tests)

sum_exact : (a b : ℕ) (c : Bool) (f : Flags) → a < 256 → b < 256 → Sum a b (bit c) (added a b c f)
sum_exact a b c f h k = record { exact = grind (arith, nat_tests); signed = signed_sum a b c h k }

difference_exact : (a b : ℕ) (c : Bool) (f : Flags) → a < 256 → b < 256 → Difference a b (bit c) (subtracted a b c f)
difference_exact a b c f h k = record { exact = grind (arith, nat_tests); signed = signed_difference a b c h k }

-- the result of an operation on two bytes, which is a byte, tells what its row says
pub exact : (op : AluOperation) (a b : ℕ) (f : Flags) → a < 256 → b < 256 → (computed op a b f).value < 256 → Exact op a b f (computed op a b f)
exact Add a b f h k s = record { judged = search rules; carry = sum_exact a b false f h k }
exact Adc a b f h k s = record { judged = search rules; carry = sum_exact a b f.c f h k }
exact Sub a b f h k s = record { judged = search rules; carry = difference_exact a b false f h k }
exact Sbc a b f h k s = record { judged = search rules; carry = difference_exact a b f.c f h k }
exact And a b f h k s = search rules
exact Or a b f h k s = search rules
exact Xor a b f h k s = search rules
exact Tst a b f h k s = search rules
exact Cmp a b f h k s = record { judged = search rules; carry = difference_exact a b false f h k }
