-- Results and flags of operations on bytes. Results are taken modulo 256.
use Rattle.std.specs.Prelude.{ℕ, ◌+◌, ◌-◌, ◌*◌, ◌/◌, ◌%◌, Bool, true, false, cond, ◌||◌, ℤ, pos, negsuc, ◌+ℤ◌, ◌-ℤ◌, ◌==◌, bit_and, bit_or, bit_xor, int_lt, nat_le, nat_lt}
use Rattle.isa.specs.declared.instruction.AluOperation.{AluOperation}
use Rattle.isa.specs.declared.instruction.AluOperation.TheVariants.{Add, Adc, Sub, Sbc, And, Or, Xor, Tst, Cmp}
use Rattle.isa.specs.declared.instruction.ShiftOperation.{ShiftOperation}
use Rattle.isa.specs.declared.instruction.ShiftOperation.TheVariants.{Sl0, Sl1, Sr0, Sr1, Asr, Rol, Ror, Rlc, Rrc}
use Rattle.alu.specs.declared.flags.Flags.{Flags}
use Rattle.alu.specs.declared.outcome.Outcome.{Outcome}

-- a flag as a number
abbrev pub bit : Bool → ℕ
bit true = 1
bit false = 0

-- a byte, read as -128 to 127
abbrev pub signed_value : ℕ → ℤ
signed_value b = cond (nat_lt b 128) (pos b) (pos b -ℤ pos 256)

-- a number falls outside -128 to 127
abbrev pub out_of_range : ℤ → Bool
out_of_range z = int_lt z (negsuc 127) || int_lt (pos 127) z

-- Z tells a result of 0, N is its bit 7; the other flags stay
abbrev pub judged : ℕ → Flags → Flags
judged r f = record { z = (r == 0); c = f.c; n = nat_le 128 r; v = f.v; ie = f.ie; handling = f.handling }

-- C and V as given; the other flags stay
abbrev pub with_carry_overflow : Bool → Bool → Flags → Flags
with_carry_overflow c v f = record { z = f.z; c = c; n = f.n; v = v; ie = f.ie; handling = f.handling }

-- a + b + carry: C tells a sum above 255, V a signed sum that falls outside the range
abbrev pub added : ℕ → ℕ → Bool → Flags → Outcome
added a b carry f =
    let r : ℕ = (a + b + bit carry) % 256 in
    record { value = r; flags = with_carry_overflow (nat_lt 255 (a + b + bit carry)) (out_of_range (signed_value a +ℤ signed_value b +ℤ pos (bit carry))) (judged r f) }

-- a - b - borrow: C tells a borrow, V a signed difference that falls outside the range
abbrev pub subtracted : ℕ → ℕ → Bool → Flags → Outcome
subtracted a b borrow f =
    let r : ℕ = (a + 512 - (b + bit borrow)) % 256 in
    record { value = r; flags = with_carry_overflow (nat_lt a (b + bit borrow)) (out_of_range (signed_value a -ℤ signed_value b -ℤ pos (bit borrow))) (judged r f) }

-- a result that sets Z and N only
abbrev pub only_judged : ℕ → Flags → Outcome
only_judged r f = record { value = r; flags = judged r f }

-- the result and the flags of an operation on two bytes
abbrev pub computed : AluOperation → ℕ → ℕ → Flags → Outcome
computed Add a b f = added a b false f
computed Adc a b f = added a b f.c f
computed Sub a b f = subtracted a b false f
computed Sbc a b f = subtracted a b f.c f
computed And a b f = only_judged (bit_and a b) f
computed Or a b f = only_judged (bit_or a b) f
computed Xor a b f = only_judged (bit_xor a b) f
computed Tst a b f = only_judged (bit_and a b) f
computed Cmp a b f = subtracted a b false f

-- the two halves of a byte, exchanged
abbrev pub exchanged : ℕ → ℕ
exchanged a = a % 16 * 16 + a / 16

-- SWP sets Z and N only
abbrev pub swapped : ℕ → Flags → Outcome
swapped a f = only_judged (exchanged a) f

-- what a shift leaves: Z and N tell of the result, C is the bit shifted out
abbrev pub shift_outcome : ℕ → Bool → Flags → Outcome
shift_outcome r out f = record { value = r; flags = with_carry_overflow out f.v (judged r f) }

-- one place to the left: a bit comes in at bit 0, bit 7 is shifted out
abbrev pub shifted_left : ℕ → Bool → Flags → Outcome
shifted_left a taken_in f = shift_outcome ((2 * a + bit taken_in) % 256) (nat_le 128 a) f

-- one place to the right: a bit comes in at bit 7, bit 0 is shifted out
abbrev pub shifted_right : ℕ → Bool → Flags → Outcome
shifted_right a taken_in f = shift_outcome (a / 2 + 128 * bit taken_in) (a % 2 == 1) f

-- SL0, SL1, SR0 and SR1 take in their digit, ASR keeps bit 7, ROL and ROR take in the bit shifted out, RLC and RRC the old C
abbrev pub shifted : ShiftOperation → ℕ → Flags → Outcome
shifted Sl0 a f = shifted_left a false f
shifted Sl1 a f = shifted_left a true f
shifted Sr0 a f = shifted_right a false f
shifted Sr1 a f = shifted_right a true f
shifted Asr a f = shifted_right a (nat_le 128 a) f
shifted Rol a f = shifted_left a (nat_le 128 a) f
shifted Ror a f = shifted_right a (a % 2 == 1) f
shifted Rlc a f = shifted_left a f.c f
shifted Rrc a f = shifted_right a f.c f
