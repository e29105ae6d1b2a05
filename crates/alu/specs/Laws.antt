-- What results and flags tell, in exact numbers.
use Rattle.std.specs.Prelude.{◌≡◌, ℕ, ◌+◌, ◌*◌, ◌/◌, ◌%◌, ◌<◌, ◌≤◌, not, ℤ, pos, ◌+ℤ◌, ◌-ℤ◌, Decides}
use Rattle.isa.specs.declared.instruction.AluOperation.{AluOperation}
use Rattle.isa.specs.declared.instruction.AluOperation.TheVariants.{Add, Adc, Sub, Sbc, And, Or, Xor, Tst, Cmp}
use Rattle.isa.specs.declared.instruction.ShiftOperation.{ShiftOperation}
use Rattle.isa.specs.declared.instruction.ShiftOperation.TheVariants.{Sl0, Sl1, Sr0, Sr1, Asr, Rol, Ror, Rlc, Rrc}
use Rattle.alu.specs.declared.flags.Flags.{Flags}
use Rattle.alu.specs.declared.outcome.Outcome.{Outcome}
use Rattle.alu.specs.Results.{bit, signed_value}

-- of every result: it is a byte, Z is 1 exactly when it is 0, N is 1 exactly when its bit 7 is, IE and IF stay
pub record Judged (before : Flags) (r : Outcome) : Type 0 where
  pub byte : r.value < 256
  pub zero : Decides r.flags.z (r.value ≡ 0)
  pub negative : Decides r.flags.n (128 ≤ r.value)
  pub enabled : r.flags.ie ≡ before.ie
  pub handling : r.flags.handling ≡ before.handling

-- V is 0 exactly when the value, read as -128 to 127, is the exact signed result
abbrev pub SignedExactly : ℤ → Outcome → Type 0
SignedExactly exact r = Decides (not r.flags.v) (signed_value r.value ≡ exact)

-- value + 256 C is the exact sum
pub record Sum (a b carry : ℕ) (r : Outcome) : Type 0 where
  pub exact : r.value + 256 * bit r.flags.c ≡ a + b + carry
  pub signed : SignedExactly (signed_value a +ℤ signed_value b +ℤ pos carry) r

-- a + 256 C is value, b and borrow together
pub record Difference (a b borrow : ℕ) (r : Outcome) : Type 0 where
  pub exact : a + 256 * bit r.flags.c ≡ r.value + b + borrow
  pub signed : SignedExactly (signed_value a -ℤ signed_value b -ℤ pos borrow) r

-- C and V stay
pub record CarryStays (before : Flags) (r : Outcome) : Type 0 where
  pub carry : r.flags.c ≡ before.c
  pub overflow : r.flags.v ≡ before.v

-- what C and V tell after each operation
abbrev pub CarryTold : AluOperation → ℕ → ℕ → Flags → Outcome → Type 0
CarryTold Add a b f r = Sum a b 0 r
CarryTold Adc a b f r = Sum a b (bit f.c) r
CarryTold Sub a b f r = Difference a b 0 r
CarryTold Sbc a b f r = Difference a b (bit f.c) r
CarryTold Cmp a b f r = Difference a b 0 r
CarryTold And a b f r = CarryStays f r
CarryTold Or a b f r = CarryStays f r
CarryTold Xor a b f r = CarryStays f r
CarryTold Tst a b f r = CarryStays f r

-- what the value and the six flags tell after an operation on two bytes
pub record Exact (operation : AluOperation) (a b : ℕ) (before : Flags) (r : Outcome) : Type 0 where
  pub judged : Judged before r
  pub carry : CarryTold operation a b before r

-- one place to the left: value + 256 C is twice the byte and the bit that came in
abbrev pub Left : ℕ → ℕ → Outcome → Type 0
Left a taken_in r = r.value + 256 * bit r.flags.c ≡ 2 * a + taken_in

-- one place to the right: twice the value and C are the byte, with the bit that came in above its bit 7
abbrev pub Right : ℕ → ℕ → Outcome → Type 0
Right a taken_in r = 2 * r.value + bit r.flags.c ≡ a + 256 * taken_in

-- the same of signed values: twice the value and C are the byte
abbrev pub SignedRight : ℕ → Outcome → Type 0
SignedRight a r = signed_value r.value +ℤ signed_value r.value +ℤ pos (bit r.flags.c) ≡ signed_value a

-- which bit comes in: the digit of the name, the bit shifted out, or the old C
abbrev pub ShiftedExactly : ShiftOperation → ℕ → Flags → Outcome → Type 0
ShiftedExactly Sl0 a f r = Left a 0 r
ShiftedExactly Sl1 a f r = Left a 1 r
ShiftedExactly Rol a f r = Left a (bit r.flags.c) r
ShiftedExactly Rlc a f r = Left a (bit f.c) r
ShiftedExactly Sr0 a f r = Right a 0 r
ShiftedExactly Sr1 a f r = Right a 1 r
ShiftedExactly Asr a f r = SignedRight a r
ShiftedExactly Ror a f r = Right a (bit r.flags.c) r
ShiftedExactly Rrc a f r = Right a (bit f.c) r

-- what the value and the six flags tell after a shift or rotate
pub record ExactShift (operation : ShiftOperation) (a : ℕ) (before : Flags) (r : Outcome) : Type 0 where
  pub judged : Judged before r
  pub overflow : r.flags.v ≡ before.v
  pub shifted : ShiftedExactly operation a before r

-- each half of the value is the other half of the byte; C and V stay
pub record HalvesSwapped (a : ℕ) (before : Flags) (r : Outcome) : Type 0 where
  pub judged : Judged before r
  pub low : r.value % 16 ≡ a / 16
  pub high : r.value / 16 ≡ a % 16
  pub carry : CarryStays before r
