-- Sets of addresses.
use Rattle.std.specs.Prelude.{◌≡◌, ℕ, ◌<◌, Bool, true, false, not, ◌⊎◌, count_by, slice_index_or}
use Rattle.walk.specs.declared.addresses.AddressSet.{AddressSet}

-- whether the set holds an address
abbrev pub has : AddressSet → ℕ → Bool
has s a = slice_index_or s.members a false

-- the set holds an address
abbrev pub Has : AddressSet → ℕ → Type 0
Has s a = has s a ≡ true

-- the set holds addresses only, which are below 256
abbrev pub Within : AddressSet → Type 0
Within s = (a : ℕ) → Has s a → a < 256

-- how many of the 256 addresses are not in the set
unfoldable pub absent : AddressSet → ℕ
absent s = count_by not s.members

-- s became t by insertions; grown tells whether one of them was of an address that was not in before
pub record Grown (s t : AddressSet) (grown : Bool) : Type 0 where
  pub keeps : (a : ℕ) → Has s a → Has t a
  pub same : grown ≡ false → t ≡ s
  pub fewer : grown ≡ true → absent t < absent s

-- s became t as the addresses that are asked for were put in
pub record Puts (asked : ℕ → Type 0) (s t : AddressSet) (grown : Bool) : Type 0 where
  pub holds : (a : ℕ) → asked a → Has t a
  pub only : (a : ℕ) → Has t a → asked a ⊎ Has s a
  pub grows : Grown s t grown
