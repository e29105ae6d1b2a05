-- What a bus shows, how it changes, and the laws that it keeps. A device is the same at its offsets.
-- A condition of the bus is a value of S, and the addresses are those below a size.
use Rattle.std.specs.Prelude.{◌≡◌, Bool, true, cond, ℕ, ◌<◌, eqb}

-- what is done to a bus: a drive sets the outside lines at an address to a byte
pub data Event : Type 0 where
  read : ℕ → Event
  write : ℕ → ℕ → Event
  clock : Event
  drive : ℕ → ℕ → Event

-- what each condition shows, and the condition after each event
pub record Meaning (S : Type 0) : Type 0 where
  pub reads : S → ℕ → ℕ
  pub requests : S → Bool
  pub keeps : S → ℕ → Bool
  pub cell : S → ℕ → ℕ
  pub after : S → Event → S

-- the events that write nothing
abbrev pub Quiet : Event → Type 0
Quiet (read _) = Unit {0}
Quiet (write _ _) = ⊥
Quiet clock = Unit {0}
Quiet (drive _ _) = Unit {0}

-- the events whose address is below the size and whose byte is below 256
abbrev pub Proper : ℕ → Event → Type 0
Proper size (read a) = a < size
Proper size (write a v) = (a < size) × (v < 256)
Proper size clock = Unit {0}
Proper size (drive a v) = (a < size) × (v < 256)

-- the kind of an address, kept or a port, never changes
abbrev pub KindStays : {S : Type 0} → ℕ → Meaning S → Type 0
KindStays {S} size m = (s : S) (e : Event) (a : ℕ) → Proper size e → a < size → m.keeps (m.after s e) a ≡ m.keeps s a

-- a kept address reads as its cell
abbrev pub KeptReadsCell : {S : Type 0} → ℕ → Meaning S → Type 0
KeptReadsCell {S} size m = (s : S) (a : ℕ) → a < size → m.keeps s a ≡ true → m.reads s a ≡ m.cell s a

-- a write sets its own cell, if kept, to the byte written and alters no other
abbrev pub WriteSetsCell : {S : Type 0} → ℕ → Meaning S → Type 0
WriteSetsCell {S} size m =
    (s : S) (a v b : ℕ) → a < size → v < 256 → b < size → m.keeps s b ≡ true →
    m.cell (m.after s (write a v)) b ≡ cond (eqb a b) v (m.cell s b)

-- reads, clocks and drives alter no cell
abbrev pub QuietAltersNoCell : {S : Type 0} → ℕ → Meaning S → Type 0
QuietAltersNoCell {S} size m =
    (s : S) (e : Event) (a : ℕ) → Quiet e → Proper size e → a < size → m.keeps s a ≡ true → m.cell (m.after s e) a ≡ m.cell s a

-- the four laws together, so that a theorem over any meaning takes them as one
pub record Laws {S : Type 0} (size : ℕ) (m : Meaning S) : Type 0 where
  pub kind : KindStays size m
  pub kept : KeptReadsCell size m
  pub written : WriteSetsCell size m
  pub quiet : QuietAltersNoCell size m
