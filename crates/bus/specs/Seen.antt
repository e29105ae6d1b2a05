-- A bus seen by what it shows after each list of events, so that one type of conditions serves every bus.
-- The newest event of a list comes first.
use Rattle.std.specs.Prelude.{◌≡◌, true, cond, List, [], ◌∷◌, ℕ, ◌<◌, eqb}
use Rattle.bus.specs.Meaning.{Meaning, Event, read, write, clock, drive, Proper}

-- the condition after the events
abbrev pub replay : {S : Type 0} → Meaning S → S → List Event → S
replay m s [] = s
replay m s (e ∷ es) = m.after (replay m s es) e

-- what a bus in a condition shows after each list of events
abbrev pub seen : {S : Type 0} → Meaning S → S → Meaning (List Event)
seen m s = record {
  reads = λ es. m.reads (replay m s es);
  requests = λ es. m.requests (replay m s es);
  keeps = λ es. m.keeps (replay m s es);
  cell = λ es. m.cell (replay m s es);
  after = λ es e. e ∷ es;
}

-- two buses, each in a condition, show the same after every list of events
pub record Alike {S T : Type 0} (m : Meaning S) (s : S) (k : Meaning T) (t : T) : Type 0 where
  pub reads : (es : List Event) (a : ℕ) → m.reads (replay m s es) a ≡ k.reads (replay k t es) a
  pub requests : (es : List Event) → m.requests (replay m s es) ≡ k.requests (replay k t es)
  pub keeps : (es : List Event) (a : ℕ) → m.keeps (replay m s es) a ≡ k.keeps (replay k t es) a
  pub cell : (es : List Event) (a : ℕ) → m.cell (replay m s es) a ≡ k.cell (replay k t es) a

-- the lists of proper events
abbrev pub AllProper : ℕ → List Event → Type 0
AllProper size [] = Unit {0}
AllProper size (e ∷ es) = Proper size e × AllProper size es

-- the byte written last to an address, or the first byte if none was
abbrev pub last_written : ℕ → ℕ → List Event → ℕ
last_written a first [] = first
last_written a first (read _ ∷ es) = last_written a first es
last_written a first (write b v ∷ es) = cond (eqb b a) v (last_written a first es)
last_written a first (clock ∷ es) = last_written a first es
last_written a first (drive _ _ ∷ es) = last_written a first es

-- whatever happens, a kept address reads as the byte written to it last, or as it did at first if none was
abbrev pub ReadsLastWritten : {S : Type 0} → ℕ → Meaning S → S → Type 0
ReadsLastWritten size m s =
    (es : List Event) (a : ℕ) → AllProper size es → a < size → m.keeps s a ≡ true →
    m.reads (replay m s es) a ≡ last_written a (m.reads s a) es
