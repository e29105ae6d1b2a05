-- The buttons: an input that remembers the changes of its register, bit by bit, and requests for those enabled.
use Rattle.std.specs.Prelude.{◌≡◌, ◌↔◌, true, not, cond, ℕ, ◌-◌, ◌<◌, eqb}
use Rattle.std.specs.Int.{bit_at}
use Rattle.std.specs.Int.Bits.{bit_and, bit_or, bit_xor}
use Rattle.bus.specs.Meaning.{Meaning, Event, read, write, clock, drive}
use Rattle.devices.specs.declared.buttons.Buttons.{Buttons}

-- the buttons as they are made
abbrev pub new_buttons : Buttons
new_buttons = record { lines = 0; register = 0; enables = 0; flags = 0 }

-- offset 0 is the register, 1 the enable bits, 2 the flags; 3 reads 0
abbrev pub buttons_read : Buttons → ℕ → ℕ
buttons_read s a = cond (eqb a 0) s.register (cond (eqb a 1) s.enables (cond (eqb a 2) s.flags 0))

-- a write at 1 sets the enable bits, one at 2 clears a flag for each 1; a clock sets a flag for each register bit that it changes
abbrev pub buttons_after : Buttons → Event → Buttons
buttons_after s (read _) = s
buttons_after s (write a v) = record {
  lines = s.lines;
  register = s.register;
  enables = cond (eqb a 1) v s.enables;
  flags = cond (eqb a 2) (bit_and s.flags (255 - v)) s.flags;
}
buttons_after s clock = record {
  lines = s.lines;
  register = s.lines;
  enables = s.enables;
  flags = bit_or s.flags (bit_xor s.register s.lines);
}
buttons_after s (drive _ v) = record { lines = v; register = s.register; enables = s.enables; flags = s.flags }

-- only the enable bits are kept; it requests while a flag and its enable bit are 1
abbrev pub buttons : Meaning Buttons
buttons = record {
  reads = buttons_read;
  requests = λ s. not (eqb (bit_and s.flags s.enables) 0);
  keeps = λ _ a. eqb a 1;
  cell = λ s _. s.enables;
  after = buttons_after;
}

-- a clock sets the flag of each register bit that it changes, and leaves the other flags
abbrev pub FlagsTellChanges : Type 0
FlagsTellChanges =
    (s : Buttons) (i : ℕ) →
    bit_at (buttons_after s clock).flags i ≡ cond (eqb (bit_at s.register i) (bit_at (buttons_after s clock).register i)) (bit_at s.flags i) 1

-- a written 1 clears a flag, a written 0 leaves it
abbrev pub OnesClearFlags : Type 0
OnesClearFlags =
    (s : Buttons) (i v : ℕ) → i < 8 → v < 256 → bit_at (buttons_after s (write 2 v)).flags i ≡ cond (eqb (bit_at v i) 1) 0 (bit_at s.flags i)

-- the buttons request exactly while some flag and its enable bit are 1
abbrev pub RequestsForEnabledFlags : Type 0
RequestsForEnabledFlags =
    (s : Buttons) → (buttons.requests s ≡ true) ↔ ((i : ℕ) × (bit_at s.flags i ≡ 1) × (bit_at s.enables i ≡ 1))
