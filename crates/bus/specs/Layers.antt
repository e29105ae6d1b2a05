-- A device at a base address over a bus: which addresses are the device's, and what the two show together.
use Rattle.std.specs.Prelude.{Bool, ◌||◌, cond, ℕ, ◌/◌, ◌%◌, ◌^◌, eqb}
use Rattle.bus.specs.Meaning.{Meaning, Event, read, write, clock, drive}
use Rattle.bus.specs.declared.layers.Layer.{Layer}

-- the layer of a device at a base address over a bus
abbrev pub over : {D B : Type 0} → ℕ → D → B → Layer D B
over base device below = record { base = base; device = device; below = below }

-- whether an address equals the base after the low n bits are dropped from both
abbrev pub selects : ℕ → ℕ → ℕ → Bool
selects n base a = eqb (a / 2 ^ n) (base / 2 ^ n)

module _ {D B : Type 0} (n : ℕ) (d : Meaning D) (b : Meaning B) where
  -- the layer after an event of the device alone
  abbrev pub device_after : Layer D B → Event → Layer D B
  device_after s e = over s.base (d.after s.device e) s.below

  -- the layer after an event of the bus below alone
  abbrev pub below_after : Layer D B → Event → Layer D B
  below_after s e = over s.base s.device (b.after s.below e)

  -- what the device says at the offset of a selected address, and what the bus below says at any other
  abbrev pub chosen : {X : Type 0} → Layer D B → ℕ → (ℕ → X) → (ℕ → X) → X
  chosen s a upper lower = cond (selects n s.base a) (upper (a % 2 ^ n)) (lower a)

  -- accesses and drives go to the device if it selects their address, else below; clocks go to both
  abbrev pub layer_after : Layer D B → Event → Layer D B
  layer_after s (read a) = chosen s a (λ o. device_after s (read o)) (λ o. below_after s (read o))
  layer_after s (write a v) = chosen s a (λ o. device_after s (write o v)) (λ o. below_after s (write o v))
  layer_after s clock = below_after (device_after s clock) clock
  layer_after s (drive a v) = chosen s a (λ o. device_after s (drive o v)) (λ o. below_after s (drive o v))

  -- where windows overlap the upper device answers alone; either may request
  abbrev pub layer : Meaning (Layer D B)
  layer = record {
    reads = λ s a. chosen s a (d.reads s.device) (b.reads s.below);
    requests = λ s. d.requests s.device || b.requests s.below;
    keeps = λ s a. chosen s a (d.keeps s.device) (b.keeps s.below);
    cell = λ s a. chosen s a (d.cell s.device) (b.cell s.below);
    after = layer_after;
  }
