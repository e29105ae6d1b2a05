-- The memory: cells that are read and written.
use Rattle.std.specs.Prelude.{List, false, ℕ, ltb, length, get_or, set}
use Rattle.bus.specs.Meaning.{Meaning, Event, read, write, clock, drive}
use Rattle.devices.specs.declared.memory.Memory.{Memory}

-- the memory of the given cells
abbrev pub new_memory : List ℕ → Memory
new_memory cells = record { cells = cells }

-- a write sets its cell; nothing else does anything
abbrev pub memory_after : Memory → Event → Memory
memory_after s (read _) = s
memory_after s (write a v) = new_memory (set s.cells a v)
memory_after s clock = s
memory_after s (drive _ _) = s

-- every offset that has a cell is kept
abbrev pub memory : Meaning Memory
memory = record {
  reads = λ s a. get_or s.cells a 0;
  requests = λ _. false;
  keeps = λ s a. ltb a (length s.cells);
  cell = λ s a. get_or s.cells a 0;
  after = memory_after;
}
