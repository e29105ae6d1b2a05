-- The input: a register that follows outside lines, clock by clock.
use Rattle.std.specs.Prelude.{false}
use Rattle.bus.specs.Meaning.{Meaning, Event, read, write, clock, drive}
use Rattle.devices.specs.declared.input.Input.{Input}

-- the input as it is made
abbrev pub new_input : Input
new_input = record { lines = 0; register = 0 }

-- a drive sets the lines, a clock copies them into the register, writes are ignored
abbrev pub input_after : Input → Event → Input
input_after s (read _) = s
input_after s (write _ _) = s
input_after s clock = record { lines = s.lines; register = s.lines }
input_after s (drive _ v) = record { lines = v; register = s.register }

-- its only offset is a port that reads the register
abbrev pub input : Meaning Input
input = record {
  reads = λ s _. s.register;
  requests = λ _. false;
  keeps = λ _ _. false;
  cell = λ _ _. 0;
  after = input_after;
}
