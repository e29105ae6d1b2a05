-- The output: one kept cell.
use Rattle.std.specs.Prelude.{true, false}
use Rattle.bus.specs.Meaning.{Meaning, Event, read, write, clock, drive}
use Rattle.devices.specs.declared.output.Output.{Output}

-- the output as it is made
abbrev pub new_output : Output
new_output = record { byte = 0 }

-- a write sets the byte; nothing else does anything
abbrev pub output_after : Output → Event → Output
output_after s (read _) = s
output_after s (write _ v) = record { byte = v }
output_after s clock = s
output_after s (drive _ _) = s

-- its only offset is kept
abbrev pub output : Meaning Output
output = record {
  reads = λ s _. s.byte;
  requests = λ _. false;
  keeps = λ _ _. true;
  cell = λ s _. s.byte;
  after = output_after;
}
