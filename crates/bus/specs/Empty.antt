-- The bus without devices.
use Rattle.std.specs.Prelude.{false}
use Rattle.bus.specs.Meaning.{Meaning}
use Rattle.bus.specs.declared.empty.Empty.{Empty}

-- only ports, which read 0; it never requests, and it has one condition
abbrev pub empty : Meaning Empty
empty = record { reads = λ _ _. 0; requests = λ _. false; keeps = λ _ _. false; cell = λ _ _. 0; after = λ s _. s }
