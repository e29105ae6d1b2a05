-- The bus of a control desk.
use Rattle.std.specs.Prelude.{List, Bool, ◌||◌, ℕ, leb, eqb}
use Rattle.bus.specs.Meaning.{Meaning}
use Rattle.bus.specs.Empty.{empty}
use Rattle.bus.specs.Layers.{over, layer}
use Rattle.bus.specs.declared.empty.Empty.{Empty}
use Rattle.bus.specs.declared.layers.Layer.{Layer}
use Rattle.devices.specs.Memory.{memory, new_memory}
use Rattle.devices.specs.Output.{output, new_output}
use Rattle.devices.specs.Input.{input, new_input}
use Rattle.devices.specs.Buttons.{buttons, new_buttons}
use Rattle.devices.specs.declared.memory.Memory.{Memory}
use Rattle.devices.specs.declared.output.Output.{Output}
use Rattle.devices.specs.declared.input.Input.{Input}
use Rattle.devices.specs.declared.buttons.Buttons.{Buttons}

-- four devices over the empty bus
abbrev pub Desk : Type 0
Desk = Layer Buttons (Layer Input (Layer Output (Layer Memory Empty)))

-- the desk as it is made of its memory's cells: each device at its base
abbrev pub new_desk : List ℕ → Desk
new_desk cells = over 0x84 new_buttons (over 0x81 new_input (over 0x80 new_output (over 0x00 (new_memory cells) (record {}))))

-- what the desk shows and how it changes
abbrev pub desk_meaning : Meaning Desk
desk_meaning = layer 2 buttons (layer 0 input (layer 0 output (layer 7 memory empty)))

-- the kept addresses: those of the memory, the output's and that of the enable bits
abbrev pub desk_keeps : ℕ → Bool
desk_keeps a = leb a 0x80 || eqb a 0x85
