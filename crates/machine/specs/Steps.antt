-- A step in three parts: three clocks, the word at PC, and the interrupt if one is accepted.
use Rattle.std.specs.Prelude.{ℕ, Bool, true, false, cond, ◌&&◌, List}
use Rattle.isa.specs.Images.{instruction_in}
use Rattle.alu.specs.declared.flags.Flags.{Flags}
use Rattle.bus.specs.Meaning.{Meaning, clock}
use Rattle.machine.specs.declared.access.StepRecord.{StepRecord}
use Rattle.machine.specs.declared.processor.Processor.{Processor}
use Rattle.machine.specs.Processors.{at_pc, with_flags, pushed}
use Rattle.machine.specs.Instructions.{Station, Ran, ran}

-- the address at which interrupts enter
abbrev pub vector : ℕ
vector = 1

-- a processor on a bus
abbrev pub station : {S : Type 0} → Processor → S → Station S
station p s = record { processor = p; bus = s }

-- IE becomes 0 and IF 1
abbrev pub in_handler : Flags → Flags
in_handler f = record { z = f.z; c = f.c; n = f.n; v = f.v; ie = false; handling = true }

-- PC and the six flags are pushed, PC becomes the vector, IE 0 and IF 1
abbrev pub interrupted : Processor → Processor
interrupted p = with_flags (in_handler p.flags) (at_pc vector (pushed p.pc p))

-- a station after a step, and the step's record
pub record Stepped (S : Type 0) : Type 0 where
  pub station : Station S
  pub answer : StepRecord

-- a processor, a bus and a record as a step leaves them
abbrev pub stepped_to : {S : Type 0} → Processor → S → StepRecord → Stepped S
stepped_to p s answer = record { station = station p s; answer = answer }

module _ {S : Type 0} (m : Meaning S) where
  -- first, the bus gets three clocks
  abbrev pub clocked : S → S
  clocked s = m.after (m.after (m.after s clock) clock) clock

  -- second, the word at PC is executed
  abbrev pub word_run : List ℕ → Station S → Ran S
  word_run image st = ran m (instruction_in image st.processor.pc) st.processor (clocked st.bus)

  -- third, an interrupt is accepted if IE is now 1 and the bus requests
  abbrev pub accepts : Station S → Bool
  accepts st = st.processor.flags.ie && m.requests st.bus

  -- an acceptance gives the bus one clock and interrupts the processor
  abbrev pub accepted : Station S → Station S
  accepted st = station (interrupted st.processor) (m.after st.bus clock)

  -- one step
  abbrev pub stepped : List ℕ → Station S → Stepped S
  stepped image st =
      let after : Ran S = word_run image st in
      record {
        station = cond (accepts after.station) (accepted after.station) after.station;
        answer = record {
          address = st.processor.pc;
          handler = st.processor.flags.handling;
          access = after.access;
          interrupted = accepts after.station;
        };
      }
