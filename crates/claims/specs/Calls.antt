-- The calls of a session, what each leaves of the station, and the past of a list of calls.
use Rattle.std.specs.Prelude.{◌≡◌, ℕ, zero, suc, ◌<◌, Bool, true, false, cond, ◌⊎◌, List, [], ◌∷◌, ◌==◌, nat_le}
use Rattle.bus.specs.Meaning as Bus
use Rattle.bus.specs.Meaning.{Meaning, Event}
use Rattle.machine.specs.Processors as Processors
use Rattle.machine.specs.Instructions.{Station}
use Rattle.machine.specs.Steps.{stepped}
use Rattle.vetting.specs.Programs.{Program}
use Rattle.claims.specs.Moments.{Moment, moment, steps, past_after}

-- the six flags by name
pub data FlagName : Type 0 where
  Z C N V IE IF : FlagName

-- what can be peeked at: a register, a data address, the program counter, a flag, or the newest stack word
pub data Place : Type 0 where
  register cell : ℕ → Place
  counter top : Place
  flag : FlagName → Place

-- the calls of a session, but for poke and burn
pub data Call : Type 0 where
  step go halt : Call
  advance mark unmark : ℕ → Call
  drive : ℕ → ℕ → Call
  peek : Place → Call

-- the state of a session
pub data Mode : Type 0 where
  halted going : Mode

-- a place that is a data address is one of the 256
abbrev pub WithinBus : Place → Type 0
WithinBus (register n) = Unit {0}
WithinBus (cell a) = a < 256
WithinBus counter = Unit {0}
WithinBus top = Unit {0}
WithinBus (flag f) = Unit {0}

-- the state allows the call
abbrev pub Fits : Mode → Call → Type 0
Fits halted step = Unit {0}
Fits halted go = Unit {0}
Fits halted halt = ⊥
Fits halted (advance n) = ⊥
Fits halted (mark a) = Unit {0}
Fits halted (unmark a) = Unit {0}
Fits halted (drive a v) = (a < 256) × (v < 256)
Fits halted (peek place) = WithinBus place
Fits going step = ⊥
Fits going go = ⊥
Fits going halt = Unit {0}
Fits going (advance n) = Unit {0}
Fits going (mark a) = ⊥
Fits going (unmark a) = ⊥
Fits going (drive a v) = (a < 256) × (v < 256)
Fits going (peek place) = ⊥

-- the state that a call leads to
abbrev pub leads_to : Mode → Call → Mode
leads_to state step = state
leads_to state go = going
leads_to state halt = halted
leads_to state (advance n) = state
leads_to state (mark a) = state
leads_to state (unmark a) = state
leads_to state (drive a v) = state
leads_to state (peek place) = state

-- the state that a list of calls leads to
abbrev pub led_to : Mode → List Call → Mode
led_to state [] = state
led_to state (c ∷ calls) = led_to (leads_to state c) calls

-- the state allows each call of the list
abbrev pub Allowed : Mode → List Call → Type 0
Allowed state [] = Unit {0}
Allowed state (c ∷ calls) = Fits state c × Allowed (leads_to state c) calls

-- a station with the marks of its session
pub record Session (S : Type 0) : Type 0 where
  pub station : Station S
  pub marks : ℕ → Bool

-- the most steps that an advance may be asked for
abbrev pub most_steps : ℕ
most_steps = 65535

-- a station as opening leaves it: the processor all 0, the bus in some condition, and no marks
abbrev pub opened : {S : Type 0} → S → Session S
opened s = record { station = record { processor = Processors.fresh; bus = s }; marks = λ a. false }

module _ (p : Program) {S : Type 0} (m : Meaning S) where
  -- the bus alone meets an event
  abbrev pub touched : Event → Station S → Station S
  touched e st = record { processor = st.processor; bus = m.after st.bus e }

  -- how many steps an advance makes: the budget's, or as many as lead to the first marked PC, looked at before each
  unfoldable pub made : ℕ → (ℕ → Bool) → Station S → ℕ
  made zero marks st = 0
  made (suc n) marks st = cond (marks st.processor.pc) 0 (suc (made n marks (stepped m p.image st).station))

  -- the steps of an advance; a budget above the most is refused, and no step is made
  abbrev pub advance_steps : ℕ → Session S → ℕ
  advance_steps n x = cond (nat_le n most_steps) (made n x.marks x.station) 0

  -- a peek at a kept address is one read of the bus; at a port it is refused, and elsewhere the bus is not touched
  abbrev pub peeked : Place → Station S → Station S
  peeked (register n) st = st
  peeked (cell a) st = cond (m.keeps st.bus a) (touched (Bus.read a) st) st
  peeked counter st = st
  peeked top st = st
  peeked (flag f) st = st

  -- what a call leaves
  abbrev pub after_call : Call → Session S → Session S
  after_call step x = record { station = (stepped m p.image x.station).station; marks = x.marks }
  after_call go x = x
  after_call halt x = x
  after_call (advance n) x = record { station = steps p m (advance_steps n x) x.station; marks = x.marks }
  after_call (mark a) x = record { station = x.station; marks = λ b. cond (b == a) true (x.marks b) }
  after_call (unmark a) x = record { station = x.station; marks = λ b. cond (b == a) false (x.marks b) }
  after_call (drive a v) x = record { station = touched (Bus.drive a v) x.station; marks = x.marks }
  after_call (peek place) x = record { station = peeked place x.station; marks = x.marks }

  -- the past after a call: step and advance make steps
  abbrev pub past_after_call : Call → Session S → List (Moment S) → List (Moment S)
  past_after_call step x past = moment p m x.station ∷ past
  past_after_call go x past = past
  past_after_call halt x past = past
  past_after_call (advance n) x past = past_after p m (advance_steps n x) x.station past
  past_after_call (mark a) x past = past
  past_after_call (unmark a) x past = past
  past_after_call (drive a v) x past = past
  past_after_call (peek place) x past = past

  -- the calls one after the other
  abbrev pub after_calls : List Call → Session S → Session S
  after_calls [] x = x
  after_calls (c ∷ calls) x = after_calls calls (after_call c x)

  -- the past after a list of calls
  abbrev pub past_after_calls : List Call → Session S → List (Moment S) → List (Moment S)
  past_after_calls [] x past = past
  past_after_calls (c ∷ calls) x past = past_after_calls calls (after_call c x) (past_after_call c x past)

  -- the past that a list of calls leaves a fresh station
  abbrev pub past_of : S → List Call → List (Moment S)
  past_of first calls = past_after_calls calls (opened first) []

  -- k steps were made: no PC that was looked at had a mark, and either the budget was spent or, with budget left, PC has a mark
  pub record Advanced (budget : ℕ) (marks : ℕ → Bool) (before after : Station S) (k : ℕ) (at_mark : Bool) : Type 0 where
    pub end : after ≡ steps p m k before
    pub unmarked : (j : ℕ) → j < k → marks (steps p m j before).processor.pc ≡ false
    pub why : ((k ≡ budget) × (at_mark ≡ false)) ⊎ ((k < budget) × (marks after.processor.pc ≡ true) × (at_mark ≡ true))
