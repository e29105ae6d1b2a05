-- A call on the station at hand, and what holds of all that has run on it.
use Rattle.std.specs.Prelude.{◌≡◌, ℕ, List, [], ◌∷◌, ◌++◌}
use Rattle.bus.specs.Meaning.{Event, Meaning, Laws}
use Rattle.machine.specs.declared.access.StepRecord.{StepRecord}
use Rattle.vetting.specs.declared.depths.Depths.{Depths}
use Rattle.vetting.specs.Programs.{Program}
use Rattle.claims.specs.Moments.{Moment, past_after}
use Rattle.claims.specs.Interrupts.{Throughout, Balanced, Pointed, Returns, SameGuarded, Independent}
use Rattle.claims.specs.Calls.{Call, step, advance, Mode, halted, leads_to, led_to, Allowed, Session, opened, after_calls, past_of}

-- the station at hand is what these calls have left of a fresh one, whose bus was in condition first
pub record Led (p : Program) {S : Type 0} (m : Meaning S) (first : S) (calls : List Call) (state : Mode) (x : Session S) : Type 0 where
  pub allowed : Allowed halted calls
  pub arrived : led_to halted calls ≡ state
  pub left : x ≡ after_calls p m calls (opened first)

-- the claims over all that these calls have run; the third is against every lawful bus that is seen by its events
pub record ClaimsHold (p : Program) (depths : Depths) {S : Type 0} (m : Meaning S) (first : S) (calls : List Call) : Type 0 where
  pub balanced : Throughout (Balanced p depths.total) (past_of p m first calls)
  pub pointed : Throughout (Pointed p) (past_of p m first calls)
  pub returns : Throughout (Returns p m) (past_of p m first calls)
  pub independent :
      (k : Meaning (List Event)) → Laws 256 k → (second : List Event) (others : List Call) → Allowed halted others →
      SameGuarded p m k first second → Independent p m k (past_of p m first calls) (past_of p k second others)

module _ (p : Program) (depths : Depths) {S : Type 0} (m : Meaning S) where
  -- whatever calls have led here, this one leads on, and the claims hold over all that they have run
  abbrev pub Continues : Call → Mode → Session S → Session S → Type 0
  Continues c state before after =
      (first : S) (calls : List Call) → Led p m first calls state before →
      Led p m first (calls ++ c ∷ []) (leads_to state c) after × ClaimsHold p depths m first (calls ++ c ∷ [])

-- the past grows by one moment, whose record is the one answered
abbrev pub StepAdds : (p : Program) {S : Type 0} → Meaning S → Mode → Session S → StepRecord → Type 0
StepAdds p {S} m state before answer =
    (first : S) (calls : List Call) → Led p m first calls state before →
    (x : Moment S) × (past_of p m first (calls ++ step ∷ []) ≡ x ∷ past_of p m first calls) × (x.answer ≡ answer)

-- the past grows by the moments of so many steps
abbrev pub AdvanceAdds : (p : Program) {S : Type 0} → Meaning S → Mode → ℕ → Session S → ℕ → Type 0
AdvanceAdds p {S} m state budget before k =
    (first : S) (calls : List Call) → Led p m first calls state before →
    past_of p m first (calls ++ advance budget ∷ []) ≡ past_after p m k before.station (past_of p m first calls)

-- whatever calls have led to two stations with one program, if their guarded cells were alike at first, the third claim holds between them
abbrev pub IndependentStations : (p : Program) {S T : Type 0} → Meaning S → Meaning T → Mode → Session S → Mode → Session T → Type 0
IndependentStations p {S} {T} m k state x other y =
    (first : S) (calls : List Call) → Led p m first calls state x → (second : T) (others : List Call) → Led p k second others other y →
    SameGuarded p m k first second → Independent p m k (past_of p m first calls) (past_of p k second others)
