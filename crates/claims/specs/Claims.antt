-- What holds of every list of calls on a station whose image and sheet vetting has accepted.
use Rattle.std.specs.Prelude.{◌≡◌, List, [], map}
use Rattle.bus.specs.Meaning.{Event, Meaning, Laws}
use Rattle.bus.specs.Seen.{replay, seen}
use Rattle.machine.specs.Instructions.{Station}
use Rattle.vetting.specs.declared.depths.Depths.{Depths}
use Rattle.vetting.specs.Programs.{Program}
use Rattle.vetting.specs.Verdicts.{Accepted}
use Rattle.claims.specs.Moments.{Moment}
use Rattle.claims.specs.Interrupts.{Throughout, Balanced, Pointed, Returns, SameGuarded, Independent}
use Rattle.claims.specs.Calls.{Call, halted, Allowed, past_of}

-- the claims of a program on a bus, and the third against a second bus
pub record Claims (p : Program) (depths : Depths) {S T : Type 0} (m : Meaning S) (k : Meaning T) : Type 0 where
  pub balanced : (first : S) (calls : List Call) → Allowed halted calls → Throughout (Balanced p depths.total) (past_of p m first calls)
  pub pointed : (first : S) (calls : List Call) → Allowed halted calls → Throughout (Pointed p) (past_of p m first calls)
  pub returns : (first : S) (calls : List Call) → Allowed halted calls → Throughout (Returns p m) (past_of p m first calls)
  pub independent :
      (first : S) (calls : List Call) → Allowed halted calls → (second : T) (others : List Call) → Allowed halted others →
      SameGuarded p m k first second → Independent p m k (past_of p m first calls) (past_of p k second others)

-- the claims hold of every accepted program on every two lawful buses
abbrev pub EveryRun : Type 1
EveryRun =
    (p : Program) (depths : Depths) → Accepted p depths →
    (S T : Type 0) (m : Meaning S) (k : Meaning T) → Laws 256 m → Laws 256 k → Claims p depths m k

-- the claims hold of every accepted program on these two buses
abbrev pub EveryRunOf : {S T : Type 0} → Meaning S → Meaning T → Type 0
EveryRunOf m k = (p : Program) (depths : Depths) → Accepted p depths → Claims p depths m k

-- the claims hold on every two lawful buses that are seen by their events
abbrev pub EveryRunSeen : Type 0
EveryRunSeen = (m k : Meaning (List Event)) → Laws 256 m → Laws 256 k → EveryRunOf m k

-- the station of a bus that is seen by its events, with the condition that these lead to
abbrev pub replayed : {S : Type 0} → Meaning S → S → Station (List Event) → Station S
replayed m s st = record { processor = st.processor; bus = replay m s st.bus }

-- the same of a moment
abbrev pub replayed_moment : {S : Type 0} → Meaning S → S → Moment (List Event) → Moment S
replayed_moment m s x = record { before = replayed m s x.before; answer = x.answer; after = replayed m s x.after }

-- a bus in a condition is one of those seen by their events: it keeps the laws, and each list of calls leaves the same past
pub record SeenByEvents (p : Program) {S : Type 0} (m : Meaning S) (s : S) : Type 0 where
  pub lawful : Laws 256 (seen m s)
  pub same_past : (calls : List Call) → map (replayed_moment m s) (past_of p (seen m s) [] calls) ≡ past_of p m s calls
