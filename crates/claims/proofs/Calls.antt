-- What stays true of a station stays so through every call of its session.
use Rattle.std.proofs.Common.{ℕ, ◌<◌, Bool, true, false, cond, List, [], ◌∷◌}
use Rattle.bus.specs.Meaning as Bus
use Rattle.bus.specs.Meaning.{Meaning, Laws}
use Rattle.machine.specs.Instructions.{Station}
use Rattle.vetting.specs.declared.depths.Depths.{Depths}
use Rattle.vetting.specs.Programs.{Program}
use Rattle.claims.specs.Moments.{Moment}
use Rattle.claims.specs.Calls.{register, cell, counter, top, flag, Call, step, go, halt, advance, mark, unmark, drive, peek, Mode, halted, going, Fits, leads_to, Allowed, Session, advance_steps, touched, after_call, past_after_call, after_calls, past_after_calls}
use Rattle.claims.proofs.Rulebooks.{KeptBy}
use Rattle.claims.proofs.Views.{View}
use Rattle.claims.proofs.Runs.{Kept, steps_keep, touched_keeps}

-- the addresses and bytes of a call that is allowed are below 256
drive_proper : (state : Mode) (a v : ℕ) → Fits state (drive a v) → (a < 256) × (v < 256)
drive_proper halted a v f = f
drive_proper going a v f = f

peek_proper : (state : Mode) (a : ℕ) → Fits state (peek (cell a)) → a < 256
peek_proper halted a f = f
peek_proper going a f = absurd f

module _ (p : Program) (depths : Depths) (ok : KeptBy p depths) (guard : ℕ → Bool) {S : Type 0} (m : Meaning S) (laws : Laws 256 m) (start : View) where
  abbrev Inv : Station S → List (Moment S) → Type 0
  Inv st past = Kept p depths guard m start st past

  either : (b : Bool) (x y : Station S) (past : List (Moment S)) → Inv x past → Inv y past → Inv (cond b x y) past
  either true x y past h k = h
  either false x y past h k = k

  call_keeps : (state : Mode) (c : Call) → Fits state c → (x : Session S) (past : List (Moment S)) → Inv x.station past → Inv (after_call p m c x).station (past_after_call p m c x past)
  call_keeps state step fits x past kept = steps_keep p depths ok guard m laws start 1 x.station past kept
  call_keeps state go fits x past kept = kept
  call_keeps state halt fits x past kept = kept
  call_keeps state (advance n) fits x past kept = steps_keep p depths ok guard m laws start (advance_steps p m n x) x.station past kept
  call_keeps state (mark a) fits x past kept = kept
  call_keeps state (unmark a) fits x past kept = kept
  call_keeps state (drive a v) fits x past kept = touched_keeps p depths ok guard m laws start (Bus.drive a v) x.station past tt (drive_proper state a v fits) kept
  call_keeps state (peek (register n)) fits x past kept = kept
  call_keeps state (peek (cell a)) fits x past kept =
      either (m.keeps x.station.bus a) (touched p m (Bus.read a) x.station) x.station past
      (touched_keeps p depths ok guard m laws start (Bus.read a) x.station past tt (peek_proper state a fits) kept) kept
  call_keeps state (peek counter) fits x past kept = kept
  call_keeps state (peek top) fits x past kept = kept
  call_keeps state (peek (flag f)) fits x past kept = kept

  pub calls_keep : (state : Mode) (calls : List Call) → Allowed state calls → (x : Session S) (past : List (Moment S)) → Inv x.station past →
      Inv (after_calls p m calls x).station (past_after_calls p m calls x past)
  calls_keep state [] allowed x past kept = kept
  calls_keep state (c ∷ calls) allowed x past kept =
      calls_keep (leads_to state c) calls allowed.1 (after_call p m c x) (past_after_call p m c x past) (call_keeps state c allowed.0 x past kept)
