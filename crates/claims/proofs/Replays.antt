-- Every bus, in any condition, is one of those that are seen by their events.
use Rattle.std.proofs.Common.{◌≡◌, ℕ, zero, suc, Bool, true, false, cond, leb, List, [], ◌∷◌, map, Some, None, Option, refl, ap, ◌∙◌, ap₂}
use Rattle.isa.specs.declared.instruction.Instruction.{Instruction}
use Rattle.isa.specs.declared.instruction.Instruction.TheVariants.{Alu, Move, Load, Store, Jump, Call as Calls, Return, ReturnFromInterrupt, DisableInterrupts, EnableInterrupts, Swap, Shift}
use Rattle.bus.specs.Meaning.{Event, Meaning, Laws}
use Rattle.bus.specs.Seen.{replay, seen}
use Rattle.bus.proofs.Events.{seen_laws}
use Rattle.machine.specs.declared.processor.Processor.{Processor}
use Rattle.machine.specs.Instructions.{Station, Ran, ran}
use Rattle.machine.specs.Steps.{clocked, stepped, accepts, accepted}
use Rattle.vetting.specs.Programs.{Program, instruction_at}
use Rattle.claims.specs.Moments.{Moment, moment, steps, past_after}
use Rattle.claims.specs.Calls.{register, cell, counter, top, flag, Call, step, go, halt, advance, mark, unmark, drive, peek, Session, most_steps, opened, made, advance_steps, after_call, past_after_call, past_after_calls}
use Rattle.claims.specs.Claims.{replayed, replayed_moment, SeenByEvents}

module _ (p : Program) {S : Type 0} (m : Meaning S) (s : S) where
  abbrev back : Station (List Event) → Station S
  back = replayed m s

  abbrev back_ran : Ran (List Event) → Ran S
  back_ran r = record { station = back r.station; access = r.access }

  abbrev back_session : Session (List Event) → Session S
  back_session x = record { station = back x.station; marks = x.marks }

  same_ran : (i : Option Instruction) (q : Processor) (es : List Event) → back_ran (ran (seen m s) i q es) ≡ ran m i q (replay m s es)
  same_ran None q es = refl
  same_ran (Some (Alu op x o)) q es = refl
  same_ran (Some (Move x o)) q es = refl
  same_ran (Some (Load x o)) q es = refl
  same_ran (Some (Store x o)) q es = refl
  same_ran (Some (Jump c o)) q es = refl
  same_ran (Some (Calls o)) q es = refl
  same_ran (Some Return) q es = refl
  same_ran (Some ReturnFromInterrupt) q es = refl
  same_ran (Some DisableInterrupts) q es = refl
  same_ran (Some EnableInterrupts) q es = refl
  same_ran (Some (Swap x)) q es = refl
  same_ran (Some (Shift op x)) q es = refl

  either : (b : Bool) (x y : Station (List Event)) → back (cond b x y) ≡ cond b (back x) (back y)
  either true x y = refl
  either false x y = refl

  same_word : (st : Station (List Event)) →
      back_ran (ran (seen m s) (instruction_at p st.processor.pc) st.processor (clocked (seen m s) st.bus))
      ≡ ran m (instruction_at p st.processor.pc) st.processor (clocked m (replay m s st.bus))
  same_word st = same_ran (instruction_at p st.processor.pc) st.processor (clocked (seen m s) st.bus)

  same_stepped : (st : Station (List Event)) → back (stepped (seen m s) p.image st).station ≡ (stepped m p.image (back st)).station
  same_stepped st =
      let x = (ran (seen m s) (instruction_at p st.processor.pc) st.processor (clocked (seen m s) st.bus)).station in
      either (accepts (seen m s) x) (accepted (seen m s) x) x
      ∙ ap (λ (r : Ran S). cond (accepts m r.station) (accepted m r.station) r.station) (same_word st)

  same_moment : (st : Station (List Event)) → replayed_moment m s (moment p (seen m s) st) ≡ moment p m (back st)
  same_moment st =
      ap (λ (r : Ran S). record {
        before = back st;
        answer = record { address = st.processor.pc; handler = st.processor.flags.handling; access = r.access; interrupted = accepts m r.station };
        after = r.station;
      }) (same_word st)

  same_steps : (k : ℕ) (st : Station (List Event)) → back (steps p (seen m s) k st) ≡ steps p m k (back st)
  same_steps zero st = refl
  same_steps (suc k) st = same_stepped (steps p (seen m s) k st) ∙ ap (λ (x : Station S). (stepped m p.image x).station) (same_steps k st)

  same_past : (k : ℕ) (st : Station (List Event)) (past : List (Moment (List Event))) →
      map (replayed_moment m s) (past_after p (seen m s) k st past) ≡ past_after p m k (back st) (map (replayed_moment m s) past)
  same_past zero st past = refl
  same_past (suc k) st past =
      ap₂ (λ (x : Moment S) (l : List (Moment S)). x ∷ l) (same_moment (steps p (seen m s) k st) ∙ ap (moment p m) (same_steps k st)) (same_past k st past)

  same_made : (n : ℕ) (marks : ℕ → Bool) (st : Station (List Event)) → made p (seen m s) n marks st ≡ made p m n marks (back st)
  unfolding made
  same_made zero marks st = refl
  same_made (suc n) marks st =
      ap (λ (k : ℕ). cond (marks st.processor.pc) 0 (suc k)) (same_made n marks (stepped (seen m s) p.image st).station ∙ ap (made p m n marks) (same_stepped st))

  same_advance : (n : ℕ) (x : Session (List Event)) → advance_steps p (seen m s) n x ≡ advance_steps p m n (back_session x)
  same_advance n x = ap (λ (k : ℕ). cond (leb n most_steps) k 0) (same_made n x.marks x.station)

  same_call : (c : Call) (x : Session (List Event)) → back_session (after_call p (seen m s) c x) ≡ after_call p m c (back_session x)
  same_call step x = ap (λ (st : Station S). record { station = st; marks = x.marks }) (same_stepped x.station)
  same_call go x = refl
  same_call halt x = refl
  same_call (advance n) x =
      ap (λ (st : Station S). record { station = st; marks = x.marks })
      (same_steps (advance_steps p (seen m s) n x) x.station ∙ ap (λ (k : ℕ). steps p m k (back x.station)) (same_advance n x))
  same_call (mark a) x = refl
  same_call (unmark a) x = refl
  same_call (drive a v) x = refl
  same_call (peek (register n)) x = refl
  same_call (peek (cell a)) x = ap (λ (st : Station S). record { station = st; marks = x.marks }) (either (m.keeps (replay m s x.station.bus) a) _ _)
  same_call (peek counter) x = refl
  same_call (peek top) x = refl
  same_call (peek (flag f)) x = refl

  same_call_past : (c : Call) (x : Session (List Event)) (past : List (Moment (List Event))) →
      map (replayed_moment m s) (past_after_call p (seen m s) c x past) ≡ past_after_call p m c (back_session x) (map (replayed_moment m s) past)
  same_call_past step x past = same_past 1 x.station past
  same_call_past go x past = refl
  same_call_past halt x past = refl
  same_call_past (advance n) x past =
      same_past (advance_steps p (seen m s) n x) x.station past
      ∙ ap (λ (k : ℕ). past_after p m k (back x.station) (map (replayed_moment m s) past)) (same_advance n x)
  same_call_past (mark a) x past = refl
  same_call_past (unmark a) x past = refl
  same_call_past (drive a v) x past = refl
  same_call_past (peek place) x past = refl

  same_calls : (calls : List Call) (x : Session (List Event)) (past : List (Moment (List Event))) →
      map (replayed_moment m s) (past_after_calls p (seen m s) calls x past) ≡ past_after_calls p m calls (back_session x) (map (replayed_moment m s) past)
  same_calls [] x past = refl
  same_calls (c ∷ calls) x past =
      same_calls calls (after_call p (seen m s) c x) (past_after_call p (seen m s) c x past)
      ∙ ap₂ (past_after_calls p m calls) (same_call c x) (same_call_past c x past)

pub seen_by_events : (p : Program) {S : Type 0} (m : Meaning S) (s : S) → Laws 256 m → SeenByEvents p m s
seen_by_events p m s laws = record { lawful = seen_laws 256 m laws s; same_past = λ calls. same_calls p m s calls (opened []) [] }
