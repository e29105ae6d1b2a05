-- Each call leads on from the station at hand, and the claims hold over all that has run on it.
use Rattle.std.proofs.Common.{◌≡◌, ℕ, List, [], ◌∷◌, ◌++◌, sym, refl, ap, ◌∙◌, subst}
use Rattle.bus.specs.Meaning.{Event, Meaning, Laws}
use Rattle.machine.specs.declared.access.StepRecord.{StepRecord}
use Rattle.machine.specs.Steps.{stepped}
use Rattle.vetting.specs.declared.depths.Depths.{Depths}
use Rattle.vetting.specs.Programs.{Program}
use Rattle.vetting.specs.Verdicts.{Accepted}
use Rattle.claims.specs.Moments.{Moment, moment, past_after}
use Rattle.claims.specs.Calls.{Call, step, advance, Mode, halted, Fits, leads_to, led_to, Allowed, Session, opened, advance_steps, after_call, past_after_call, after_calls, past_after_calls, past_of}
use Rattle.claims.specs.Led.{Led, ClaimsHold, Continues, StepAdds, AdvanceAdds, IndependentStations}
use Rattle.claims.proofs.Theorem.{claims_of}

led_one_more : (calls : List Call) (c : Call) (state : Mode) → led_to state (calls ++ c ∷ []) ≡ leads_to (led_to state calls) c
led_one_more [] c state = refl
led_one_more (d ∷ calls) c state = led_one_more calls c (leads_to state d)

allowed_one_more : (calls : List Call) (c : Call) (state : Mode) → Allowed state calls → Fits (led_to state calls) c → Allowed state (calls ++ c ∷ [])
allowed_one_more [] c state allowed fits = (fits, tt)
allowed_one_more (d ∷ calls) c state allowed fits = (allowed.0, allowed_one_more calls c (leads_to state d) allowed.1 fits)

module _ (p : Program) {S : Type 0} (m : Meaning S) where
  after_one_more : (calls : List Call) (c : Call) (x : Session S) → after_calls p m (calls ++ c ∷ []) x ≡ after_call p m c (after_calls p m calls x)
  after_one_more [] c x = refl
  after_one_more (d ∷ calls) c x = after_one_more calls c (after_call p m d x)

  past_one_more : (calls : List Call) (c : Call) (x : Session S) (past : List (Moment S)) →
      past_after_calls p m (calls ++ c ∷ []) x past ≡ past_after_call p m c (after_calls p m calls x) (past_after_calls p m calls x past)
  past_one_more [] c x past = refl
  past_one_more (d ∷ calls) c x past = past_one_more calls c (after_call p m d x) (past_after_call p m d x past)

  -- a fresh station
  pub led_at_first : (first : S) → Led p m first [] halted (opened first)
  led_at_first first = record { allowed = tt; arrived = refl; left = refl }

  -- the past of one call more, from the station at hand
  past_led : (first : S) (calls : List Call) (state : Mode) (x : Session S) (c : Call) → Led p m first calls state x →
      past_of p m first (calls ++ c ∷ []) ≡ past_after_call p m c x (past_of p m first calls)
  past_led first calls state x c led =
      past_one_more calls c (opened first) [] ∙ ap (λ (y : Session S). past_after_call p m c y (past_of p m first calls)) (sym led.left)

  -- a step's record is that of the newest moment
  pub step_adds : (state : Mode) (before : Session S) (answer : StepRecord) → answer ≡ (stepped m p.image before.station).answer → StepAdds p m state before answer
  step_adds state before answer e first calls led = (moment p m before.station, past_led first calls state before step led, sym e)

  -- an advance adds the moments of its steps
  pub advance_adds : (state : Mode) (budget : ℕ) (before : Session S) (k : ℕ) → k ≡ advance_steps p m budget before → AdvanceAdds p m state budget before k
  advance_adds state budget before k e first calls led =
      past_led first calls state before (advance budget) led ∙ ap (λ (n : ℕ). past_after p m n before.station (past_of p m first calls)) (sym e)

module _ (p : Program) (depths : Depths) (known : ∥ Accepted p depths ∥₁) {S : Type 0} (m : Meaning S) (laws : Laws 256 m) where
  pub claims_hold : (first : S) (calls : List Call) → Allowed halted calls → ClaimsHold p depths m first calls
  claims_hold first calls allowed =
      let own = claims_of p depths known S S m m laws laws in
      record {
        balanced = own.balanced first calls allowed;
        pointed = own.pointed first calls allowed;
        returns = own.returns first calls allowed;
        independent = λ k laws_too. (claims_of p depths known S (List Event) m k laws laws_too).independent first calls allowed;
      }

  pub continues : (c : Call) (state : Mode) → Fits state c → (before after : Session S) → after ≡ after_call p m c before → Continues p depths m c state before after
  continues c state fits before after e first calls led =
      let allowed : Allowed halted (calls ++ c ∷ []) = allowed_one_more calls c halted led.allowed (subst (λ (t : Mode). Fits t c) (sym led.arrived) fits) in (
        record {
          allowed = allowed;
          arrived = led_one_more calls c halted ∙ ap (λ (t : Mode). leads_to t c) led.arrived;
          left = e ∙ ap (after_call p m c) led.left ∙ sym (after_one_more p m calls c (opened first));
        },
        claims_hold first (calls ++ c ∷ []) allowed,
      )

  pub independent_stations : {T : Type 0} (k : Meaning T) → Laws 256 k → (state : Mode) (x : Session S) (other : Mode) (y : Session T) → IndependentStations p m k state x other y
  independent_stations {T} k laws_too state x other y first calls led second others led_too same =
      (claims_of p depths known S T m k laws laws_too).independent first calls led.allowed second others led_too.allowed same
