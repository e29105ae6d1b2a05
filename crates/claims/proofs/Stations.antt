-- What stays true of a station with an accepted program, through one step.
use Rattle.std.proofs.Common.{◌≡◌, ℕ, suc, ◌+◌, ◌-◌, ◌≤◌, Bool, true, false, List, [], ◌∷◌, ◌++◌, length, get_or, Some, sym, refl, ap, ◌∙◌, subst, arith, length-append}
use lib.ListN.{length-map}
use Rattle.alu.specs.declared.flags.Flags.{Flags}
use Rattle.bus.specs.Meaning.{Meaning, Laws, clock}
use Rattle.walk.specs.Walk.{Reaches, begin}
use Rattle.machine.specs.declared.pointer.StackPointer.{StackPointer}
use Rattle.machine.specs.declared.processor.Saved.{Saved}
use Rattle.machine.specs.Processors.{lowered, saved, next, top}
use Rattle.machine.specs.Instructions.{Station}
use Rattle.machine.specs.Steps.{accepts, accepted}
use Rattle.machine.specs.Parts.{Judgement, none, judges, enables, Way, return_interrupt, Action, Request, request, registers_after, flags_set, Stacking, stays, pushes, pops, stacking, answer, ran_by_parts}
use Rattle.vetting.specs.declared.depths.Depths.{Depths}
use Rattle.vetting.specs.Programs.{Program, instruction_at, graph_of}
use Rattle.vetting.specs.Verdicts.{Counted}
use Rattle.claims.specs.Moments.{Moment, Point, pushes_to, pops_to, in_use}
use Rattle.claims.specs.Interrupts.{no_word, last_interrupt}
use Rattle.claims.proofs.Rulebooks.{code_of, KeptBy, Filled, Empty, MainMay, MainWay, HandlerResult, HandlerJudgement, HandlerUse}
use Rattle.claims.proofs.Rules.{enabling}
use Rattle.claims.proofs.Lists.{mask, Holds, push, pop, words_after, Poppable, moved}
use Rattle.claims.proofs.Views.{View, newest, stored, answered, wants, main_step, addresses, same_flow, walks, poppable, main_registers, main_flags, main_request, same_pc, same_flags, handler_registers, handler_request, handler_cases}
use Rattle.claims.proofs.Buses.{and_left, clash, contents, Kinds, quiet_event, quiet_request, kinds_request, contents_request, answered_right, proper_request}

-- the station as main sees it, with these words in use
abbrev pub view_of : (p : Program) (guard : ℕ → Bool) {S : Type 0} (m : Meaning S) → Station S → List Saved → View
view_of p guard m st ws = record {
  pc = st.processor.pc;
  flags = st.processor.flags;
  registers = mask p.handlers st.processor.registers;
  cells = contents guard m st.bus;
  words = ws;
}

-- what main's walk says of a view
pub record Sound (p : Program) (v : View) : Type 0 where
  pub reached : Reaches (graph_of p) 0 v.pc (addresses v.words)
  pub begun : v.flags.handling ≡ false
  pub counted : v.flags.ie ≡ true → Counted p

-- the last interrupt of the past found main as v
pub record Found (p : Program) (guard : ℕ → Bool) {S : Type 0} (m : Meaning S) (v : View) (past : List (Moment S)) : Type 0 where
  pub at : Point S
  pub last : last_interrupt past ≡ Some at
  pub is : v ≡ view_of p guard m at.now.after v.words
  pub kinds : Kinds p guard m at.now.after.bus
  pub holds : Holds at.now.after.processor.stack at.now.after.processor.sp v.words
  pub used : in_use p at ≡ length v.words

-- the handler runs, with its own words in use, and main is left as v
pub record Handling (p : Program) (guard : ℕ → Bool) {S : Type 0} (m : Meaning S) (v : View) (st : Station S) (own : List Saved) : Type 0 where
  pub inside : st.processor.flags.handling ≡ true
  pub ie : st.processor.flags.ie ≡ false
  pub counted : Counted p
  pub reached : Reaches (graph_of p) 1 st.processor.pc (addresses own)
  pub registers : mask p.handlers st.processor.registers ≡ v.registers
  pub cells : contents guard m st.bus ≡ v.cells

abbrev pub beneath : View → List Saved
beneath v = saved v.pc v.flags ∷ v.words

pub data At (p : Program) (guard : ℕ → Bool) {S : Type 0} (m : Meaning S) (v : View) (past : List (Moment S)) (st : Station S) (ws : List Saved) : Type 0 where
  in_main : v ≡ view_of p guard m st ws → At p guard m v past st ws
  in_handler : (own : List Saved) → Handling p guard m v st own → ws ≡ own ++ beneath v → Found p guard m v past → At p guard m v past st ws

-- a station whose main is, or was interrupted, as v, with these words in use
pub record Good (p : Program) (guard : ℕ → Bool) {S : Type 0} (m : Meaning S) (v : View) (past : List (Moment S)) (st : Station S) (ws : List Saved) (pushed popped : ℕ) : Type 0 where
  pub kinds : Kinds p guard m st.bus
  pub holds : Holds st.processor.stack st.processor.sp ws
  pub count : pushed ≡ popped + length ws
  pub sound : Sound p v
  pub at : At p guard m v past st ws

-- an interrupt is accepted and has yet to enter: main stands as v, and the last interrupt of the past found it so
pub record Waiting (p : Program) (guard : ℕ → Bool) {S : Type 0} (m : Meaning S) (v : View) (past : List (Moment S)) (st : Station S) (ws : List Saved) (pushed popped : ℕ) : Type 0 where
  pub kinds : Kinds p guard m st.bus
  pub holds : Holds st.processor.stack st.processor.sp ws
  pub count : pushed ≡ popped + length ws
  pub sound : Sound p v
  pub is : v ≡ view_of p guard m st ws
  pub ie : st.processor.flags.ie ≡ true
  pub found : Found p guard m v past

abbrev pub pushes_word : {S : Type 0} → Station S → Saved
pushes_word st = saved (next st.processor.pc) st.processor.flags

abbrev pub given_to : {S : Type 0} → Meaning S → Action → Station S → ℕ
given_to m act st = answer m (request act.use_of st.processor.registers) st.bus

abbrev pub act_at : {S : Type 0} → Program → Station S → Action
act_at p st = code_of p st.processor.pc

-- the station after the word, by its parts
abbrev pub executed : {S : Type 0} → Meaning S → Action → Station S → Station S
executed m act st = (ran_by_parts m act st.processor st.bus).station

-- the pushes and the pops after a word
abbrev pub plus : Stacking → ℕ → ℕ
plus stays n = n
plus pushes n = suc n
plus pops n = n

abbrev pub minus : Stacking → ℕ → ℕ
minus stays n = n
minus pushes n = n
minus pops n = suc n

pub less : (pushed popped n : ℕ) → pushed ≡ popped + n → pushed - popped ≡ n
less pushed popped n e = omega arith

-- the same after an instruction
abbrev pub GoodAfter : (p : Program) (guard : ℕ → Bool) {S : Type 0} (m : Meaning S) → View → List (Moment S) → Action → Station S → List Saved → ℕ → ℕ → Type 0
GoodAfter p guard m v past act st ws pushed popped =
    Good p guard m v past (executed m act st) (words_after (stacking act.way) (pushes_word st) ws) (plus (stacking act.way) pushed) (minus (stacking act.way) popped)

counting : (d : Stacking) (w : Saved) (ws : List Saved) (pushed popped : ℕ) → Poppable d ws → pushed ≡ popped + length ws → plus d pushed ≡ minus d popped + length (words_after d w ws)
counting stays w ws pushed popped ready e = e
counting pushes w ws pushed popped ready e = omega arith
counting pops w [] pushed popped ready e = absurd ready
counting pops w (x ∷ ws) pushed popped ready e = omega arith

-- no word marks IF, and only one that enables sets IE
handling_stays : (k : Judgement) (registers : List ℕ) (flags : Flags) → (flags_set k registers flags).handling ≡ flags.handling
handling_stays none registers flags = refl
handling_stays (judges g x o) registers flags = refl
handling_stays (enables b) registers flags = refl

ie_main : {P : Type 0} (k : Judgement) (registers : List ℕ) (flags : Flags) → (k ≡ enables true → P) → (flags.ie ≡ true → P) → (flags_set k registers flags).ie ≡ true → P
ie_main none registers flags sets was e = was e
ie_main (judges g x o) registers flags sets was e = was e
ie_main (enables b) registers flags sets was e = sets (ap enables e)

ie_handler : (p : Program) (k : Judgement) (registers : List ℕ) (flags : Flags) → HandlerJudgement p k → flags.ie ≡ false → (flags_set k registers flags).ie ≡ false
ie_handler p none registers flags may e = e
ie_handler p (judges g x o) registers flags may e = e
ie_handler p (enables true) registers flags may e = absurd may
ie_handler p (enables false) registers flags may e = refl

-- the words beneath the handler's own stay beneath
over : (d : Stacking) (w : Saved) (own below : List Saved) → Poppable d own → words_after d w (own ++ below) ≡ words_after d w own ++ below
over stays w own below ready = refl
over pushes w own below ready = refl
over pops w [] below ready = absurd ready
over pops w (x ∷ own) below ready = refl

poppable_over : (d : Stacking) (own below : List Saved) → Poppable d own → Poppable d (own ++ below)
poppable_over stays own below ready = tt
poppable_over pushes own below ready = tt
poppable_over pops [] below ready = absurd ready
poppable_over pops (x ∷ own) below ready = tt

top_own : {stack : List Saved} {sp : StackPointer} (own below : List Saved) → Holds stack sp (own ++ below) → Filled (addresses own) → get_or stack (lowered sp).place no_word ≡ newest own
top_own [] below h f = absurd f
top_own (w ∷ own) below h f = (pop h).top

top_newest : {stack : List Saved} {sp : StackPointer} (ws : List Saved) → Holds stack sp ws → Filled (addresses ws) → get_or stack (lowered sp).place no_word ≡ newest ws
top_newest [] h f = absurd f
top_newest (w ∷ ws) h f = (pop h).top

empty_own : (own : List Saved) → Empty (addresses own) → own ≡ []
empty_own [] e = refl
empty_own (w ∷ own) e = absurd e

module _ (p : Program) (depths : Depths) (ok : KeptBy p depths) (guard : ℕ → Bool) {S : Type 0} (m : Meaning S) (laws : Laws 256 m) where
  -- main's instruction on the station is main's instruction on the view
  same_step :
      (st : Station S) (ws : List Saved) → MainMay p (act_at p st) (addresses ws) → Holds st.processor.stack st.processor.sp ws → Kinds p guard m st.bus →
      main_step (code_of p) guard (view_of p guard m st ws) (given_to m (act_at p st) st) ≡ view_of p guard m (executed m (act_at p st) st) (words_after (stacking (act_at p st).way) (pushes_word st) ws)
  same_step st ws may holds kinds =
      let act = act_at p st in
      let list = addresses ws in
      let pc = st.processor.pc in
      let regs = st.processor.registers in
      let flags = st.processor.flags in
      let a = request act.use_of regs in
      let reach = main_request p act.use_of regs may.uses in
      let given = given_to m act st in
      let right : answered guard (request act.use_of (mask p.handlers regs)) (contents guard m st.bus) given ≡ given = rw (← reach) (sym (answered_right p guard laws a kinds)) in
      let to = sym (same_pc p act.way list (top st.processor) (newest ws) regs (mask p.handlers regs) flags pc may.way (top_newest ws holds)) in
      let left = same_flags p act.way list (newest ws) _ may.way ∙ sym (main_flags p act.judgement flags regs may.judgement) ∙ sym (same_flags p act.way list (top st.processor) _ may.way) in
      let values = ap (λ (k : ℕ). registers_after act.result k flags (mask p.handlers regs)) right ∙ sym (main_registers p act.result given flags regs may.result) in
      let held = ap (λ (b : Request). stored guard b (contents guard m st.bus)) (sym reach) ∙ sym (contents_request p guard laws a (proper_request act.use_of regs) kinds) in
      λ i. record { pc = to i; flags = left i; registers = values i; cells = held i; words = words_after (stacking act.way) (pushes_word st) ws }

  main_room : {v : View} → Sound p v → length v.words ≤ depths.main
  main_room {v} sound = rw length-map at (ok.main_within _ _ sound.reached)

  -- the words in use stay within the total depth
  pub bounded : {v : View} {past : List (Moment S)} {st : Station S} {ws : List Saved} {pushed popped : ℕ} → Good p guard m v past st ws pushed popped → length ws ≤ depths.total
  bounded {v} {past} {st} {ws} good = within good.at
    where
      within : At p guard m v past st ws → length ws ≤ depths.total
      within (in_main is) = let same : v.words ≡ ws = ap (λ (u : View). u.words) is in rw (← same) (omega (arith, main_room good.sound, ok.total_main))
      within (in_handler own h same f) =
          rw (same, length-append) (omega (arith, main_room good.sound, rw length-map at (ok.handler_within h.counted _ _ h.reached), ok.total_counted h.counted))

  sound_step : (v : View) (given : ℕ) → Sound p v → Sound p (main_step (code_of p) guard v given)
  sound_step v given sound =
      let act = code_of p v.pc in
      let list = addresses v.words in
      let may = ok.main_keeps _ _ sound.reached in
      let same = same_flags p act.way list (newest v.words) (flags_set act.judgement v.registers v.flags) may.way in
      record {
        reached = walks p 0 v.pc v.words v.registers v.flags act.way (same_flow (instruction_at p v.pc)) may.way sound.reached;
        begun = ap (λ (f : Flags). f.handling) same ∙ handling_stays act.judgement v.registers v.flags ∙ sound.begun;
        counted = λ e. ie_main act.judgement v.registers v.flags (λ sets. (v.pc, (list, sound.reached, enabling (instruction_at p v.pc) sets))) sound.counted (sym (ap (λ (f : Flags). f.ie) same) ∙ e);
      }

  main_here : (past : List (Moment S)) (st : Station S) (ws : List Saved) (pushed popped : ℕ) →
      Kinds p guard m st.bus → Holds st.processor.stack st.processor.sp ws → pushed ≡ popped + length ws → Sound p (view_of p guard m st ws) →
      GoodAfter p guard m (main_step (code_of p) guard (view_of p guard m st ws) (given_to m (act_at p st) st)) past (act_at p st) st ws pushed popped
  main_here past st ws pushed popped kinds holds count sound =
      let act = act_at p st in
      let may = ok.main_keeps _ _ sound.reached in
      let ready = poppable p act.way ws may.way in
      let later = sound_step (view_of p guard m st ws) (given_to m act st) sound in
      record {
        kinds = kinds_request p guard laws (request act.use_of st.processor.registers) (proper_request act.use_of st.processor.registers) kinds;
        holds = moved (stacking act.way) (pushes_word st) holds ready (omega (arith, main_room later, ok.total_main, ok.fits));
        count = counting (stacking act.way) (pushes_word st) ws pushed popped ready count;
        sound = later;
        at = in_main (same_step st ws may holds kinds);
      }

  -- main's instruction
  module _ {v : View} {past : List (Moment S)} {st : Station S} {ws : List Saved} {pushed popped : ℕ} (good : Good p guard m v past st ws pushed popped) (is : v ≡ view_of p guard m st ws) where
    pub main_ran : GoodAfter p guard m (main_step (code_of p) guard v (given_to m (act_at p st) st)) past (act_at p st) st ws pushed popped
    main_ran =
        subst (λ (u : View). GoodAfter p guard m (main_step (code_of p) guard u (given_to m (act_at p st) st)) past (act_at p st) st ws pushed popped) (sym is)
        (main_here past st ws pushed popped good.kinds good.holds good.count (subst (Sound p) is good.sound))

    pub main_may : MainMay p (act_at p st) (addresses ws)
    main_may = ok.main_keeps _ _ (subst (Sound p) is good.sound).reached

    -- the view after it
    pub main_is : main_step (code_of p) guard v (given_to m (act_at p st) st) ≡ view_of p guard m (executed m (act_at p st) st) (words_after (stacking (act_at p st).way) (pushes_word st) ws)
    main_is = ap (λ (u : View). main_step (code_of p) guard u (given_to m (act_at p st) st)) is ∙ same_step st ws main_may good.holds good.kinds

    -- its access is the view's
    pub main_wants : request (act_at p st).use_of st.processor.registers ≡ wants (code_of p) guard v
    main_wants = main_request p (act_at p st).use_of st.processor.registers main_may.uses ∙ ap (wants (code_of p) guard) (sym is)

  -- an instruction of the handler's that is no return from interrupt
  handler_here : (v : View) (past : List (Moment S)) (st : Station S) (own : List Saved) (pushed popped : ℕ) →
      Kinds p guard m st.bus → Holds st.processor.stack st.processor.sp (own ++ beneath v) → pushed ≡ popped + length (own ++ beneath v) → Sound p v →
      Handling p guard m v st own → Found p guard m v past → MainWay p (act_at p st).way (addresses own) →
      GoodAfter p guard m v past (act_at p st) st (own ++ beneath v) pushed popped
  handler_here v past st own pushed popped kinds holds count sound handling found way =
      let act = act_at p st in
      let list = addresses own in
      let pc = st.processor.pc in
      let regs = st.processor.registers in
      let flags = st.processor.flags in
      let w = pushes_word st in
      let d = stacking act.way in
      let may = ok.handler_keeps handling.counted _ _ handling.reached in
      let ready = poppable p act.way own way in
      let ready_all = poppable_over d own (beneath v) ready in
      let harmless = quiet_request p guard laws (request act.use_of regs) (proper_request act.use_of regs) (handler_request p act.use_of regs may.uses) kinds in
      let split = over d w own (beneath v) ready in
      let walked = walks p 1 pc own regs flags act.way (same_flow (instruction_at p pc)) way handling.reached in
      let to = same_pc p act.way list (top st.processor) (newest own) regs regs flags pc way (top_own own (beneath v) holds) in
      let same = same_flags p act.way list (top st.processor) (flags_set act.judgement regs flags) way in
      record {
        kinds = harmless.kinds;
        holds = moved d w holds ready_all (rw (split, length-append) (omega (arith, main_room sound, rw length-map at (ok.handler_within handling.counted _ _ walked), ok.total_counted handling.counted, ok.fits)));
        count = counting d w (own ++ beneath v) pushed popped ready_all count;
        sound = sound;
        at = in_handler (words_after d w own)
            (record {
              inside = ap (λ (f : Flags). f.handling) same ∙ handling_stays act.judgement regs flags ∙ handling.inside;
              ie = ap (λ (f : Flags). f.ie) same ∙ ie_handler p act.judgement regs flags may.judgement handling.ie;
              counted = handling.counted;
              reached = rw to walked;
              registers = handler_registers p act.result _ flags regs may.result ∙ handling.registers;
              cells = harmless.cells ∙ handling.cells;
            })
            split found;
      }

  -- what an instruction of the handler's leaves: main as it was, and back where it returns
  pub record Handled (v : View) (past : List (Moment S)) (st : Station S) (ws : List Saved) (act : Action) (pushed popped : ℕ) : Type 0 where
    pub good : GoodAfter p guard m v past act st ws pushed popped
    pub back : act.way ≡ return_interrupt → (v ≡ view_of p guard m (executed m act st) v.words) × Holds (executed m act st).processor.stack (executed m act st).processor.sp v.words

  -- the action, if it leads that way
  abbrev leading : Action → Way → Action
  leading act way = record { result = act.result; judgement = act.judgement; use_of = act.use_of; way = way }

  return_here : (v : View) (past : List (Moment S)) (st : Station S) (act : Action) (pushed popped : ℕ) → HandlerResult p act.result → HandlerUse p act.use_of →
      Kinds p guard m st.bus → Holds st.processor.stack st.processor.sp (beneath v) → pushed ≡ popped + suc (length v.words) → Sound p v →
      Handling p guard m v st [] → Handled v past st (beneath v) (leading act return_interrupt) pushed popped
  return_here v past st act pushed popped result uses kinds holds count sound handling =
      let regs = st.processor.registers in
      let harmless = quiet_request p guard laws (request act.use_of regs) (proper_request act.use_of regs) (handler_request p act.use_of regs uses) kinds in
      let taken = sym (pop holds).top in
      let values = sym (handler_registers p act.result (given_to m act st) st.processor.flags regs result ∙ handling.registers) in
      let held = sym (harmless.cells ∙ handling.cells) in
      let back : v ≡ view_of p guard m (executed m (leading act return_interrupt) st) v.words = λ i. record { pc = (taken i).pc; flags = (taken i).flags; registers = values i; cells = held i; words = v.words } in
      record {
        good = record { kinds = harmless.kinds; holds = (pop holds).rest; count = omega arith; sound = sound; at = in_main back };
        back = λ _. (back, (pop holds).rest);
      }

  pub handler_ran : {v : View} {past : List (Moment S)} {st : Station S} {ws : List Saved} {pushed popped : ℕ} (own : List Saved) →
      Good p guard m v past st ws pushed popped → Handling p guard m v st own → ws ≡ own ++ beneath v → Found p guard m v past → Handled v past st ws (act_at p st) pushed popped
  handler_ran {v} {past} {st} {ws} {pushed} {popped} own good handling same found =
      let may = ok.handler_keeps handling.counted _ _ handling.reached in
      handler_cases p (act_at p st).way (addresses own) may.way led (back may.result may.uses)
    where
      led : MainWay p (act_at p st).way (addresses own) → Handled v past st ws (act_at p st) pushed popped
      led way = record {
        good = rw same (handler_here v past st own pushed popped good.kinds (rw same at good.holds) (rw same at good.count) good.sound handling found way);
        back = λ e. absurd (rw e at way);
      }

      back : HandlerResult p (act_at p st).result → HandlerUse p (act_at p st).use_of → (act_at p st).way ≡ return_interrupt → Empty (addresses own) → Handled v past st ws (act_at p st) pushed popped
      back result uses e empty =
          let alone : own ≡ [] = empty_own own empty in
          let only : ws ≡ beneath v = same ∙ ap (λ (o : List Saved). o ++ beneath v) alone in
          let done = return_here v past st (act_at p st) pushed popped result uses good.kinds (rw only at good.holds) (rw only at good.count) good.sound (rw alone at handling) in
          subst (λ (way : Way). Handled v past st ws (leading (act_at p st) way) pushed popped) (sym e) (rw only done)

  pub waits : {v : View} {past : List (Moment S)} {ws : List Saved} (x : Moment S) → Good p guard m v past x.after ws (pushes_to p (record { now = x; past = past })) (pops_to p (record { now = x; past = past })) → accepts m x.after ≡ true → x.answer.interrupted ≡ true →
      Waiting p guard m v (x ∷ past) x.after ws (pushes_to p (record { now = x; past = past })) (pops_to p (record { now = x; past = past }))
  waits {v} {past} {ws} x good accepting mark = wait good.at
    where
      wait : At p guard m v past x.after ws → Waiting p guard m v (x ∷ past) x.after ws (pushes_to p (record { now = x; past = past })) (pops_to p (record { now = x; past = past }))
      wait (in_handler own handling same found) = absurd (clash (sym handling.ie ∙ and_left _ _ accepting))
      wait (in_main is) =
          let count = good.count in
          let same : v.words ≡ ws = ap (λ (u : View). u.words) is in
          record {
            kinds = good.kinds;
            holds = good.holds;
            count = good.count;
            sound = good.sound;
            is = is;
            ie = and_left _ _ accepting;
            found = record { at = record { now = x; past = past }; last = rw mark refl; is = is ∙ ap (view_of p guard m x.after) (sym same); kinds = good.kinds; holds = rw same good.holds; used = less _ _ _ good.count ∙ ap length (sym same) };
          }

  pub enters : {v : View} {past : List (Moment S)} {st : Station S} {ws : List Saved} {pushed popped : ℕ} → Waiting p guard m v past st ws pushed popped →
      Good p guard m v past (accepted m st) (saved st.processor.pc st.processor.flags ∷ ws) (suc pushed) popped
  enters {v} {past} {st} {ws} waiting =
      let is = waiting.is in
      let counted = waiting.sound.counted (ap (λ (u : View). u.flags.ie) is ∙ waiting.ie) in
      let count = waiting.count in
      let same : v.words ≡ ws = ap (λ (u : View). u.words) is in
      let quiet = quiet_event p guard laws clock tt tt waiting.kinds in
      let room : suc (length ws) ≤ 16 = rw (← same) (omega (arith, main_room waiting.sound, ok.total_counted counted, ok.fits)) in
      record {
        kinds = quiet.kinds;
        holds = push (saved st.processor.pc st.processor.flags) waiting.holds room;
        count = omega arith;
        sound = waiting.sound;
        at = in_handler []
            (record { inside = refl; ie = refl; counted = counted; reached = begin; registers = sym (ap (λ (u : View). u.registers) is); cells = quiet.cells ∙ sym (ap (λ (u : View). u.cells) is) })
            (λ i. saved (sym is i).pc (sym is i).flags ∷ (sym is i).words)
            waiting.found;
      }

  -- none is
  pub stayed : {v : View} {past : List (Moment S)} {ws : List Saved} (x : Moment S) → Good p guard m v past x.after ws (pushes_to p (record { now = x; past = past })) (pops_to p (record { now = x; past = past })) → x.answer.interrupted ≡ false →
      Good p guard m v (x ∷ past) x.after ws (pushes_to p (record { now = x; past = past })) (pops_to p (record { now = x; past = past }))
  stayed {v} {past} {ws} x good mark = record { kinds = good.kinds; holds = good.holds; count = good.count; sound = good.sound; at = stay good.at }
    where
      stay : At p guard m v past x.after ws → At p guard m v (x ∷ past) x.after ws
      stay (in_main is) = in_main is
      stay (in_handler own handling same found) = in_handler own handling same (record { at = found.at; last = rw mark found.last; is = found.is; kinds = found.kinds; holds = found.holds; used = found.used })
