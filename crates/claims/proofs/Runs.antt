-- What stays true of a station through steps, and through events of the bus that leave cells alone.
use Rattle.std.proofs.Common.{◌≡◌, ℕ, zero, suc, ◌+◌, ◌%◌, ◌≤◌, Bool, true, false, cond, not, List, [], ◌∷◌, ◌++◌, map, length, get_or, set, replicate, Some, None, Option, sym, refl, ap, ◌∙◌, subst, ap₂, arith}
use Rattle.isa.specs.declared.instruction.Condition.TheVariants.{Always, Zero, NotZero, Carry, NoCarry, Negative, NotNegative, Overflow, NoOverflow}
use Rattle.isa.specs.declared.instruction.Instruction.{Instruction}
use Rattle.isa.specs.declared.instruction.Instruction.TheVariants.{Alu, Move, Load, Store, Jump, Call, Return, ReturnFromInterrupt, DisableInterrupts, EnableInterrupts, Swap, Shift}
use Rattle.bus.specs.Meaning as Bus
use Rattle.bus.specs.Meaning.{Event, Meaning, Laws}
use Rattle.walk.specs.Walk.{begin}
use Rattle.machine.specs.declared.access.Access.{Access}
use Rattle.machine.specs.declared.access.Access.TheVariants.{Write}
use Rattle.machine.specs.declared.processor.Saved.{Saved}
use Rattle.machine.specs.Processors.{fresh, saved}
use Rattle.machine.specs.Instructions.{Station, Ran}
use Rattle.machine.specs.Steps.{clocked, stepped, accepts, accepted}
use Rattle.machine.specs.Parts.{Action, Way, does, Request, nothing, read, write, request, stacking, answer, access_made, ran_by_parts}
use Rattle.machine.proofs.ByParts.{by_parts}
use Rattle.vetting.specs.declared.depths.Depths.{Depths}
use Rattle.vetting.specs.Programs.{Program, instruction_at}
use Rattle.claims.specs.Moments.{Moment, Point, moment, steps, past_after, pushed_by, popped_by, pushes, pops, in_use}
use Rattle.claims.specs.Interrupts.{Throughout, Between, Balanced, Pointed, no_word, store_of, mains, with_open, open_reads, GivenBack, Returns}
use Rattle.claims.specs.Calls.{touched}
use Rattle.claims.proofs.Rulebooks.{code_of, KeptBy, MainWay}
use Rattle.claims.proofs.Lists.{mask, words, Holds, at_pointer, holds_none, words_after}
use Rattle.claims.proofs.Views.{View, opens, wants, main_step, addresses}
use Rattle.claims.proofs.Buses.{clash, Kinds, Untouched, quiet_event, quiet_clocks}
use Rattle.claims.proofs.Stations.{view_of, Found, Handling, beneath, At, in_main, in_handler, Good, given_to, pushes_word, act_at, executed, plus, minus, less, bounded, main_ran, main_may, main_is, main_wants, handler_ran, waits, enters, stayed}
use Rattle.claims.proofs.Agreement.{same_registers, same_cells, same_words}

-- what one of main's instructions shows
pub record Shown : Type 0 where
  pub address : ℕ
  pub store : Option Access
  pub after : View

abbrev pub shown_point : (p : Program) (guard : ℕ → Bool) {S : Type 0} (m : Meaning S) → Point S → Shown
shown_point p guard m x = record {
  address = x.now.answer.address;
  store = store_of x.now.answer.access;
  after = view_of p guard m x.now.after (words (in_use p x) x.now.after.processor.stack);
}

-- the store that a request makes
abbrev pub store_asked : Request → Option Access
store_asked nothing = None
store_asked (read a) = None
store_asked (write a v) = Some (Write a v)

-- main by itself, by what its instructions were given, the newest first
module _ (code : ℕ → Action) (guard : ℕ → Bool) (start : View) where
  abbrev pub view_after : List ℕ → View
  view_after [] = start
  view_after (a ∷ h) = main_step code guard (view_after h) a

  abbrev pub reads_of : List ℕ → List ℕ
  reads_of [] = []
  reads_of (a ∷ h) = cond (opens guard (wants code guard (view_after h))) (a ∷ reads_of h) (reads_of h)

  abbrev pub shown_of : List ℕ → List Shown
  shown_of [] = []
  shown_of (a ∷ h) = record { address = (view_after h).pc; store = store_asked (wants code guard (view_after h)); after = view_after (a ∷ h) } ∷ shown_of h

-- a station and its past agree with main by itself, and the claims hold of the past
pub record Kept (p : Program) (depths : Depths) (guard : ℕ → Bool) {S : Type 0} (m : Meaning S) (start : View) (st : Station S) (past : List (Moment S)) : Type 0 where
  pub given : List ℕ
  pub words_in_use : List Saved
  pub good : Good p guard m (view_after (code_of p) guard start given) past st words_in_use (pushes p past) (pops p past)
  pub balanced : Throughout (Balanced p depths.total) past
  pub pointed : Throughout (Pointed p) past
  pub returns : Throughout (Returns p m) past
  pub kinds : Throughout (λ x. Kinds p guard m x.now.after.bus) past
  pub reads : open_reads p m past ≡ reads_of (code_of p) guard start given
  pub shows : map (shown_point p guard m) (mains past) ≡ shown_of (code_of p) guard start given

-- a word pushes and pops by its parts as it does by its name
count_pushes : (i : Option Instruction) (n : ℕ) → plus (stacking (does i).way) n ≡ pushed_by i + n
count_pushes None n = omega arith
count_pushes (Some (Alu op x o)) n = omega arith
count_pushes (Some (Move x o)) n = omega arith
count_pushes (Some (Load x o)) n = omega arith
count_pushes (Some (Store x o)) n = omega arith
count_pushes (Some (Jump Always o)) n = omega arith
count_pushes (Some (Jump Zero o)) n = omega arith
count_pushes (Some (Jump NotZero o)) n = omega arith
count_pushes (Some (Jump Carry o)) n = omega arith
count_pushes (Some (Jump NoCarry o)) n = omega arith
count_pushes (Some (Jump Negative o)) n = omega arith
count_pushes (Some (Jump NotNegative o)) n = omega arith
count_pushes (Some (Jump Overflow o)) n = omega arith
count_pushes (Some (Jump NoOverflow o)) n = omega arith
count_pushes (Some (Call o)) n = omega arith
count_pushes (Some Return) n = omega arith
count_pushes (Some ReturnFromInterrupt) n = omega arith
count_pushes (Some DisableInterrupts) n = omega arith
count_pushes (Some EnableInterrupts) n = omega arith
count_pushes (Some (Swap x)) n = omega arith
count_pushes (Some (Shift s x)) n = omega arith

count_pops : (i : Option Instruction) (n : ℕ) → minus (stacking (does i).way) n ≡ popped_by i + n
count_pops None n = omega arith
count_pops (Some (Alu op x o)) n = omega arith
count_pops (Some (Move x o)) n = omega arith
count_pops (Some (Load x o)) n = omega arith
count_pops (Some (Store x o)) n = omega arith
count_pops (Some (Jump Always o)) n = omega arith
count_pops (Some (Jump Zero o)) n = omega arith
count_pops (Some (Jump NotZero o)) n = omega arith
count_pops (Some (Jump Carry o)) n = omega arith
count_pops (Some (Jump NoCarry o)) n = omega arith
count_pops (Some (Jump Negative o)) n = omega arith
count_pops (Some (Jump NotNegative o)) n = omega arith
count_pops (Some (Jump Overflow o)) n = omega arith
count_pops (Some (Jump NoOverflow o)) n = omega arith
count_pops (Some (Call o)) n = omega arith
count_pops (Some Return) n = omega arith
count_pops (Some ReturnFromInterrupt) n = omega arith
count_pops (Some DisableInterrupts) n = omega arith
count_pops (Some EnableInterrupts) n = omega arith
count_pops (Some (Swap x)) n = omega arith
count_pops (Some (Shift s x)) n = omega arith

between : (total pushed popped n : ℕ) → pushed ≡ popped + n → n ≤ total → Between total pushed popped
between total pushed popped n e h = (omega arith, omega arith)

other_way : {A : Type 0} (b : Bool) (x y : A) → cond b x y ≡ cond (not b) y x
other_way true x y = refl
other_way false x y = refl

module _ (p : Program) (depths : Depths) (ok : KeptBy p depths) (guard : ℕ → Bool) {S : Type 0} (m : Meaning S) (laws : Laws 256 m) (start : View) where
  abbrev Inv : Station S → List (Moment S) → Type 0
  Inv st past = Kept p depths guard m start st past

  abbrev main_view : {st : Station S} {past : List (Moment S)} → Inv st past → View
  main_view kept = view_after (code_of p) guard start kept.given

  -- the moment of a step that found st, by what its word did and whether an interrupt was accepted then
  abbrev moment_by : Station S → Ran S → Bool → Moment S
  moment_by st r b = record {
    before = st;
    answer = record { address = st.processor.pc; handler = st.processor.flags.handling; access = r.access; interrupted = b };
    after = r.station;
  }

  -- the station after the step
  abbrev left_by : Ran S → Bool → Station S
  left_by r b = cond b (accepted m r.station) r.station

  -- the station after the three clocks
  abbrev on_bus : Station S → S → Station S
  on_bus st s = record { processor = st.processor; bus = s }

  -- what the word does then
  abbrev word_parts : Station S → S → Ran S
  word_parts st s = ran_by_parts m (act_at p st) st.processor s

  abbrev point_by : Station S → S → List (Moment S) → Bool → Point S
  point_by st s past b = record { now = moment_by st (word_parts st s) b; past = past }

  -- main, and the counts, after the word
  abbrev GoodThen : View → List (Moment S) → Station S → S → List Saved → Type 0
  GoodThen v past st s ws =
      Good p guard m v past (word_parts st s).station ws
      (pushed_by (instruction_at p st.processor.pc) + pushes p past) (popped_by (instruction_at p st.processor.pc) + pops p past)

  recount : {v : View} {past : List (Moment S)} {st : Station S} {ws : List Saved} {pushed popped : ℕ} (n k : ℕ) → pushed ≡ n → popped ≡ k →
      Good p guard m v past st ws pushed popped → Good p guard m v past st ws n k
  recount {ws = ws} n k e f good = record {
    kinds = good.kinds;
    holds = good.holds;
    count = sym e ∙ good.count ∙ ap (λ (l : ℕ). l + length ws) f;
    sound = good.sound;
    at = good.at;
  }

  -- the end of a step
  finish :
      (st : Station S) (s : S) (past : List (Moment S)) (given : List ℕ) (ws : List Saved) → Inv (on_bus st s) past →
      GoodThen (view_after (code_of p) guard start given) past st s ws →
      ((b : Bool) → Returns p m (point_by st s past b)) →
      ((b : Bool) → open_reads p m (moment_by st (word_parts st s) b ∷ past) ≡ reads_of (code_of p) guard start given) →
      ((b : Bool) → map (shown_point p guard m) (mains (moment_by st (word_parts st s) b ∷ past)) ≡ shown_of (code_of p) guard start given) →
      (b : Bool) → accepts m (word_parts st s).station ≡ b → Inv (left_by (word_parts st s) b) (moment_by st (word_parts st s) b ∷ past)
  finish st s past given ws kept good returned reading showed true e =
      let into = enters p depths ok guard m laws (waits p depths ok guard m laws (moment_by st (word_parts st s) true) good e refl) in
      let used = sym (less _ _ _ good.count) in
      record {
        given = given;
        words_in_use = _;
        good = recount _ _ (omega arith) refl into;
        balanced = (record { word = between _ _ _ _ good.count (bounded p depths ok guard m laws good); entry = λ _. between _ _ _ _ into.count (bounded p depths ok guard m laws into) }, kept.balanced);
        pointed = (record { word = good.holds.place ∙ ap (λ (n : ℕ). n % 16) used; entry = λ _. into.holds.place ∙ ap (λ (n : ℕ). suc n % 16) used }, kept.pointed);
        returns = (returned true, kept.returns);
        kinds = (good.kinds, kept.kinds);
        reads = reading true;
        shows = showed true;
      }
  finish st s past given ws kept good returned reading showed false e = record {
    given = given;
    words_in_use = ws;
    good = recount _ _ (omega arith) refl (stayed p depths ok guard m laws (moment_by st (word_parts st s) false) good refl);
    balanced = (record { word = between _ _ _ _ good.count (bounded p depths ok guard m laws good); entry = λ no. absurd (clash no) }, kept.balanced);
    pointed = (record { word = good.holds.place ∙ ap (λ (n : ℕ). n % 16) (sym (less _ _ _ good.count)); entry = λ no. absurd (clash no) }, kept.pointed);
    returns = (returned false, kept.returns);
    kinds = (good.kinds, kept.kinds);
    reads = reading false;
    shows = showed false;
  }

  same_open : (st : Station S) (s : S) (q : Request) (answers : List ℕ) → Kinds p guard m st.bus →
      with_open p m st.bus (access_made m q s) answers ≡ cond (opens guard q) (answer m q s ∷ answers) answers
  same_open st s nothing answers kinds = refl
  same_open st s (read a) answers kinds =
      ap (λ (b : Bool). cond b answers (m.reads s a ∷ answers)) (kinds.at a) ∙ other_way (guard a) answers (m.reads s a ∷ answers)
  same_open st s (write a v) answers kinds = refl

  same_store : (q : Request) (s : S) → store_of (access_made m q s) ≡ store_asked q
  same_store nothing s = refl
  same_store (read a) s = refl
  same_store (write a v) s = refl

  given_back : (v : View) (i x : Point S) → v ≡ view_of p guard m x.now.after v.words → Holds x.now.after.processor.stack x.now.after.processor.sp v.words →
      v ≡ view_of p guard m i.now.after v.words → Kinds p guard m i.now.after.bus → Holds i.now.after.processor.stack i.now.after.processor.sp v.words →
      in_use p i ≡ length v.words → GivenBack p m i x
  given_back v i x here holds there kinds found used =
      let same = sym there ∙ here in
      let q = i.now.after.processor in
      let w = saved q.pc q.flags in
      record {
        taken = ap (λ (n : ℕ). get_or (set q.stack q.sp.place w) (n % 16) no_word) used ∙ at_pointer w found;
        pc = sym (ap (λ (u : View). u.pc) same);
        flags = sym (ap (λ (u : View). u.flags) same);
        registers = λ r e. sym (same_registers p guard m m i.now.after x.now.after v.words v.words same r e);
        cells = λ a kept. sym (same_cells p guard m m i.now.after x.now.after v.words v.words same kinds a kept);
        words = λ k below. sym (same_words p guard m m i.now.after x.now.after v.words v.words same found holds k (rw used at below));
      }

  abbrev accepting : Station S → S → Bool
  accepting st s = accepts m (word_parts st s).station

  main_ended : (st : Station S) (s : S) (past : List (Moment S)) → Kinds p guard m st.bus → (kept : Inv (on_bus st s) past) → main_view kept ≡ view_of p guard m (on_bus st s) kept.words_in_use →
      Inv (left_by (word_parts st s) (accepting st s)) (moment_by st (word_parts st s) (accepting st s) ∷ past)
  main_ended st s past kinds kept is =
      let here = on_bus st s in
      let i = instruction_at p st.processor.pc in
      let act = act_at p here in
      let q = request act.use_of st.processor.registers in
      let good = kept.good in
      let later = recount _ _ (count_pushes i (pushes p past)) (count_pops i (pops p past)) (main_ran p depths ok guard m laws good is) in
      let wanted = main_wants p depths ok guard m laws good is in
      let mains_own : st.processor.flags.handling ≡ false = sym (ap (λ (u : View). u.flags.handling) is) ∙ good.sound.begun in
      let ws = words_after (stacking act.way) (pushes_word here) kept.words_in_use in
      let may = (main_may p depths ok guard m laws good is).way in
      let used = less _ _ (length ws) later.count in
      let after = executed m act here in
      let left = ap (view_of p guard m after) (ap (λ (n : ℕ). words n after.processor.stack) used ∙ later.holds.used) ∙ sym (main_is p depths ok guard m laws good is) in
      let asked = same_store q s ∙ ap store_asked wanted in
      let answers = open_reads p m past in
      let showing : (b : Bool) → shown_point p guard m (point_by st s past b) ≡ record { address = (main_view kept).pc; store = store_asked (wants (code_of p) guard (main_view kept)); after = main_step (code_of p) guard (main_view kept) (given_to m act here) }
      = λ b i. record { address = (sym is i).pc; store = asked i; after = left i } in
      finish st s past (given_to m act here ∷ kept.given) ws kept later
      (λ b e. absurd (subst (λ (w : Way). MainWay p w (addresses kept.words_in_use)) (ap (λ (j : Option Instruction). (does j).way) e) may))
      (λ b. ap (λ (h : Bool). cond h answers (with_open p m st.bus (access_made m q s) answers)) mains_own
      ∙ same_open st s q answers kinds
      ∙ ap₂ (λ (r : Request) (l : List ℕ). cond (opens guard r) (given_to m act here ∷ l) l) wanted kept.reads)
      (λ b. ap (λ (h : Bool). map (shown_point p guard m) (cond h (mains past) (point_by st s past b ∷ mains past))) mains_own ∙ ap₂ (λ (x : Shown) (l : List Shown). x ∷ l) (showing b) kept.shows)
      (accepting st s) refl

  handler_ended : (st : Station S) (s : S) (past : List (Moment S)) (kept : Inv (on_bus st s) past) (own : List Saved) →
      Handling p guard m (main_view kept) (on_bus st s) own → kept.words_in_use ≡ own ++ beneath (main_view kept) → Found p guard m (main_view kept) past →
      Inv (left_by (word_parts st s) (accepting st s)) (moment_by st (word_parts st s) (accepting st s) ∷ past)
  handler_ended st s past kept own handling same found =
      let i = instruction_at p st.processor.pc in
      let later = handler_ran p depths ok guard m laws own kept.good handling same found in
      let back = later.back in
      finish st s past kept.given _ kept (recount _ _ (count_pushes i (pushes p past)) (count_pops i (pops p past)) later.good)
      (λ b e. let way = ap (λ (j : Option Instruction). (does j).way) e in
      (found.at, found.last, given_back (main_view kept) found.at (point_by st s past b) (back way).0 (back way).1 found.is found.kinds found.holds found.used))
      (λ b. ap (λ (h : Bool). cond h (open_reads p m past) (with_open p m st.bus (word_parts st s).access (open_reads p m past))) handling.inside ∙ kept.reads)
      (λ b. ap (λ (h : Bool). map (shown_point p guard m) (cond h (mains past) (point_by st s past b ∷ mains past))) handling.inside ∙ kept.shows)
      (accepting st s) refl

  ended_keeps : (st : Station S) (s : S) (past : List (Moment S)) → Kinds p guard m st.bus → Inv (on_bus st s) past →
      Inv (left_by (word_parts st s) (accepting st s)) (moment_by st (word_parts st s) (accepting st s) ∷ past)
  ended_keeps st s past kinds kept = at kept.good.at
    where
      at : At p guard m (main_view kept) past (on_bus st s) kept.words_in_use → Inv (left_by (word_parts st s) (accepting st s)) (moment_by st (word_parts st s) (accepting st s) ∷ past)
      at (in_main is) = main_ended st s past kinds kept is
      at (in_handler own handling same found) = handler_ended st s past kept own handling same found

  -- the bus moves by itself, and shows the same guarded cells
  bus_keeps : (st : Station S) (s : S) (past : List (Moment S)) → Inv st past → Untouched p guard m st.bus s → Inv (on_bus st s) past
  bus_keeps st s past kept quiet = record {
    given = kept.given;
    words_in_use = kept.words_in_use;
    good = record { kinds = quiet.kinds; holds = kept.good.holds; count = kept.good.count; sound = kept.good.sound; at = at kept.good.at };
    balanced = kept.balanced;
    pointed = kept.pointed;
    returns = kept.returns;
    kinds = kept.kinds;
    reads = kept.reads;
    shows = kept.shows;
  }
    where
      at : At p guard m (main_view kept) past st kept.words_in_use → At p guard m (main_view kept) past (on_bus st s) kept.words_in_use
      at (in_main is) =
          in_main (is ∙ (λ i. record { pc = st.processor.pc; flags = st.processor.flags; registers = mask p.handlers st.processor.registers; cells = sym quiet.cells i; words = kept.words_in_use }))
      at (in_handler own h same found) =
          in_handler own (record { inside = h.inside; ie = h.ie; counted = h.counted; reached = h.reached; registers = h.registers; cells = quiet.cells ∙ h.cells }) same found

  -- a step
  stepped_keeps : (st : Station S) (past : List (Moment S)) → Inv st past → Inv (stepped m p.image st).station (moment p m st ∷ past)
  stepped_keeps st past kept =
      let s = clocked m st.bus in
      subst (λ (r : Ran S). Inv (left_by r (accepts m r.station)) (moment_by st r (accepts m r.station) ∷ past))
      (sym (by_parts m (instruction_at p st.processor.pc) st.processor s))
      (ended_keeps st s past kept.good.kinds (bus_keeps st s past kept (quiet_clocks p guard laws kept.good.kinds)))

  -- steps
  pub steps_keep : (k : ℕ) (st : Station S) (past : List (Moment S)) → Inv st past → Inv (steps p m k st) (past_after p m k st past)
  steps_keep zero st past kept = kept
  steps_keep (suc k) st past kept = stepped_keeps (steps p m k st) (past_after p m k st past) (steps_keep k st past kept)

  -- an event that leaves cells alone
  pub touched_keeps : (e : Event) (st : Station S) (past : List (Moment S)) → Bus.Quiet e → Bus.Proper 256 e → Inv st past → Inv (touched p m e st) past
  touched_keeps e st past quiet proper kept = bus_keeps st (m.after st.bus e) past kept (quiet_event p guard laws e quiet proper kept.good.kinds)

-- a fresh station
pub fresh_kept : (p : Program) (depths : Depths) (guard : ℕ → Bool) {S : Type 0} (m : Meaning S) (s : S) (start : View) → Kinds p guard m s → start ≡ view_of p guard m (record { processor = fresh; bus = s }) [] →
    Kept p depths guard m start (record { processor = fresh; bus = s }) []
fresh_kept p depths guard m s start kinds is = record {
  given = [];
  words_in_use = [];
  good = record {
    kinds = kinds;
    holds = holds_none (replicate 16 no_word) refl;
    count = refl;
    sound = rw is (record { reached = begin; begun = refl; counted = λ e. absurd (clash e) });
    at = in_main is;
  };
  balanced = tt;
  pointed = tt;
  returns = tt;
  kinds = tt;
  reads = refl;
  shows = refl;
}
