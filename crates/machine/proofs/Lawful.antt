-- Every step keeps to the laws.
use Rattle.std.proofs.Common.{◌≡◌, ℕ, false, List, length, Option, refl, ap, ◌∙◌, arith, length-set, get_or-set_same}
use Rattle.isa.specs.declared.instruction.Instruction.{Instruction}
use Rattle.bus.specs.Meaning.{Meaning}
use Rattle.machine.specs.declared.access.StepRecord.{StepRecord}
use Rattle.machine.specs.declared.processor.Processor.{Processor}
use Rattle.machine.specs.Processors.{lowered, saved, no_flags, next, top, pushed}
use Rattle.machine.specs.Instructions.{Station, called, ran}
use Rattle.machine.specs.Steps.{interrupted, stepped, clocked}
use Rattle.machine.specs.Laws.{loads_pc, StackAsLeft, ComesBack, GivesBack, fetched, word_left, LawfulStep}
use Rattle.machine.proofs.Pointers.{up_down}

-- a push's word is on top as long as the stack is as it was left
pushed_is_top : (p later : Processor) (a : ℕ) → length p.stack ≡ 16 → StackAsLeft (pushed a p) later → top later ≡ saved a p.flags
pushed_is_top p later a whole left =
    let place : lowered later.sp ≡ p.sp = ap lowered left.pointer ∙ up_down p.sp in
    rw (place, left.words) (get_or-set_same p.stack p.sp.place (saved a p.flags) (saved 0 no_flags) (omega (arith, p.sp.small)))

comes_back : (p later : Processor) (a : ℕ) → length p.stack ≡ 16 → StackAsLeft (pushed a p) later → ComesBack p a later
comes_back p later a whole left =
    let word = pushed_is_top p later a whole left in
    let place = up_down p.sp in
    record { pc = cc; flags = refl; pointer = cc }

gives_back : (p later : Processor) → length p.stack ≡ 16 → StackAsLeft (pushed p.pc p) later → GivesBack p later
gives_back p later whole left =
    let word = pushed_is_top p later p.pc whole left in
    let place = up_down p.sp in
    record { pc = cc; flags = cc; pointer = cc }

-- no word changes the number of places
stack_whole : {S : Type 0} (m : Meaning S) (i : Option Instruction) (p : Processor) (s : S) → length p.stack ≡ 16 → length (ran m i p s).station.processor.stack ≡ 16
stack_whole m i p s whole = grind (arith, length-set)

-- an undefined word, and one that does not load PC, leads to the next address
goes_on : {S : Type 0} (m : Meaning S) (i : Option Instruction) (p : Processor) (s : S) → loads_pc i ≡ false → (ran m i p s).station.processor.pc ≡ next p.pc
goes_on m i p s e = grind arith

module _ {S : Type 0} (m : Meaning S) (image : List ℕ) (st : Station S) where
  lawful : LawfulStep m image st (stepped m image st).station.processor (stepped m image st).answer
  lawful = record {
    quiet = λ e. grind arith;
    entered = λ e. grind arith;
    disabled = λ e. grind arith;
    undefined = λ e. (grind arith, grind arith);
    on = λ e. goes_on m (fetched m image st) st.processor (clocked m st.bus) e;
    round = λ e full. goes_on m (fetched m image st) st.processor (clocked m st.bus) e ∙ ap next full;
    call = λ o e whole later left.
        let is : word_left m image st ≡ called o st.processor = grind arith in
        comes_back st.processor later (next st.processor.pc) whole (record { words = cc; pointer = cc });
    interrupt = λ e whole later left.
        let is : (stepped m image st).station.processor ≡ interrupted (word_left m image st) = grind arith in
        gives_back (word_left m image st) later (stack_whole m (fetched m image st) st.processor (clocked m st.bus) whole) (record { words = cc; pointer = cc });
  }

-- so does what is equal to a step's processor and record
pub lawful_at :
    {S : Type 0} (m : Meaning S) (image : List ℕ) (st : Station S) (q : Processor) (r : StepRecord) →
    q ≡ (stepped m image st).station.processor → r ≡ (stepped m image st).answer → LawfulStep m image st q r
lawful_at m image st q r is answers = rw (is, answers) (lawful m image st)
