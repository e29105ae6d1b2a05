-- What interrupts may do to main: the claims about a past, and about two pasts of one program.
use Rattle.std.specs.Prelude.{◌≡◌, ℕ, suc, ◌+◌, ◌%◌, ◌<◌, ◌≤◌, Bool, true, false, cond, ◌&&◌, List, [], ◌∷◌, length, get_or, Some, None, Option, ◌==◌, nat_lt, slice_index, slice_index_or}
use Rattle.isa.specs.declared.instruction.Instruction.TheVariants.{ReturnFromInterrupt}
use Rattle.bus.specs.Meaning.{Meaning}
use Rattle.machine.specs.declared.access.Access.{Access}
use Rattle.machine.specs.declared.access.Access.TheVariants.{Read, Write}
use Rattle.machine.specs.declared.processor.Saved.{Saved}
use Rattle.machine.specs.Processors.{places, saved, no_flags}
use Rattle.machine.specs.Steps.{interrupted}
use Rattle.vetting.specs.Programs.{Program}
use Rattle.claims.specs.Moments.{Moment, Point, instruction_of, pushes_to, pops_to, in_use}

-- a property holds at each moment of a past
abbrev pub Throughout : {S : Type 0} → (Point S → Type 0) → List (Moment S) → Type 0
Throughout P [] = Unit {0}
Throughout P (x ∷ past) = P (record { now = x; past = past }) × Throughout P past

-- pushes less pops are not below 0 and not above the total depth
abbrev pub Between : ℕ → ℕ → ℕ → Type 0
Between total pushes pops = (pops ≤ pushes) × (pushes ≤ pops + total)

-- so it is after the word, and again after an interrupt that is accepted then
pub record Balanced (p : Program) {S : Type 0} (total : ℕ) (x : Point S) : Type 0 where
  pub word : Between total (pushes_to p x) (pops_to p x)
  pub entry : x.now.answer.interrupted ≡ true → Between total (suc (pushes_to p x)) (pops_to p x)

-- SP is the number of words in use modulo 16, after the word and again after an interrupt that is accepted then
pub record Pointed (p : Program) {S : Type 0} (x : Point S) : Type 0 where
  pub word : x.now.after.processor.sp.place ≡ in_use p x % places
  pub entry : x.now.answer.interrupted ≡ true → (interrupted x.now.after.processor).sp.place ≡ suc (in_use p x) % places

-- the moment at which the last interrupt of a past was accepted
abbrev pub last_interrupt : {S : Type 0} → List (Moment S) → Option (Point S)
last_interrupt [] = None
last_interrupt (x ∷ past) = cond x.answer.interrupted (Some (record { now = x; past = past })) (last_interrupt past)

-- a stack word that is all 0
abbrev pub no_word : Saved
no_word = saved 0 no_flags

-- the n-th from opening, counted from 0, of a list with the newest first
abbrev pub nth : {A : Type 0} → ℕ → List A → Option A
nth n [] = None
nth n (x ∷ older) = cond (n == length older) (Some x) (nth n older)

-- the store among the accesses
abbrev pub store_of : Option Access → Option Access
store_of None = None
store_of (Some (Read a v)) = None
store_of (Some (Write a v)) = Some (Write a v)

-- main's moments: those of instructions begun with IF = 0
abbrev pub mains : {S : Type 0} → List (Moment S) → List (Point S)
mains [] = []
mains (x ∷ past) = cond x.answer.handler (mains past) (record { now = x; past = past } ∷ mains past)

module _ (p : Program) {S : Type 0} (m : Meaning S) where
  -- a guarded cell: at an address, below 256, that lies in a range of main's and is kept
  abbrev pub guarded : S → ℕ → Bool
  guarded s a = nat_lt a 256 && (p.ranges a && m.keeps s a)

  -- the answer of a read of anything but a guarded cell is put before the others
  abbrev pub with_open : S → Option Access → List ℕ → List ℕ
  with_open s None answers = answers
  with_open s (Some (Read a v)) answers = cond (guarded s a) answers (v ∷ answers)
  with_open s (Some (Write a v)) answers = answers

  -- what main's open reads were answered
  abbrev pub open_reads : List (Moment S) → List ℕ
  open_reads [] = []
  open_reads (x ∷ past) = cond x.answer.handler (open_reads past) (with_open x.before.bus x.answer.access (open_reads past))

  -- the interrupt accepted at i took PC and the six flags, and the station after x is for main as i found it
  pub record GivenBack (i x : Point S) : Type 0 where
    pub taken : get_or (interrupted i.now.after.processor).stack (in_use p i % places) no_word ≡ saved i.now.after.processor.pc i.now.after.processor.flags
    pub pc : x.now.after.processor.pc ≡ i.now.after.processor.pc
    pub flags : x.now.after.processor.flags ≡ i.now.after.processor.flags
    pub registers : (r : ℕ) → p.handlers r ≡ false → slice_index x.now.after.processor.registers r ≡ slice_index i.now.after.processor.registers r
    pub cells : (a : ℕ) → guarded i.now.after.bus a ≡ true → m.cell x.now.after.bus a ≡ m.cell i.now.after.bus a
    pub words : (k : ℕ) → k < in_use p i → slice_index_or x.now.after.processor.stack k no_word ≡ slice_index_or i.now.after.processor.stack k no_word

  -- a return from interrupt has an interrupt before it, and gives back what the last one took
  abbrev pub Returns : Point S → Type 0
  Returns x = instruction_of p x.now ≡ Some ReturnFromInterrupt → (i : Point S) × (last_interrupt x.past ≡ Some i) × GivenBack i x

module _ (p : Program) {S T : Type 0} (m : Meaning S) (k : Meaning T) where
  -- two moments of main's are of the same instruction with the same store, and leave main alike
  pub record Alike (x : Point S) (y : Point T) : Type 0 where
    pub address : x.now.answer.address ≡ y.now.answer.address
    pub word : get_or p.image x.now.answer.address 0 ≡ slice_index p.image y.now.answer.address
    pub store : store_of x.now.answer.access ≡ store_of y.now.answer.access
    pub pc : x.now.after.processor.pc ≡ y.now.after.processor.pc
    pub flags : x.now.after.processor.flags ≡ y.now.after.processor.flags
    pub registers : (r : ℕ) → p.handlers r ≡ false → slice_index x.now.after.processor.registers r ≡ slice_index y.now.after.processor.registers r
    pub cells : (a : ℕ) → guarded p m x.now.after.bus a ≡ true → m.cell x.now.after.bus a ≡ k.cell y.now.after.bus a
    pub used : in_use p x ≡ in_use p y
    pub words : (n : ℕ) → n < in_use p x → slice_index_or x.now.after.processor.stack n no_word ≡ slice_index_or y.now.after.processor.stack n no_word

  -- two buses have the same guarded cells, alike in contents
  pub record SameGuarded (s : S) (t : T) : Type 0 where
    pub kinds : (a : ℕ) → guarded p m s a ≡ guarded p k t a
    pub contents : (a : ℕ) → guarded p m s a ≡ true → m.cell s a ≡ k.cell t a

  -- if main's open reads answer alike as far as both pasts go, main's instructions are alike as far as both go
  abbrev pub Independent : List (Moment S) → List (Moment T) → Type 0
  Independent past other =
      ((j a b : ℕ) → nth j (open_reads p m past) ≡ Some a → nth j (open_reads p k other) ≡ Some b → a ≡ b)
      → (n : ℕ) (x : Point S) (y : Point T) → nth n (mains past) ≡ Some x → nth n (mains other) ≡ Some y → Alike x y
