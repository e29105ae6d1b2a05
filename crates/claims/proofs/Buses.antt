-- What a lawful bus keeps of the guarded cells.
use Rattle.std.proofs.Common.{◌≡◌, ℕ, ◌<◌, Bool, true, false, cond, ◌&&◌, ltb, List, sym, refl, ap, ◌∙◌, mod-lt, arith, lit<, ltb-true, ne_eqb}
use mathlib.Core.Path.{fun_ext}
use Rattle.bus.specs.Meaning as Bus
use Rattle.bus.specs.Meaning.{Event, clock, Meaning, Laws}
use Rattle.machine.specs.Processors.{register_in, value_in}
use Rattle.machine.specs.Steps.{clocked}
use Rattle.machine.specs.Parts.{Request, nothing, read, write, answer, after_request, Use, none, load, store, request}
use Rattle.vetting.specs.Programs.{Program}
use Rattle.claims.specs.Interrupts.{guarded}
use Rattle.claims.proofs.Views.{stored, answered, Harmless}

pub and_left : (a b : Bool) → (a && b) ≡ true → a ≡ true
and_left true b e = refl
and_left false b e = e

and_right : (a b : Bool) → (a && b) ≡ true → b ≡ true
and_right true b e = e
and_right false b e = cc

pub clash : false ≡ true → ⊥
clash z = let no : ◌≡◌ {A = ℕ} 0 1 = cc in omega arith

-- by the value of a test, which stays known
pub by : {P : Type 0} (b : Bool) → (b ≡ true → P) → (b ≡ false → P) → P
by true f g = f refl
by false f g = g refl

-- what the guarded cells hold, and 0 elsewhere
abbrev pub contents : (ℕ → Bool) → {S : Type 0} → Meaning S → S → ℕ → ℕ
contents guard m s a = cond (guard a) (m.cell s a) 0

-- guard tells the guarded cells of s
pub record Kinds (p : Program) (guard : ℕ → Bool) {S : Type 0} (m : Meaning S) (s : S) : Type 0 where
  pub at : (a : ℕ) → guarded p m s a ≡ guard a

-- t has the guarded cells of s, with the same contents
pub record Untouched (p : Program) (guard : ℕ → Bool) {S : Type 0} (m : Meaning S) (s t : S) : Type 0 where
  pub kinds : Kinds p guard m t
  pub cells : contents guard m t ≡ contents guard m s

abbrev pub ProperRequest : Request → Type 0
ProperRequest nothing = Unit {0}
ProperRequest (read a) = a < 256
ProperRequest (write a v) = (a < 256) × (v < 256)

pub proper_request : (u : Use) (registers : List ℕ) → ProperRequest (request u registers)
proper_request none registers = tt
proper_request (load o) registers = mod-lt (value_in o registers) (lit< tt)
proper_request (store x o) registers = (mod-lt (value_in o registers) (lit< tt), mod-lt (register_in x registers) (lit< tt))

module _ (p : Program) (guard : ℕ → Bool) {S : Type 0} {m : Meaning S} (laws : Laws 256 m) where
  guarded_kept : {s : S} {a : ℕ} → Kinds p guard m s → guard a ≡ true → m.keeps s a ≡ true
  guarded_kept {s} {a} kinds g = and_right (p.ranges a) (m.keeps s a) (and_right (ltb a 256) (p.ranges a && m.keeps s a) (kinds.at a ∙ g))

  guarded_range : {s : S} {a : ℕ} → Kinds p guard m s → guard a ≡ true → p.ranges a ≡ true
  guarded_range {s} {a} kinds g = and_left (p.ranges a) (m.keeps s a) (and_right (ltb a 256) (p.ranges a && m.keeps s a) (kinds.at a ∙ g))

  guarded_inside : {s : S} {a : ℕ} → Kinds p guard m s → guard a ≡ true → a < 256
  guarded_inside {s} {a} kinds g = ltb-true a 256 (and_left (ltb a 256) (p.ranges a && m.keeps s a) (kinds.at a ∙ g))

  kinds_after : {s : S} (e : Event) → Bus.Proper 256 e → Kinds p guard m s → Kinds p guard m (m.after s e)
  kinds_after {s} e proper kinds = record {
    at = λ a. by (ltb a 256)
        (λ below. ap (λ (b : Bool). ltb a 256 && (p.ranges a && b)) (laws.kind s e a proper (ltb-true a 256 below)) ∙ kinds.at a)
        (λ beyond. ap (λ (b : Bool). b && (p.ranges a && m.keeps (m.after s e) a)) beyond ∙ sym (ap (λ (b : Bool). b && (p.ranges a && m.keeps s a)) beyond) ∙ kinds.at a);
  }

  pub quiet_event : {s : S} (e : Event) → Bus.Quiet e → Bus.Proper 256 e → Kinds p guard m s → Untouched p guard m s (m.after s e)
  quiet_event {s} e quiet proper kinds = record {
    kinds = kinds_after e proper kinds;
    cells = fun_ext (λ a. by (guard a) (λ g. rw g (laws.quiet s e a quiet proper (guarded_inside kinds g) (guarded_kept kinds g))) (λ g. rw g));
  }

  pub quiet_clocks : {s : S} → Kinds p guard m s → Untouched p guard m s (clocked m s)
  quiet_clocks {s} kinds =
      let one = quiet_event {s = s} clock tt tt kinds in
      let two = quiet_event clock tt tt one.kinds in
      let three = quiet_event clock tt tt two.kinds in
      record { kinds = three.kinds; cells = three.cells ∙ two.cells ∙ one.cells }

  -- a request of main's
  pub kinds_request : {s : S} (a : Request) → ProperRequest a → Kinds p guard m s → Kinds p guard m (after_request m a s)
  kinds_request nothing proper kinds = kinds
  kinds_request (read a) proper kinds = kinds_after (Bus.read a) proper kinds
  kinds_request (write a v) proper kinds = kinds_after (Bus.write a v) proper kinds

  pub contents_request : {s : S} (a : Request) → ProperRequest a → Kinds p guard m s → contents guard m (after_request m a s) ≡ stored guard a (contents guard m s)
  contents_request nothing proper kinds = refl
  contents_request (read a) proper kinds = (quiet_event (Bus.read a) tt proper kinds).cells
  contents_request {s} (write a v) proper kinds = fun_ext (λ b. by (guard b) (λ g. rw g (laws.written s a v b proper.0 proper.1 (guarded_inside kinds g) (guarded_kept kinds g))) (λ g. rw g))

  -- a request of the handler's
  pub quiet_request : {s : S} (a : Request) → ProperRequest a → Harmless p a → Kinds p guard m s → Untouched p guard m s (after_request m a s)
  quiet_request {s} a proper harmless kinds = record { kinds = kinds_request a proper kinds; cells = contents_request a proper kinds ∙ fun_ext (same a harmless) }
    where
      elsewhere : (b k : ℕ) → p.ranges b ≡ false → guard k ≡ true → b ≡ k → ⊥
      elsewhere b k out g same = clash (sym out ∙ ap p.ranges same ∙ guarded_range kinds g)

      same : (b : Request) → Harmless p b → (k : ℕ) → stored guard b (contents guard m s) k ≡ contents guard m s k
      same nothing h k = refl
      same (read b) h k = refl
      same (write b v) h k = by (guard k) (λ g. rw (g, ne_eqb b k (elsewhere b k h g))) (λ g. rw g)

  -- a read that is not open is answered by a guarded cell
  pub answered_right : {s : S} (a : Request) → Kinds p guard m s → answer m a s ≡ answered guard a (contents guard m s) (answer m a s)
  answered_right nothing kinds = refl
  answered_right {s} (read a) kinds = by (guard a) (λ g. rw g (laws.kept s a (guarded_inside kinds g) (guarded_kept kinds g))) (λ g. rw g)
  answered_right (write a v) kinds = refl
