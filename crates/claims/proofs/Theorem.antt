-- Every list of calls on a station with an accepted program, over every two lawful buses, keeps the claims.
use Rattle.std.proofs.Common.{◌≡◌, ℕ, Bool, true, false, cond, eqb, List, [], ◌∷◌, length, get_or, Some, sym, refl, ap, ◌∙◌, subst, arith}
use mathlib.Core.Path.{fun_ext}
use Rattle.bus.specs.Meaning.{Meaning, Laws}
use Rattle.machine.specs.Instructions.{Station}
use Rattle.vetting.specs.declared.depths.Depths.{Depths}
use Rattle.vetting.specs.Programs.{Program}
use Rattle.vetting.specs.Verdicts.{Accepted}
use Rattle.claims.specs.Moments.{Moment, Point, in_use}
use Rattle.claims.specs.Interrupts.{Throughout, guarded, mains, nth, Alike, SameGuarded, Independent}
use Rattle.claims.specs.Calls.{Call, halted, Allowed, opened, after_calls, past_of}
use Rattle.claims.specs.Claims.{Claims, EveryRun}
use Rattle.claims.proofs.Lists.{words, length_words, words_at}
use Rattle.claims.proofs.Views.{View}
use Rattle.claims.proofs.Buses.{by, contents, Kinds}
use Rattle.claims.proofs.Stations.{view_of}
use Rattle.claims.proofs.Agreement.{same_registers, same_cells}
use Rattle.claims.proofs.Rulebooks.{code_of}
use Rattle.claims.proofs.Runs.{Shown, shown_point, Kept, fresh_kept}
use Rattle.claims.proofs.Rules.{kept_by}
use Rattle.claims.proofs.Calls.{calls_keep}
use Rattle.claims.proofs.Two.{nth_map, alike}

-- what holds of each moment holds of main's
mains_all : {S : Type 0} (P : Point S → Type 0) (past : List (Moment S)) (n : ℕ) (x : Point S) → Throughout P past → nth n (mains past) ≡ Some x → P x
mains_all P [] n x all e = absurd (let no : ◌≡◌ {A = ℕ} 0 1 = cc in omega arith)
mains_all {S} P (y ∷ past) n x all e = at (mains_all P past n x all.1) y.answer.handler e
  where
    here : Point S
    here = record { now = y; past = past }

    newest : (nth n (mains past) ≡ Some x → P x) → (b : Bool) → cond b (Some here) (nth n (mains past)) ≡ Some x → P x
    newest rest true f = subst P (let same : here ≡ x = cc in same) all.0
    newest rest false f = rest f

    at : (nth n (mains past) ≡ Some x → P x) → (b : Bool) → nth n (cond b (mains past) (here ∷ mains past)) ≡ Some x → P x
    at rest true f = rest f
    at rest false f = newest rest (eqb n (length (mains past))) f

module _ (p : Program) (guard : ℕ → Bool) {S T : Type 0} (m : Meaning S) (k : Meaning T) where
  alike_points : (x : Point S) (y : Point T) → Kinds p guard m x.now.after.bus → shown_point p guard m x ≡ shown_point p guard k y → Alike p m k x y
  alike_points x y kinds same =
      let after = ap (λ (s : Shown). s.after) same in
      let ws = ap (λ (u : View). u.words) after in
      let used : in_use p x ≡ in_use p y = sym (length_words (in_use p x) x.now.after.processor.stack) ∙ ap length ws ∙ length_words (in_use p y) y.now.after.processor.stack in
      record {
        address = ap (λ (s : Shown). s.address) same;
        word = ap (λ (s : Shown). get_or p.image s.address 0) same;
        store = ap (λ (s : Shown). s.store) same;
        pc = ap (λ (u : View). u.pc) after;
        flags = ap (λ (u : View). u.flags) after;
        registers = same_registers p guard m k x.now.after y.now.after _ _ after;
        cells = same_cells p guard m k x.now.after y.now.after _ _ after kinds;
        used = used;
        words = λ n below. words_at (in_use p x) n x.now.after.processor.stack y.now.after.processor.stack (ws ∙ ap (λ (l : ℕ). words l y.now.after.processor.stack) (sym used)) below;
      }

  two_pasts : (depths : Depths) (start : View) (st : Station S) (past : List (Moment S)) (other_st : Station T) (other : List (Moment T)) →
      Kept p depths guard m start st past → Kept p depths guard k start other_st other → Independent p m k past other
  two_pasts depths start st past other_st other one two agree n x y e f =
      alike_points x y
      (mains_all (λ z. Kinds p guard m z.now.after.bus) past n x one.kinds e)
      (alike (code_of p) guard start n (shown_point p guard m x) (shown_point p guard k y) one.given two.given
      (λ j a b g h. agree j a b (ap (nth j) one.reads ∙ g) (ap (nth j) two.reads ∙ h))
      (ap (nth n) (sym one.shows) ∙ nth_map (shown_point p guard m) n (mains past) x e)
      (ap (nth n) (sym two.shows) ∙ nth_map (shown_point p guard k) n (mains other) y f))

same_contents : (p : Program) {S T : Type 0} (m : Meaning S) (k : Meaning T) (s : S) (t : T) → SameGuarded p m k s t → (a : ℕ) → contents (guarded p m s) m s a ≡ contents (guarded p m s) k t a
same_contents p m k s t same a = by (guarded p m s a) (λ g. rw g (same.contents a g)) (λ g. rw g)

-- an acceptance that is only known to exist is enough
pub claims_of : (p : Program) (depths : Depths) → ∥ Accepted p depths ∥₁ → (S T : Type 0) (m : Meaning S) (k : Meaning T) → Laws 256 m → Laws 256 k → Claims p depths m k
claims_of p depths known S T m k laws laws_too = record {
  balanced = λ s calls allowed. (first s calls allowed).balanced;
  pointed = λ s calls allowed. (first s calls allowed).pointed;
  returns = λ s calls allowed. (first s calls allowed).returns;
  independent = λ s calls allowed t others allowed_too same. two_pasts p (guarded p m s) m k depths (start s) _ _ _ _ (first s calls allowed) (second s t others allowed_too same);
}
  where
    start : S → View
    start s = view_of p (guarded p m s) m (opened s).station []

    first : (s : S) (calls : List Call) → Allowed halted calls → Kept p depths (guarded p m s) m (start s) (after_calls p m calls (opened s)).station (past_of p m s calls)
    first s calls allowed =
        calls_keep p depths (kept_by p depths known) (guarded p m s) m laws (start s) halted calls allowed (opened s) []
        (fresh_kept p depths (guarded p m s) m s (start s) (record { at = λ a. refl }) refl)

    second : (s : S) (t : T) (others : List Call) → Allowed halted others → SameGuarded p m k s t → Kept p depths (guarded p m s) k (start s) (after_calls p k others (opened t)).station (past_of p k t others)
    second s t others allowed same =
        calls_keep p depths (kept_by p depths known) (guarded p m s) k laws_too (start s) halted others allowed (opened t) []
        (fresh_kept p depths (guarded p m s) k t (start s) (record { at = λ a. sym (same.kinds a) })
        (λ i. record { pc = 0; flags = (start s).flags; registers = (start s).registers; cells = fun_ext (same_contents p m k s t same) i; words = [] }))

pub every_run : EveryRun
every_run p depths ok = claims_of p depths ∣ ok ∣₁
