-- What two stations that main sees alike have in common.
use Rattle.std.proofs.Common.{◌≡◌, ℕ, ◌<◌, Bool, true, false, cond, List, length, get_or, sym, ap, ◌∙◌}
use Rattle.bus.specs.Meaning.{Meaning}
use Rattle.machine.specs.declared.pointer.StackPointer.{StackPointer}
use Rattle.machine.specs.declared.processor.Saved.{Saved}
use Rattle.machine.specs.Instructions.{Station}
use Rattle.vetting.specs.Programs.{Program}
use Rattle.claims.specs.Interrupts.{guarded, no_word}
use Rattle.claims.proofs.Lists.{getD_mask, words, words_at, Holds}
use Rattle.claims.proofs.Views.{View}
use Rattle.claims.proofs.Buses.{Kinds}
use Rattle.claims.proofs.Stations.{view_of}

module _ (p : Program) (guard : ℕ → Bool) {S T : Type 0} (m : Meaning S) (k : Meaning T) (st : Station S) (other : Station T) (ws vs : List Saved) (same : view_of p guard m st ws ≡ view_of p guard k other vs) where
  pub same_registers : (r : ℕ) → p.handlers r ≡ false → get_or st.processor.registers r 0 ≡ get_or other.processor.registers r 0
  same_registers r e = sym (getD_mask p.handlers st.processor.registers r e) ∙ ap (λ (u : View). get_or u.registers r 0) same ∙ getD_mask p.handlers other.processor.registers r e

  pub same_cells : Kinds p guard m st.bus → (a : ℕ) → guarded p m st.bus a ≡ true → m.cell st.bus a ≡ k.cell other.bus a
  same_cells kinds a kept =
      let g : guard a ≡ true = sym (kinds.at a) ∙ kept in
      let e : cond (guard a) (m.cell st.bus a) 0 ≡ cond (guard a) (k.cell other.bus a) 0 = ap (λ (u : View). u.cells a) same in
      rw g at e

  pub same_words : {sp sq : StackPointer} → Holds st.processor.stack sp ws → Holds other.processor.stack sq vs → (n : ℕ) → n < length ws → get_or st.processor.stack n no_word ≡ get_or other.processor.stack n no_word
  same_words h g n below =
      let e : ws ≡ vs = ap (λ (u : View). u.words) same in
      words_at (length ws) n st.processor.stack other.processor.stack (h.used ∙ e ∙ sym g.used ∙ ap (λ (l : List Saved). words (length l) other.processor.stack) (sym e)) below
