-- Registers with some hidden, and the words of a stack in use.
use Rattle.std.proofs.Common.{◌≡◌, ℕ, zero, suc, ◌%◌, ◌<◌, ◌≤◌, Bool, true, false, cond, List, [], ◌∷◌, length, get_or, set, sym, refl, ap, ◌∙◌, ap₂, ⊎_elim, le_of_suc-le-suc, eq-or-lt_of_le, arith, length-set, get_or-set_other, get_or-set_same}
use Rattle.machine.specs.declared.pointer.StackPointer.{StackPointer}
use Rattle.machine.specs.declared.processor.Saved.{Saved}
use Rattle.machine.specs.Processors.{pointer, raised, lowered}
use Rattle.machine.specs.Parts.{Stacking, stays, pushes, pops, stack_after, sp_after}
use Rattle.claims.specs.Interrupts.{no_word}

-- the list with 0 at each place that is hidden
pub mask : (ℕ → Bool) → List ℕ → List ℕ
mask hides [] = []
mask hides (x ∷ xs) = cond (hides 0) 0 x ∷ mask (λ k. hides (suc k)) xs

pub getD_mask : (hides : ℕ → Bool) (xs : List ℕ) (k : ℕ) → hides k ≡ false → get_or (mask hides xs) k 0 ≡ get_or xs k 0
unfolding mask
getD_mask hides [] k e = refl
getD_mask hides (x ∷ xs) zero e = rw e
getD_mask hides (x ∷ xs) (suc k) e = getD_mask (λ k. hides (suc k)) xs k e

pub mask_set : (hides : ℕ → Bool) (xs : List ℕ) (k v : ℕ) → hides k ≡ false → mask hides (set xs k v) ≡ set (mask hides xs) k v
unfolding mask
mask_set hides [] k v e = refl
mask_set hides (x ∷ xs) zero v e = rw e
mask_set hides (x ∷ xs) (suc k) v e = ap (λ (l : List ℕ). cond (hides 0) 0 x ∷ l) (mask_set (λ k. hides (suc k)) xs k v e)

pub mask_hidden : (hides : ℕ → Bool) (xs : List ℕ) (k v : ℕ) → hides k ≡ true → mask hides (set xs k v) ≡ mask hides xs
unfolding mask
mask_hidden hides [] k v e = refl
mask_hidden hides (x ∷ xs) zero v e = rw e
mask_hidden hides (x ∷ xs) (suc k) v e = ap (λ (l : List ℕ). cond (hides 0) 0 x ∷ l) (mask_hidden (λ k. hides (suc k)) xs k v e)

-- the first n words of the stack, newest first
pub words : ℕ → List Saved → List Saved
words zero stack = []
words (suc n) stack = get_or stack n no_word ∷ words n stack

pub length_words : (n : ℕ) (stack : List Saved) → length (words n stack) ≡ n
unfolding words
length_words zero stack = refl
length_words (suc n) stack = ap suc (length_words n stack)

pub words_above : (n k : ℕ) (w : Saved) (stack : List Saved) → n ≤ k → words n (set stack k w) ≡ words n stack
unfolding words
words_above zero k w stack h = refl
words_above (suc n) k w stack h = ap₂ (λ (x : Saved) (l : List Saved). x ∷ l) (get_or-set_other stack k n w no_word (omega arith)) (words_above n k w stack (omega arith))

pub words_at : (n k : ℕ) (s t : List Saved) → words n s ≡ words n t → k < n → get_or s k no_word ≡ get_or t k no_word
unfolding words
words_at zero k s t e h = absurd (omega arith)
words_at (suc n) k s t e h =
    let newest : get_or s n no_word ≡ get_or t n no_word = cc in
    let older : words n s ≡ words n t = cc in
    ⊎_elim (λ (same : k ≡ n). rw same newest) (λ (below : k < n). words_at n k s t older below) (eq-or-lt_of_le (le_of_suc-le-suc h))

-- the words in use of a stack
pub record Holds (stack : List Saved) (sp : StackPointer) (ws : List Saved) : Type 0 where
  pub size : length stack ≡ 16
  pub place : sp.place ≡ length ws % 16
  pub fits : length ws ≤ 16
  pub used : words (length ws) stack ≡ ws

-- a word that is pushed stands at SP
pub at_pointer : {stack : List Saved} {sp : StackPointer} {ws : List Saved} (w : Saved) → Holds stack sp ws → get_or (set stack sp.place w) (length ws % 16) no_word ≡ w
at_pointer {stack} {sp} {ws} w h =
    ap (λ (k : ℕ). get_or (set stack sp.place w) k no_word) (sym h.place) ∙ get_or-set_same stack sp.place w no_word (omega (arith, h.size, sp.small))

pub push : {stack : List Saved} {sp : StackPointer} {ws : List Saved} (w : Saved) → Holds stack sp ws → suc (length ws) ≤ 16 → Holds (set stack sp.place w) (raised sp) (w ∷ ws)
unfolding words pointer
push {stack} {sp} {ws} w h room =
    let at : sp.place ≡ length ws = omega (arith, h.place) in
    record {
      size = length-set stack sp.place w ∙ h.size;
      place = omega (arith, h.place);
      fits = room;
      used =
          ap₂ (λ (x : Saved) (l : List Saved). x ∷ l)
          (ap (λ (k : ℕ). get_or (set stack sp.place w) k no_word) (sym at) ∙ get_or-set_same stack sp.place w no_word (omega (arith, h.size)))
          (words_above (length ws) sp.place w stack (omega arith) ∙ h.used);
    }

pub record Popped (stack : List Saved) (sp : StackPointer) (w : Saved) (ws : List Saved) : Type 0 where
  pub top : get_or stack (lowered sp).place no_word ≡ w
  pub rest : Holds stack (lowered sp) ws

pub pop : {stack : List Saved} {sp : StackPointer} {w : Saved} {ws : List Saved} → Holds stack sp (w ∷ ws) → Popped stack sp w ws
unfolding words pointer
pop {stack} {sp} {w} {ws} h =
    let at : (lowered sp).place ≡ length ws = omega (arith, h.place, h.fits) in
    record {
      top = rw at (let e = h.used in cc);
      rest = record { size = h.size; place = omega arith; fits = omega arith; used = let e = h.used in cc };
    }

-- the words in use after a word that pushes w, pops or does neither
abbrev pub words_after : Stacking → Saved → List Saved → List Saved
words_after stays w ws = ws
words_after pushes w ws = w ∷ ws
words_after pops w [] = []
words_after pops w (x ∷ ws) = ws

-- there is a word to pop
abbrev pub Poppable : Stacking → List Saved → Type 0
Poppable stays ws = Unit {0}
Poppable pushes ws = Unit {0}
Poppable pops [] = ⊥
Poppable pops (x ∷ ws) = Unit {0}

pub moved :
    (v : Stacking) (w : Saved) {stack : List Saved} {sp : StackPointer} {ws : List Saved} → Holds stack sp ws → Poppable v ws → length (words_after v w ws) ≤ 16 →
    Holds (stack_after v w stack sp) (sp_after v sp) (words_after v w ws)
moved stays w h ready room = h
moved pushes w h ready room = push w h room
moved pops w {ws = []} h ready room = absurd ready
moved pops w {ws = x ∷ ws} h ready room = (pop h).rest

-- an empty stack
pub holds_none : (stack : List Saved) → length stack ≡ 16 → Holds stack (pointer 0) []
unfolding words pointer
holds_none stack e = record { size = e; place = refl; fits = omega arith; used = refl }
