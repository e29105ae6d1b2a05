-- Main by itself, twice: where its open reads are answered alike, its instructions are alike.
use Rattle.std.proofs.Common.{◌≡◌, ℕ, suc, ◌<◌, ◌≤◌, Bool, true, false, cond, eqb, List, [], ◌∷◌, map, length, Some, sym, refl, ap, ◌∙◌, ap₂, ⊎_elim, le_of_suc-le-suc, eq-or-lt_of_le, arith, eq-eqb, ne_eqb, eqb-true}
use native.Mathlib.Decide.{dec_le}
use lib.ListN.{length-map}
use Rattle.machine.specs.Parts.{Action, registers_after}
use Rattle.claims.specs.Interrupts.{nth}
use Rattle.claims.proofs.Views.{View, opens, answered, wants, main_step}
use Rattle.claims.proofs.Buses.{by}
use Rattle.claims.proofs.Runs.{Shown, store_asked, view_after, reads_of, shown_of}

-- a list's n-th from opening is one of the list's elements
pub nth_below : {A : Type 0} (n : ℕ) (xs : List A) (x : A) → nth n xs ≡ Some x → n < length xs
nth_below n [] x e = absurd (let no : ◌≡◌ {A = ℕ} 0 1 = cc in omega arith)
nth_below n (y ∷ ys) x e = by (eqb n (length ys)) (λ h. omega (arith, eqb-true n (length ys) h)) (λ h. let t : nth n ys ≡ Some x = rw h at e in omega (arith, nth_below n ys x t))

pub nth_more : {A : Type 0} (n : ℕ) (y : A) (xs : List A) (x : A) → nth n xs ≡ Some x → nth n (y ∷ xs) ≡ Some x
nth_more n y xs x e = let below = nth_below n xs x e in rw (ne_eqb n (length xs) (omega arith)) e

pub nth_less : {A : Type 0} (n : ℕ) (y : A) (xs : List A) (x : A) → n < length xs → nth n (y ∷ xs) ≡ Some x → nth n xs ≡ Some x
nth_less n y xs x below e = rw (ne_eqb n (length xs) (omega arith)) at e

nth_last : {A : Type 0} (y : A) (xs : List A) → nth (length xs) (y ∷ xs) ≡ Some y
nth_last y xs = rw (eq-eqb (length xs) (length xs) refl)

pub nth_map : {A B : Type 0} (f : A → B) (n : ℕ) (xs : List A) (x : A) → nth n xs ≡ Some x → nth n (map f xs) ≡ Some (f x)
nth_map f n [] x e = absurd (let no : ◌≡◌ {A = ℕ} 0 1 = cc in omega arith)
nth_map {B = B} f n (y ∷ ys) x e =
    by (eqb n (length ys))
    (λ h. rw (length-map ys f, h) (ap (λ (z : _). Some (f z)) (let t : Some y ≡ Some x = rw h at e in cc)))
    (λ h. rw (length-map ys f, h) (nth_map f n ys x (rw h at e)))

-- the answers are the same as far as both go
abbrev pub Agree : List ℕ → List ℕ → Type 0
Agree xs bs = (j a b : ℕ) → nth j xs ≡ Some a → nth j bs ≡ Some b → a ≡ b

flip : (xs bs : List ℕ) → Agree xs bs → Agree bs xs
flip xs bs agree = λ j a b e f. sym (agree j b a f e)

fewer : (o : Bool) (a : ℕ) (xs bs : List ℕ) → Agree (cond o (a ∷ xs) xs) bs → Agree xs bs
fewer true a xs bs agree = λ j x y e f. agree j x y (nth_more j a xs x e) f
fewer false a xs bs agree = agree

module _ (code : ℕ → Action) (guard : ℕ → Bool) (start : View) where
  same_answer : (v : View) (a b : ℕ) → (opens guard (wants code guard v) ≡ true → a ≡ b) → answered guard (wants code guard v) v.cells a ≡ answered guard (wants code guard v) v.cells b
  same_answer v a b e = by (opens guard (wants code guard v)) (λ o. rw o (e o)) (λ o. rw o)

  same_next : (v : View) (a b : ℕ) → (opens guard (wants code guard v) ≡ true → a ≡ b) → main_step code guard v a ≡ main_step code guard v b
  same_next v a b e =
      let k = same_answer v a b e in
      λ i. record { pc = (main_step code guard v a).pc; flags = (main_step code guard v a).flags; registers = registers_after (code v.pc).result (k i) v.flags v.registers; cells = (main_step code guard v a).cells; words = (main_step code guard v a).words }

  -- main's first instructions, as many on each side
  pub record Together (h k : List ℕ) : Type 0 where
    pub reads : reads_of code guard start h ≡ reads_of code guard start k
    pub views : view_after code guard start h ≡ view_after code guard start k
    pub shows : shown_of code guard start h ≡ shown_of code guard start k

  reads_more : (v : View) (a b : ℕ) (xs : List ℕ) → (opens guard (wants code guard v) ≡ true → a ≡ b) → cond (opens guard (wants code guard v)) (a ∷ xs) xs ≡ cond (opens guard (wants code guard v)) (b ∷ xs) xs
  reads_more v a b xs e = by (opens guard (wants code guard v)) (λ o. rw o (ap (λ (x : ℕ). x ∷ xs) (e o))) (λ o. rw o)

  one_more : (h k : List ℕ) (a b : ℕ) → Together h k → Agree (reads_of code guard start (a ∷ h)) (reads_of code guard start (b ∷ k)) → Together (a ∷ h) (b ∷ k)
  one_more h k a b t agree =
      let v = view_after code guard start h in
      let xs = reads_of code guard start h in
      let alike : opens guard (wants code guard v) ≡ true → a ≡ b = λ o. agree (length xs) a b (rw o (nth_last a xs)) (rw (← t.views, o, ← t.reads) (nth_last b xs)) in
      let on : main_step code guard v a ≡ main_step code guard (view_after code guard start k) b = same_next v a b alike ∙ ap (λ (u : View). main_step code guard u b) t.views in
      record {
        reads = reads_more v a b xs alike ∙ ap₂ (λ (u : View) (l : List ℕ). cond (opens guard (wants code guard u)) (b ∷ l) l) t.views t.reads;
        views = on;
        shows = ap₂ (λ (s : Shown) (l : List Shown). s ∷ l) (λ i. record { address = (t.views i).pc; store = store_asked (wants code guard (t.views i)); after = on i }) t.shows;
      }

  together : (h k : List ℕ) → length h ≡ length k → Agree (reads_of code guard start h) (reads_of code guard start k) → Together h k
  together [] [] e agree = record { reads = refl; views = refl; shows = refl }
  together [] (b ∷ k) e agree = absurd (omega arith)
  together (a ∷ h) [] e agree = absurd (omega arith)
  together (a ∷ h) (b ∷ k) e agree =
      one_more h k a b (together h k (omega arith) (flip _ _ (fewer _ b _ _ (flip _ _ (fewer _ a _ _ agree))))) agree

  length_shown : (h : List ℕ) → length (shown_of code guard start h) ≡ length h
  length_shown [] = refl
  length_shown (a ∷ h) = ap suc (length_shown h)

  longer : (n : ℕ) (x y : Shown) (h k : List ℕ) → length k ≤ length h → Agree (reads_of code guard start h) (reads_of code guard start k) → nth n (shown_of code guard start h) ≡ Some x → nth n (shown_of code guard start k) ≡ Some y → x ≡ y
  longer n x y [] k le agree e f = cc
  longer n x y (a ∷ h) k le agree e f =
      ⊎_elim
      (λ (same : length k ≡ suc (length h)). let t = (together (a ∷ h) k (sym same) agree).shows in let g : Some x ≡ Some y = sym e ∙ ap (nth n) t ∙ f in cc)
      (λ (less : length k < suc (length h)). longer n x y h k (le_of_suc-le-suc less) (fewer _ a _ _ agree) (nth_less n _ (shown_of code guard start h) x (omega (arith, nth_below n _ y f, length_shown h, length_shown k)) e) f)
      (eq-or-lt_of_le le)

  pub alike : (n : ℕ) (x y : Shown) (h k : List ℕ) → Agree (reads_of code guard start h) (reads_of code guard start k) → nth n (shown_of code guard start h) ≡ Some x → nth n (shown_of code guard start k) ≡ Some y → x ≡ y
  alike n x y h k agree e f = elim (dec_le (length k) (length h)) [ yes le ↦ longer n x y h k le agree e f | no more ↦ sym (longer n y x k h (omega arith) (flip _ _ agree) f e) ]
