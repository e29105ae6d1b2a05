-- One answer fits an image and a sheet: two that fit agree.
use Rattle.std.proofs.Common.{◌≡◌, ℕ, ◌<◌, ◌⊎◌, List, length, get_or, Ok, Err, Result, sym, refl, ap, ◌∙◌, subst, inl, inr, arith}
use mathlib.Core.Path.{fun_ext}
use mathlib.Core.Bool.{false≢true}
use Rattle.std.proofs.lemmas.Bool.{cases_order}
use Rattle.refusal.specs.declared.refusal.Refusal.{Refusal}
use Rattle.refusal.specs.declared.refusal.Refusal.TheVariants.{ImageSize, SheetEnd, SheetWord, SheetRange, MainWord as main_word, MainReturn as main_return, MainRegister as main_register, HandlerWord as handler_word, HandlerReturn as handler_return, HandlerWrite as handler_write, Depth, Register, Port, Budget, BurnBuffer}
use Rattle.refusal.specs.Refusals.{number_of, place_of}
use Rattle.walk.specs.Walk.{Graph, Longest}
use Rattle.vetting.specs.declared.depths.Depths.{Depths}
use Rattle.vetting.specs.declared.rules.Rule.{Rule}
use Rattle.vetting.specs.declared.rules.Rule.TheVariants.{MainWord, MainReturn, MainRegister, HandlerWord, HandlerReturn, HandlerWrite}
use Rattle.vetting.specs.declared.sheet.Sheet.{Sheet}
use Rattle.vetting.specs.Sheets.{Ended, Fine, FineBelow, FirstBad, FirstImproper, FirstTurned, SheetRead, proper}
use Rattle.vetting.specs.Programs.{Program}
use Rattle.vetting.specs.Verdicts.{Broken, TooDeep, Accepted, FirstBroken, InOrder, Refused, Answered, Free, Agree, program_of, rule_number, image_size}
use Rattle.vetting.specs.Judging.{read_program, ProgramAnswered}

one_longest : (g : Graph) (start d e : ℕ) → Longest g start d → Longest g start e → d ≡ e
one_longest g start d e x y =
    let f = x.found in
    let h = y.found in
    let up = y.most f.0 f.1 f.2 in
    let down = x.most h.0 h.1 h.2 in
    omega (arith, f.3, h.3)

same_depths : (d e : Depths) → d.main ≡ e.main → d.handler ≡ e.handler → d.total ≡ e.total → d ≡ e
same_depths d e m h t = λ i. record { main = m i; handler = h i; total = t i }

module _ (p : Program) where
  one_acceptance : (d e : Depths) → Accepted p d → Accepted p e → d ≡ e
  one_acceptance d e x y =
      let m = one_longest _ _ _ _ x.main y.main in
      elim x.handler [
        | inl a ↦ elim y.handler [
          | inl b ↦ same_depths d e m (a.1 ∙ sym b.1) (omega (arith, a.2, b.2))
          | inr b ↦ absurd (a.0 b.0)
        ]
        | inr a ↦ elim y.handler [
          | inl b ↦ absurd (b.0 a.0)
          | inr b ↦
              let h = one_longest _ _ _ _ a.1 b.1 in
              same_depths d e m h (omega (arith, a.2, b.2))
        ]
      ]

  not_too_deep : (d : Depths) → Accepted p d → TooDeep p → ⊥
  not_too_deep d x (inl deep) =
      let within = x.main.most deep.0 deep.1 deep.2 in
      elim x.handler [
        | inl a ↦ let no : ⊥ = omega (arith, a.2, x.fits, deep.3) in no
        | inr a ↦ let no : ⊥ = omega (arith, a.2, x.fits, deep.3) in no
      ]
  not_too_deep d x (inr deep) =
      let lists = deep.1 in
      let inner = lists.3 in
      let within = x.main.most lists.0 lists.1 lists.2 in
      elim x.handler [
        | inl a ↦ a.0 deep.0
        | inr a ↦
            let within_handler = a.1.most inner.0 inner.1 inner.2 in
            let no : ⊥ = omega (arith, a.2, x.fits, inner.3) in
            no
      ]

  one_first : (r s : Rule) (a b : ℕ) → FirstBroken p r a → FirstBroken p s b → rule_number r ≡ rule_number s
  one_first r s a b x y =
      elim (cases_order (rule_number r) (rule_number s)) [
        | inl e ↦ e
        | inr o ↦ elim o [
          | inl lt ↦ absurd (y.first r a lt x.broken)
          | inr gt ↦ absurd (x.first s b gt y.broken)
        ]
      ]

module _ (image sheet : List ℕ) where
  abbrev p : Program
  p = program_of image sheet

  -- why a refusal of this number and place is due
  data Why : ℕ → ℕ → Type 0 where
    size : (length image ≡ image_size → ⊥) → Why 1 0
    end : length image ≡ image_size → (Ended sheet → ⊥) → Why 2 0
    word : {i : ℕ} → length image ≡ image_size → FirstImproper sheet i → Why 3 i
    range : {i : ℕ} → length image ≡ image_size → FirstTurned sheet i → Why 4 i
    rule : {a : ℕ} (r : Rule) → InOrder image sheet → FirstBroken p r a → Why (rule_number r) a
    depth : InOrder image sheet → ((r : Rule) (a : ℕ) → Broken p r a → ⊥) → TooDeep p → Why 11 0

  why : (r : Refusal) → Refused image sheet r → Why (number_of r) (place_of r)
  why ImageSize x = Why.size x
  why SheetEnd x = Why.end x.0 x.1
  why (SheetWord i) x = Why.word x.0 x.1
  why (SheetRange i) x = Why.range x.0 x.1
  why (main_word a) x = Why.rule MainWord x.0 x.1
  why (main_return a) x = Why.rule MainReturn x.0 x.1
  why (main_register a) x = Why.rule MainRegister x.0 x.1
  why (handler_word a) x = Why.rule HandlerWord x.0 x.1
  why (handler_return a) x = Why.rule HandlerReturn x.0 x.1
  why (handler_write a) x = Why.rule HandlerWrite x.0 x.1
  why Depth x = Why.depth x.0 x.1 x.2
  why Register x = absurd x
  why Port x = absurd x
  why Budget x = absurd x
  why BurnBuffer x = absurd x

  -- a word that is first not fine is so among any words that are fine below n
  not_fine : (i n : ℕ) → i < n → FineBelow sheet n → (Fine (get_or sheet i 0) → ⊥) → ⊥
  not_fine i n lt fine bad = bad (fine i lt)

  improper : {i : ℕ} → FirstImproper sheet i → Fine (get_or sheet i 0) → ⊥
  improper x f = false≢true (sym x.1 ∙ f.0)

  is_turned : {i : ℕ} → FirstTurned sheet i → Fine (get_or sheet i 0) → ⊥
  is_turned x f = false≢true (sym f.1 ∙ x.2)

  -- the first bad index is one
  one_bad : (i j : ℕ) → FirstBad sheet i → (Fine (get_or sheet i 0) → ⊥) → FirstBad sheet j → (Fine (get_or sheet j 0) → ⊥) → i ≡ j
  one_bad i j x bad y worse =
      elim (cases_order i j) [
        | inl e ↦ e
        | inr o ↦ elim o [ inl lt ↦ absurd (not_fine i j lt y.before bad) | inr gt ↦ absurd (not_fine j i gt x.before worse) ]
      ]

  no_improper : {i : ℕ} → InOrder image sheet → FirstImproper sheet i → ⊥
  no_improper {i} o x = not_fine i (length sheet) x.0.within o.fine (improper x)

  no_turned : {i : ℕ} → InOrder image sheet → FirstTurned sheet i → ⊥
  no_turned {i} o x = not_fine i (length sheet) x.0.within o.fine (is_turned x)

  word_or_range : {i j : ℕ} → FirstImproper sheet i → FirstTurned sheet j → ⊥
  word_or_range {i} {j} x y =
      let e = one_bad i j x.0 (improper x) y.0 (is_turned y) in
      false≢true (sym x.1 ∙ ap (λ (k : ℕ). proper (get_or sheet k 0)) e ∙ y.1)

  abbrev Same : ℕ → ℕ → ℕ → ℕ → Type 0
  Same n i m j = (n ≡ m) × ((i ≡ j) ⊎ Free n)

  free : (r : Rule) → Free (rule_number r)
  free r = grind arith

  same_why : {n i m j : ℕ} → Why n i → Why m j → Same n i m j
  same_why (Why.size a) (Why.size b) = (refl, inl refl)
  same_why (Why.size a) (Why.end b c) = absurd (a b)
  same_why (Why.size a) (Why.word b c) = absurd (a b)
  same_why (Why.size a) (Why.range b c) = absurd (a b)
  same_why (Why.size a) (Why.rule r o b) = absurd (a o.size)
  same_why (Why.size a) (Why.depth o b c) = absurd (a o.size)
  same_why (Why.end b c) (Why.size a) = absurd (a b)
  same_why (Why.end b c) (Why.end d e) = (refl, inl refl)
  same_why (Why.end b c) (Why.word d e) = absurd (c e.0.ended)
  same_why (Why.end b c) (Why.range d e) = absurd (c e.0.ended)
  same_why (Why.end b c) (Why.rule r o d) = absurd (c o.ended)
  same_why (Why.end b c) (Why.depth o d e) = absurd (c o.ended)
  same_why (Why.word d e) (Why.size a) = absurd (a d)
  same_why (Why.word d e) (Why.end b c) = absurd (c e.0.ended)
  same_why (Why.word d e) (Why.word f g) = (refl, inl (one_bad _ _ e.0 (improper e) g.0 (improper g)))
  same_why (Why.word d e) (Why.range f g) = absurd (word_or_range e g)
  same_why (Why.word d e) (Why.rule r o f) = absurd (no_improper o e)
  same_why (Why.word d e) (Why.depth o f g) = absurd (no_improper o e)
  same_why (Why.range d e) (Why.size a) = absurd (a d)
  same_why (Why.range d e) (Why.end b c) = absurd (c e.0.ended)
  same_why (Why.range d e) (Why.word f g) = absurd (word_or_range g e)
  same_why (Why.range d e) (Why.range f g) = (refl, inl (one_bad _ _ e.0 (is_turned e) g.0 (is_turned g)))
  same_why (Why.range d e) (Why.rule r o f) = absurd (no_turned o e)
  same_why (Why.range d e) (Why.depth o f g) = absurd (no_turned o e)
  same_why (Why.rule r o f) (Why.size a) = absurd (a o.size)
  same_why (Why.rule r o f) (Why.end b c) = absurd (c o.ended)
  same_why (Why.rule r o f) (Why.word d e) = absurd (no_improper o e)
  same_why (Why.rule r o f) (Why.range d e) = absurd (no_turned o e)
  same_why (Why.rule r o f) (Why.rule s u g) = (one_first p r s _ _ f g, inr (free r))
  same_why (Why.rule r o f) (Why.depth u g h) = absurd (g r _ f.broken)
  same_why (Why.depth o g h) (Why.size a) = absurd (a o.size)
  same_why (Why.depth o g h) (Why.end b c) = absurd (c o.ended)
  same_why (Why.depth o g h) (Why.word d e) = absurd (no_improper o e)
  same_why (Why.depth o g h) (Why.range d e) = absurd (no_turned o e)
  same_why (Why.depth o g h) (Why.rule r u f) = absurd (g r _ f.broken)
  same_why (Why.depth o g h) (Why.depth u k l) = (refl, inl refl)

  not_both : {n i : ℕ} (d : Depths) → InOrder image sheet → Accepted p d → Why n i → ⊥
  not_both d o x (Why.size a) = a o.size
  not_both d o x (Why.end b c) = c o.ended
  not_both d o x (Why.word b e) = no_improper o e
  not_both d o x (Why.range b e) = no_turned o e
  not_both d o x (Why.rule r u f) = x.rules r _ f.broken
  not_both d o x (Why.depth u g h) = not_too_deep p d x h

  pub one_answer : (r s : Result Depths Refusal) → Answered image sheet r → Answered image sheet s → Agree r s
  one_answer (Ok d) (Ok e) x y = one_acceptance p d e x.1 y.1
  one_answer (Ok d) (Err s) x y = not_both d x.0 x.1 (why s y)
  one_answer (Err r) (Ok e) x y = not_both e y.0 y.1 (why r x)
  one_answer (Err r) (Err s) x y = same_why (why r x) (why s y)

  -- whatever else is answered agrees
  pub no_other : (r s : Result Depths Refusal) → Answered image sheet s → Answered image sheet r → Agree r s
  no_other r s y x = one_answer r s x y

  -- what the walks answer of the program is the answer where the image and the sheet are in order
  from_program : InOrder image sheet → (r : Result Depths Refusal) → ProgramAnswered p r → Answered image sheet r
  from_program o (Ok d) x = (o, x)
  from_program o (Err ImageSize) x = absurd x
  from_program o (Err SheetEnd) x = absurd x
  from_program o (Err (SheetWord i)) x = absurd x
  from_program o (Err (SheetRange i)) x = absurd x
  from_program o (Err (main_word a)) x = (o, x)
  from_program o (Err (main_return a)) x = (o, x)
  from_program o (Err (main_register a)) x = (o, x)
  from_program o (Err (handler_word a)) x = (o, x)
  from_program o (Err (handler_return a)) x = (o, x)
  from_program o (Err (handler_write a)) x = (o, x)
  from_program o (Err Depth) x = (o, x.0, x.1)
  from_program o (Err Register) x = absurd x
  from_program o (Err Port) x = absurd x
  from_program o (Err Budget) x = absurd x
  from_program o (Err BurnBuffer) x = absurd x

  pub answered : (words : List ℕ) (s : Sheet) → words ≡ image → length image ≡ image_size → SheetRead sheet (Ok s) →
      (r : Result Depths Refusal) → ProgramAnswered (read_program words s) r → Answered image sheet r
  answered words s e long read r x =
      let o : InOrder image sheet = record { size = long; ended = read.0; fine = read.1 } in
      let same : read_program words s ≡ p = λ i. record { image = e i; ranges = fun_ext read.2.ranges i; handlers = fun_ext read.2.handlers i } in
      from_program o r (subst (λ (q : Program). ProgramAnswered q r) same x)
