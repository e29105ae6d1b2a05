-- Words collected token by token.
use Rattle.std.proofs.Common.{◌≡◌, ℕ, ◌+◌, List, [], ◌∷◌, ◌++◌, map, length, take, drop, Some, Err, Option, sym, refl, ap, ◌∙◌, subst, append_assoc}
use Rattle.std.specs.Iterator.{Yields}
use Rattle.std.proofs.lemmas.Iterator.{YieldsList}
use Rattle.std.proofs.lemmas.Iterator.Consumers.{YieldsList-so_far, YieldsList-turn}
use Rattle.std.proofs.lemmas.List.{map-append, drop_more, take-append-drop}
use Rattle.std.proofs.lemmas.Grind.{flat_map-append}
use Rattle.files.specs.Texts.{Token, token_at, line_tokens, tokens_of}
use Rattle.files.specs.Reading.{AreWords, Faults, IsRead}
use Rattle.files.specs.declared.fault.Digits.{Digits}
use Rattle.files.specs.declared.fault.Fault.{Fault}
use Rattle.files.specs.declared.fault.Fault.TheVariants.{Malformed, HalfWord, Memory}

-- the item that a loop has in hand stands behind those that it had
pub in_hand : {S A B : Type 0} {steps : S → Option A → S → Type 0} {v : A → B} {s : S} {all : List B} (road : YieldsList steps v s all) (xs : List A) (t u : S) (x : A) → Yields steps s xs t → steps t (Some x) u → all ≡ map v xs ++ v x ∷ drop (length xs + 1) all
in_hand {v = v} {all = all} road xs t u x had next =
    let turn = YieldsList-turn road xs t had (Some x) u x refl next in
    sym (take-append-drop (length xs) all) ∙
    ap (λ l. take (length xs) all ++ l) (drop_more all (length xs) (v x) turn.0) ∙
    (λ i. sym (YieldsList-so_far road xs t had) i ++ sym turn.1 i ∷ drop (length xs + 1) all)

-- what stands behind the words that were there is words too
added_words : {W : Type 0} (was now : List W) (os : List (Option W)) → map {B = Option W} Some now ≡ map Some was ++ os → os ≡ map Some (drop (length was) now)
added_words [] now os e = sym e
added_words (w ∷ was) [] os e = cc
added_words {W} (w ∷ was) (x ∷ now) os e = let tail : map {B = Option W} Some now ≡ map Some was ++ os = cc in added_words was now os tail

module _ {W : Type 0} (value : List ℕ → Option W) (digits : Digits) where
  are_words_append : (ts us : List Token) (ws vs : List W) → AreWords value ts ws → AreWords value us vs → AreWords value (ts ++ us) (ws ++ vs)
  are_words_append ts us ws vs p q =
      map-append (λ (t : Token). value t.bytes) ts us ∙ ap (λ l. l ++ map (λ (t : Token). value t.bytes) us) p ∙ ap (λ l. map Some ws ++ l) q ∙ sym (map-append Some ws vs)

  -- the first fault of some tokens is the first of all where those before are words
  fault_after : (ts us rest : List Token) (ws : List W) (f : Fault) → AreWords value ts ws → Faults value digits us f → Faults value digits (ts ++ (us ++ rest)) f
  fault_after ts us rest ws (Malformed line width found) words (t, first, at_line, of_width, as_shown) = (
    t,
    record {
      before = ts ++ first.before;
      words = ws ++ first.words;
      after = first.after ++ rest;
      cut = ap (λ l. ts ++ (l ++ rest)) first.cut ∙ simp append_assoc;
      good = are_words_append ts first.before ws first.words words first.good;
      bad = first.bad;
    },
    at_line,
    of_width,
    as_shown,
  )
  fault_after ts us rest ws (HalfWord n) words none = none
  fault_after ts us rest ws Memory words fault = tt

  token_fault : (t : Token) (f : Fault) → IsRead value digits t (Err f) → Faults value digits (t ∷ []) f
  token_fault t (Malformed line width found) (bad, at_line, of_width, as_shown) =
      (t, record { before = []; words = []; after = []; cut = refl; good = refl; bad = bad }, at_line, of_width, as_shown)
  token_fault t (HalfWord n) none = none
  token_fault t Memory fault = tt

  -- the token in hand is the first of its line that is no word
  pub line_fault : (n : ℕ) (all ps : List (List ℕ)) (p : List ℕ) (rest : List (List ℕ)) (was now : List W) (f : Fault) → all ≡ ps ++ p ∷ rest → map Some now ≡ map Some was ++ map (λ (t : Token). value t.bytes) (map (token_at n) ps) → IsRead value digits (token_at n p) (Err f) → Faults value digits (map (token_at n) all) f
  line_fault n all ps p rest was now f cut added fault =
      subst (λ ts. Faults value digits ts f) (sym (ap (map (token_at n)) cut ∙ map-append (token_at n) ps (p ∷ rest)))
      (fault_after (map (token_at n) ps) (token_at n p ∷ []) (map (token_at n) rest) _ f (added_words was now _ added) (token_fault (token_at n p) f fault))

  -- the first fault of the line in hand is the first of the text
  pub text_fault : (all ls : List (ℕ × List ℕ)) (l : ℕ × List ℕ) (rest : List (ℕ × List ℕ)) (now : List W) (f : Fault) → all ≡ ls ++ l ∷ rest → map Some now ≡ map (λ (t : Token). value t.bytes) (tokens_of ls) → Faults value digits (line_tokens (l.0 + 1) l.1) f → Faults value digits (tokens_of all) f
  text_fault all ls l rest now f cut read fault =
      subst (λ ts. Faults value digits ts f) (sym (ap tokens_of cut ∙ flat_map-append (λ l. line_tokens (l.0 + 1) l.1) ls (l ∷ rest)))
      (fault_after (tokens_of ls) (line_tokens (l.0 + 1) l.1) (tokens_of rest) now f (sym read) fault)
