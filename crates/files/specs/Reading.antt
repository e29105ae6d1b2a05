-- What a reading of tokens answers.
use Rattle.std.specs.Prelude.{◌≡◌, ℕ, List, ◌∷◌, ◌++◌, map, Some, None, Ok, Err, vec_items, string_bytes, Option, Result, Vec}
use Rattle.files.specs.Texts.{Token}
use Rattle.files.specs.Wording.{shown_token}
use Rattle.files.specs.declared.fault.Digits.{Digits}
use Rattle.files.specs.declared.fault.Fault.{Fault}
use Rattle.files.specs.declared.fault.Fault.TheVariants.{Malformed, HalfWord, Memory}

module _ {W : Type 0} (value : List ℕ → Option W) where
  -- each token is a word, and these are the words in their order
  abbrev pub AreWords : List Token → List W → Type 0
  AreWords ts ws = map (λ t. value t.bytes) ts ≡ map Some ws

  -- the token is the first that is no word
  pub record FirstFault (ts : List Token) (t : Token) : Type 0 where
    pub before : List Token
    pub words : List W
    pub after : List Token
    pub cut : ts ≡ before ++ t ∷ after
    pub good : AreWords before words
    pub bad : value t.bytes ≡ None

  -- a fault has the line of the first token that is no word, and shows it; memory may fail at any time
  abbrev pub Faults : Digits → List Token → Fault → Type 0
  Faults digits ts (Malformed line width found) = (t : Token) × FirstFault ts t × (line ≡ t.line) × (width ≡ digits) × (string_bytes found ≡ shown_token t.bytes)
  Faults digits ts (HalfWord n) = ⊥
  Faults digits ts Memory = Unit {0}

  -- the word of one token, or a fault that shows the token, which is no word; memory may fail
  abbrev pub IsRead : Digits → Token → Result W Fault → Type 0
  IsRead digits t (Ok w) = value t.bytes ≡ Some w
  IsRead digits t (Err (Malformed line width found)) = (value t.bytes ≡ None) × (line ≡ t.line) × (width ≡ digits) × (string_bytes found ≡ shown_token t.bytes)
  IsRead digits t (Err (HalfWord n)) = ⊥
  IsRead digits t (Err Memory) = Unit {0}

  -- the words of all tokens, or a fault
  abbrev pub Reads : {Z : Type 0} → Digits → List Token → Result (Vec W Z) Fault → Type 0
  Reads digits ts (Ok v) = AreWords ts (vec_items v)
  Reads digits ts (Err f) = Faults digits ts f

  -- the words of all tokens are added at the end, or a fault
  abbrev pub Adds : {T : Type 0} → Digits → List Token → List W → Result T Fault → List W → Type 0
  Adds digits ts was (Ok x) now = map Some now ≡ map Some was ++ map (λ t. value t.bytes) ts
  Adds digits ts was (Err f) now = Faults digits ts f
