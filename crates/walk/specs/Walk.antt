-- Situations, and how words lead from one to another. A situation is an address and the list of return addresses, the newest first.
use Rattle.std.specs.Prelude.{◌≡◌, ℕ, ◌+◌, ◌%◌, ◌<◌, ◌≤◌, ◌⊎◌, List, [], ◌∷◌, length, Some, None, Option, slice_index_or}
use Rattle.walk.specs.declared.flow.Flow.{Flow}
use Rattle.walk.specs.declared.flow.Flow.TheVariants.{Next, Branch, Jump, Call, Return, Nowhere}

-- the next address: 255 is followed by 0
abbrev pub after : ℕ → ℕ
after at = (at + 1) % 256

-- how the word at each address leads on
abbrev pub Graph : Type 0
Graph = ℕ → Flow

-- the graph of the words in a row: past the last nothing leads on
abbrev pub graph : List Flow → Graph
graph flows at = slice_index_or flows at Nowhere

-- such a word at a leads to b, and leaves the list as it is
abbrev pub Goes : Flow → ℕ → ℕ → Type 0
Goes Next a b = b ≡ after a
Goes (Branch t) a b = (b ≡ after a) ⊎ (b ≡ t)
Goes (Jump t) a b = b ≡ t
Goes (Call t) a b = ⊥
Goes Return a b = ⊥
Goes Nowhere a b = ⊥

-- a situation leads to another: along its word, into a call, which adds the next address to the list, or back to the newest address
pub data Leads (p : Graph) : ℕ → List ℕ → ℕ → List ℕ → Type 0 where
  goes : {a b : ℕ} {l : List ℕ} → Goes (p a) a b → Leads p a l b l
  calls : {a t : ℕ} {l : List ℕ} → p a ≡ Call t → Leads p a l t (after a ∷ l)
  returns : {a r : ℕ} {l : List ℕ} → p a ≡ Return → Leads p a (r ∷ l) r l

-- the situations that the walk from a start reaches
pub data Reaches (p : Graph) (start : ℕ) : ℕ → List ℕ → Type 0 where
  begin : Reaches p start start []
  on : {a b : ℕ} {l m : List ℕ} → Reaches p start a l → Leads p a l b m → Reaches p start b m

-- d is the length of the longest list reached
pub record Longest (p : Graph) (start d : ℕ) : Type 0 where
  pub found : (a : ℕ) × (l : List ℕ) × Reaches p start a l × (length l ≡ d)
  pub most : (a : ℕ) (l : List ℕ) → Reaches p start a l → length l ≤ d

-- a list longer than the limit is reached
abbrev pub Beyond : Graph → ℕ → ℕ → Type 0
Beyond p start limit = (a : ℕ) × (l : List ℕ) × Reaches p start a l × (limit < length l)

-- the depth of a walk, if it is within the limit
abbrev pub Deepest : Graph → ℕ → ℕ → Option ℕ → Type 0
Deepest p start limit (Some d) = (d ≤ limit) × Longest p start d
Deepest p start limit None = Beyond p start limit
