-- For which addresses the rules of the search ask.
use Rattle.std.specs.Prelude.{◌≡◌, ℕ, ◌-◌, Bool, true, false, ◌&&◌, ◌||◌, ◌⊎◌, List}
use Rattle.walk.specs.declared.flow.Flow.{Flow}
use Rattle.walk.specs.declared.flow.Flow.TheVariants.{Next, Branch, Jump, Call, Return, Nowhere}
use Rattle.walk.specs.declared.addresses.AddressSet.{AddressSet}
use Rattle.walk.specs.Sets.{has, Has}
use Rattle.walk.specs.Walk.{after, graph}

-- whether a frame returns from such a word at a, if it does so from the addresses in s
abbrev pub returns_of : AddressSet → ℕ → Flow → Bool
returns_of s a Nowhere = false
returns_of s a Next = has s (after a)
returns_of s a (Branch t) = has s (after a) || has s t
returns_of s a (Jump t) = has s t
returns_of s a (Call t) = has s t && has s (after a)
returns_of s a Return = true

-- such a word at a leads to b within its frame, over a call that returns, if r are the addresses from which a frame returns
abbrev pub Follows : AddressSet → Flow → ℕ → ℕ → Type 0
Follows r Nowhere a b = ⊥
Follows r Next a b = b ≡ after a
Follows r (Branch t) a b = (b ≡ after a) ⊎ (b ≡ t)
Follows r (Jump t) a b = b ≡ t
Follows r (Call t) a b = Has r t × (b ≡ after a)
Follows r Return a b = ⊥

-- asks for the address that is as far from the last as a is from the first, if a frame returns from there
abbrev pub AsksReturns : List Flow → AddressSet → ℕ → ℕ → Type 0
AsksReturns flows s a b = (returns_of s (255 - a) (graph flows (255 - a)) ≡ true) × (b ≡ 255 - a)

-- asks for where an address in the set leads within its frame
abbrev pub AsksSteps : List Flow → AddressSet → AddressSet → ℕ → ℕ → Type 0
AsksSteps flows r s a b = Has s a × Follows r (graph flows a) a b

-- asks for that, and for what an address in the set calls
abbrev pub AsksDeep : List Flow → AddressSet → AddressSet → ℕ → ℕ → Type 0
AsksDeep flows r s a b = Has s a × (Follows r (graph flows a) a b ⊎ (graph flows a ≡ Call b))

-- asks for what an address of another set calls
abbrev pub AsksCalls : List Flow → AddressSet → AddressSet → ℕ → ℕ → Type 0
AsksCalls flows from s a b = Has from a × (graph flows a ≡ Call b)
