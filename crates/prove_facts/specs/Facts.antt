-- Facts as the definition has them: addresses and sets. A byte without a fact has any value.
use Rattle.std.specs.Prelude.{◌≡◌, ℕ, suc, ◌<◌, ◌≤◌, Bool, false, cond, ◌==◌, List, [], ◌∷◌, map, ⊤}
use Rattle.model_prove.specs.Sets.{Set, is_full}
use Rattle.model_prove.specs.Facts as known
use Rattle.prove_facts.specs.declared.facts.Fact.{Fact}
use Rattle.prove_facts.specs.Sets.{set_of}

-- a fact, as an address and a set
abbrev pub fact_of : Fact → ℕ × Set
fact_of e = (e.at, set_of e.values)

-- facts, as addresses and sets
abbrev pub facts_of : List Fact → known.Facts
facts_of f = map fact_of f

-- The addresses are strictly ascending, none below a number, and no set is full.
abbrev pub AreSparse : ℕ → known.Facts → Type 0
AreSparse low [] = ⊤
AreSparse low (e ∷ f) = (low ≤ e.0) × (is_full e.1 ≡ false) × AreSparse (suc e.0) f

-- each address is below a number
abbrev pub AreBelow : ℕ → known.Facts → Type 0
AreBelow high [] = ⊤
AreBelow high (e ∷ f) = (e.0 < high) × AreBelow high f

-- each address is a number or above it
abbrev pub AreFrom : ℕ → known.Facts → Type 0
AreFrom low [] = ⊤
AreFrom low (e ∷ f) = (low ≤ e.0) × AreFrom low f

-- whether the first fact is one of this address
abbrev pub starts_at : ℕ → known.Facts → Bool
starts_at a [] = false
starts_at a (e ∷ f) = e.0 == a

-- a fact alone, or none if it says nothing
abbrev pub fact_alone : ℕ × Set → known.Facts
fact_alone e = cond (is_full e.1) [] (e ∷ [])

-- from the first of some facts on, other facts have those of the list
abbrev pub Agree : known.Facts → known.Facts → known.Facts → Type 0
Agree [] rest f = ⊤
Agree (e ∷ more) rest f = (a : ℕ) → e.0 ≤ a → known.fact_at rest a ≡ known.fact_at f a
