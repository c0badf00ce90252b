-- Facts of one value apart from the others.
use Rattle.std.specs.Prelude.{◌≡◌, ℕ, List, [], ◌∷◌, map, None, ⊤}
use Rattle.model_prove.specs.Sets.{Set}
use Rattle.model_prove.specs.Facts as known
use Rattle.prove_facts.specs.declared.packed.One.{One}

-- the fact that a byte has one value
abbrev pub one_of : One → ℕ × Set
one_of o = (o.at, o.value ∷ [])

-- facts of one value, as addresses and sets
abbrev pub ones_of : List One → known.Facts
ones_of os = map one_of os

-- facts among others, all in the order of their addresses
abbrev pub among : known.Facts → known.Facts → known.Facts
among [] f = f
among (e ∷ es) f = known.with_fact e (among es f)

-- no byte has a fact in both
abbrev pub AreApart : known.Facts → known.Facts → Type 0
AreApart [] f = ⊤
AreApart (e ∷ es) f = (known.fact_at f e.0 ≡ None) × AreApart es f
