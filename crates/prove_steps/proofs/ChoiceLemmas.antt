-- The choices of one byte, value by value.
use Rattle.std.proofs.Common.{◌≡◌, ◌∙◌, ap, sym, arith}
use Rattle.std.specs.Prelude.{ℕ, suc, ◌+◌, ◌-◌, ◌<◌, ◌≤◌, Bool, List, [], ◌∷◌, ◌++◌, filter, map}
use Rattle.std.proofs.lemmas.Grind.{flat_map-append}
use Rattle.std.proofs.lemmas.List.{append_assoc, append-nil}
use Rattle.std.proofs.lemmas.List.Elements.{filter-append}
use Rattle.prove_facts.specs.model_prove.specs.Sets.{Set, numbers_from}
use Rattle.prove_facts.specs.model_prove.specs.Splits.{Choice, before_choices}

-- the values from one on are this one and those after it
values_next : (v : ℕ) → v < 256 → numbers_from v (256 - v) ≡ v ∷ numbers_from (v + 1) (256 - (v + 1))
values_next v below = ap (λ n. numbers_from v n) (left v below) ∙ ap (λ k. v ∷ numbers_from k (256 - (v + 1))) (next v)
  where
    left : (v : ℕ) → v < 256 → 256 - v ≡ suc (256 - (v + 1))
    left v below = omega arith

    next : (v : ℕ) → suc v ≡ v + 1
    next v = omega arith

-- the choices of two lists of values
both : (a : ℕ) (s t : Set) (cs : List Choice) → before_choices a (s ++ t) cs ≡ before_choices a s cs ++ before_choices a t cs
both a s t cs = flat_map-append (λ v. map (λ c. (a, v) ∷ c) cs) s t

-- the choices of the values from one on are those of this one and of those after it
pub value_first : (p : ℕ → Bool) (a v : ℕ) (cs : List Choice) → v < 256
    → before_choices a (filter p (numbers_from v (256 - v))) cs
    ≡ before_choices a (filter p (v ∷ [])) cs ++ before_choices a (filter p (numbers_from (v + 1) (256 - (v + 1)))) cs
value_first p a v cs below =
    ap (λ s. before_choices a (filter p s) cs) (values_next v below)
    ∙ ap (λ s. before_choices a s cs) (filter-append p (v ∷ []) (numbers_from (v + 1) (256 - (v + 1))))
    ∙ both a (filter p (v ∷ [])) (filter p (numbers_from (v + 1) (256 - (v + 1)))) cs

-- the choices of the values after one, with its own among those so far
pub value_step : (p : ℕ → Bool) (a v : ℕ) (cs old new all : List Choice) → v < 256 → new ≡ old ++ before_choices a (filter p (v ∷ [])) cs
    → old ++ before_choices a (filter p (numbers_from v (256 - v))) cs ≡ all
    → new ++ before_choices a (filter p (numbers_from (v + 1) (256 - (v + 1)))) cs ≡ all
value_step p a v cs old new all below added so =
    ap (λ xs. xs ++ rest) added
    ∙ append_assoc old (before_choices a (filter p (v ∷ [])) cs) rest
    ∙ ap (λ xs. old ++ xs) (sym (value_first p a v cs below))
    ∙ so
  where
    rest : List Choice
    rest = before_choices a (filter p (numbers_from (v + 1) (256 - (v + 1)))) cs

-- after the last value no choices are left
pub value_last : (p : ℕ → Bool) (a v : ℕ) (cs old all : List Choice) → 256 ≤ v → old ++ before_choices a (filter p (numbers_from v (256 - v))) cs ≡ all
    → old ≡ all
value_last p a v cs old all end so =
    sym (append-nil old) ∙ ap (λ n. old ++ before_choices a (filter p (numbers_from v n)) cs) (sym (none v end)) ∙ so
  where
    none : (v : ℕ) → 256 ≤ v → 256 - v ≡ 0
    none v end = omega arith
