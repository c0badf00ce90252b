-- Choices of the values of bytes, as the definition has them.
use Rattle.std.specs.Prelude.{◌≡◌, ℕ, List, ◌∷◌, map, Option, Some, None}
use Rattle.prove_facts.specs.model_prove.specs.Facts.{Facts}
use Rattle.prove_facts.specs.model_prove.specs.Splits as splits
use Rattle.prove_steps.specs.declared.choices.Choice.{Choice}
use Rattle.prove_steps.specs.declared.choices.Choices.{Choices}
use Rattle.prove_steps.specs.declared.choices.Choices.TheVariants.{Few, Many}

-- a choice
abbrev pub choice_of : Choice → splits.Choice
choice_of c = c.bytes.items

-- some choices
abbrev pub choices_of : List Choice → List splits.Choice
choices_of cs = map choice_of cs

-- choices with a value of one byte before each
abbrev pub headed_by : ℕ → ℕ → List splits.Choice → List splits.Choice
headed_by a v cs = map (λ c. (a, v) ∷ c) cs

-- the choices are all combinations of the values of some bytes, if there are few of them
abbrev pub ChoicesAre : Facts → List ℕ → Choices → Type 0
ChoicesAre f places (Few cs) = splits.few_combinations f places ≡ Some (choices_of cs.items)
ChoicesAre f places Many = splits.few_combinations f places ≡ None

-- the choices, if they are few
abbrev pub choices_value : Choices → Option (List splits.Choice)
choices_value (Few cs) = Some (choices_of cs.items)
choices_value Many = None
