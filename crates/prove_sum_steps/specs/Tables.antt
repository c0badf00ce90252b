-- A table of sums beside the tables of facts, as the definition has it: what is known for sums at each place of theirs,
-- by its number.
use Rattle.std.specs.Prelude.{◌≡◌, ℕ, Bool, List, [], ◌∷◌, length, Some}
use Rattle.prove_facts.specs.model_prove.specs.Keys as known
use Rattle.prove_sums.specs.model_sums.specs.Sums.{SumsTable, sums_at}
use Rattle.prove_keys.specs.declared.keys.PlaceKey.{PlaceKey}
use Rattle.prove_keys.specs.Keys.{place_of}
use Rattle.prove_keys.specs.Tables.{IsWholePlace}
use Rattle.prove_arrivals.specs.declared.subject.Subject.{Subject}
use Rattle.prove_arrivals.specs.Subjects.{classes_in}
use Rattle.prove_sums.specs.declared.values.Sums.{Sums}
use Rattle.prove_sums.specs.Values.{sums_value}
use Rattle.prove_sum_steps.specs.declared.goals.Goal.{Goal}

-- what is known for sums at some places
abbrev pub sums_of : List (List ℕ) → List (List Bool) → List PlaceKey → List Sums → SumsTable
sums_of names classes [] us = []
sums_of names classes (k ∷ ks) [] = []
sums_of names classes (k ∷ ks) (u ∷ us) = (place_of names classes k, sums_value u) ∷ sums_of names classes ks us

-- what is known for sums at the places of a subject's tables
abbrev pub sums_in : List (List ℕ) → Subject → List Sums → SumsTable
sums_in names u sums = sums_of names (classes_in u) u.tables.now.places.keys sums

-- the place of a goal
abbrev pub goal_key : List (List ℕ) → Subject → Goal → known.PlaceKey
goal_key names u g = place_of names (classes_in u) g.key.now

-- the place of a goal is whole, and a table of sums has there what the goal has
pub record IsGoal (names : List (List ℕ)) (u : Subject) (t : SumsTable) (g : Goal) : Type 0 where
  pub whole : IsWholePlace (length names) (length (classes_in u)) g.key.now
  pub known : sums_at t (goal_key names u g) ≡ Some (sums_value g.sums.now)
