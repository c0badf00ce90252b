-- What is checked of places and of beginnings of frames.
use Rattle.std.specs.Prelude.{◌≡◌, ℕ, true, List, length, vec_len}
use Rattle.std.specs.List.{AllByRecursion}
use Rattle.mc_isa.specs.model_machine.specs.Primitives.{Then}
use Rattle.prove_facts.specs.model_prove.specs.Arrivals.{Setting, AtPlace}
use Rattle.prove_facts.specs.model_prove.specs.Keys as known
use Rattle.prove_facts.specs.model_prove.specs.Steps.{Spot, place_arrivals}
use Rattle.prove_sums.specs.model_sums.specs.Sums.{Sums, SumsTable}
use Rattle.prove_sums.specs.model_sums.specs.Closed as closed
use Rattle.prove_sums.specs.model_sums.specs.Closed.{all_pass, arrival_closed}
use Rattle.prove_arrivals.specs.declared.subject.Subject.{Subject}
use Rattle.prove_arrivals.specs.Subjects.{IsSubject, classes_in}
use Rattle.prove_keys.specs.declared.keys.PlaceKey.{PlaceKey}
use Rattle.prove_keys.specs.declared.known.PackedKnown.{PackedKnown}
use Rattle.prove_keys.specs.declared.tables.Tables.{Tables}
use Rattle.prove_keys.specs.Keys.{place_of}
use Rattle.prove_keys.specs.Known.{known_of}
use Rattle.prove_keys.specs.Tables.{tables_of}
use Rattle.lab_app_rules.specs.Sums.{AreSums}
use Rattle.prove_sum_steps.specs.declared.goals.Goal.{Goal}
use Rattle.prove_sum_steps.specs.declared.places.Stand.{Stand}
use Rattle.prove_sum_steps.specs.Tables.{IsGoal, goal_key, sums_in}

-- what is looked at is of a setting, whose allowances have these names
pub record IsStand (names : List (List ℕ)) (s : Setting) (t : Stand) : Type 0 where
  pub subject : IsSubject names s t.subject.now
  pub size : length names ≡ vec_len t.rules.now.allowances
  pub sums : AreSums s.rules t.rules.now

-- the table of sums
abbrev pub table_in : List (List ℕ) → Stand → SumsTable
table_in names t = sums_in names t.subject.now t.sums.now

-- other tables, with the names and the classes of a subject
abbrev pub near_in : List (List ℕ) → Subject → Tables → known.Tables
near_in names u near = tables_of names (classes_in u) u.sizes.fixed near

-- a place with what is known there
abbrev pub spot_with : List (List ℕ) → Subject → PlaceKey → PackedKnown → Spot
spot_with names u k p = record { key = place_of names (classes_in u) k; known = known_of k.registers.protected u.sizes.fixed p }

-- A table of sums has what some goals have, and each outcome of a place leads to one of them.
pub record AreGoals (names : List (List ℕ)) (s : Setting) (u : SumsTable) (j : Subject) (p : Spot) (list : List Goal) : Type 0 where
  pub goals : AllByRecursion (IsGoal names j u) list
  pub reached : (w : closed.Turn) (next : Then) (after : Sums) (k : known.Known)
      → all_pass (λ g. arrival_closed s u w next after (AtPlace (goal_key names j g) k)) list ≡ true
      → all_pass (arrival_closed s u w next after) (place_arrivals s p.key p.known) ≡ true
