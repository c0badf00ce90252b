-- When a state of an exploration that is kept is a state of the definition.
use Rattle.std.specs.Prelude.{◌≡◌, ℕ, Bool, List, map}
use Rattle.law_explore.specs.model_play.specs.Family.{is_running}
use Rattle.law_explore.specs.States as model
use Rattle.lab_key.specs.declared.kept.Rosters.{Rosters}
use Rattle.lab_key.specs.declared.state.CardState.{CardState}
use Rattle.lab_key.specs.contracts.state.CardStatePartialEq.TheImpl as card_state
use Rattle.lab_key.specs.Kept.{IsKeptCard}

-- A state that is kept is a state of the definition, on a device with this root, with a budget and with allowances of
-- these names, in order.
pub record IsKeptState (root : List (List ℕ)) (budget : ℕ) (names : List (List ℕ)) (r : Rosters) (s : CardState) (c : model.CardState) : Type 0 where
  pub card : IsKeptCard root r s.card c.base c.live
  pub runs : s.runs ≡ is_running c.live
  pub budget_is : c.budget ≡ budget
  pub amounts : s.allowances.items ≡ map (λ a. a.1) c.allowances
  pub names_are : map (λ a. a.0) c.allowances ≡ names

-- whether two states are equal, by the test of the code
abbrev pub card_state_eq : CardState → CardState → Bool
card_state_eq = (card_state.ghosts).eq
