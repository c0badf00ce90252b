-- Two kept states are equal exactly if they are one state of the definition.
use Rattle.std.specs.Prelude.{◌≡◌, ℕ, List}
use Rattle.law_explore_text.specs.law_explore.specs.States as model
use Rattle.law_explore_text.specs.law_explore.specs.States.{is_same_state}
use Rattle.lab_key.specs.declared.kept.Rosters.{Rosters}
use Rattle.lab_key.specs.declared.state.CardState.{CardState}
use Rattle.lab_key.proofs.SameStates.{state_same}
use Rattle.lab_search.specs.declared.trying.Laboratory.{Laboratory}
use Rattle.lab_search.specs.Kept.{is_equal, root_of, Kept}

-- two kept states are equal exactly if they are one state of the definition
pub kept_same : (lab : Laboratory) (r : Rosters) (names : List (List ℕ)) (s t : CardState) (c e : model.CardState)
    → Kept lab r names s c → Kept lab r names t e → is_equal s t ≡ is_same_state c e
kept_same lab r names s t c e h k = state_same (root_of lab) lab.budget names r s t c e h k
