use Rattle.lab_key.proofs.SameStates.{state_same}
use Rattle.lab_key.proofs.laws.kept_states_are_states.Goals as goal

pub returns : goal.returns
returns c = state_same
