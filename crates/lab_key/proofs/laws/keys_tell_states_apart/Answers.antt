use Rattle.lab_key.proofs.SameKeys.{key_same}
use Rattle.lab_key.proofs.laws.keys_tell_states_apart.Goals as goal

pub returns : goal.returns
returns c = key_same
