use Rattle.mc_aes.specs.State.{state_bytes}
use Rattle.mc_aes.proofs.KeysLemmas.{next_key_is}
use Rattle.mc_aes.proofs.keys.next_key.Goals as goal

pub returns : goal.returns
unfolding state_bytes
returns c = next_key_is c.args.key c.args.constant _ c.changed.ensures
