use Rattle.mc_aes.proofs.StateLemmas.{state_added}
use Rattle.mc_aes.proofs.state.add.Goals as goal

pub returns : goal.returns
returns c = state_added c.args.s c.args.key
