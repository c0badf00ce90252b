use Rattle.mc_aes.proofs.StateLemmas.{stored}
use Rattle.mc_aes.proofs.state.store.Goals as goal

pub returns : goal.returns
returns c = stored c.args.s _ _ _ _ c.to_be_bytes.ensures c.to_be_bytes-2.ensures c.to_be_bytes-3.ensures c.to_be_bytes-4.ensures
