use Rattle.std.proofs.Common.{◌∙◌}
use Rattle.mc_aes.proofs.AesLemmas.{aes_encipher_is}
use Rattle.mc_aes.proofs.aes_encipher.Goals as goal

pub returns : goal.returns
returns c = c.store.ensures ∙ aes_encipher_is c.args.key.now c.args.block.now _ _ _ c.round_keys.ensures c.load.ensures c.encipher_with.ensures
