use Rattle.std.proofs.Common.{◌∙◌}
use Rattle.mc_aes.proofs.AesLemmas.{aes_decipher_is}
use Rattle.mc_aes.proofs.aes_decipher.Goals as goal

pub returns : goal.returns
returns c = c.store.ensures ∙ aes_decipher_is c.args.key.now c.args.block.now _ _ _ c.round_keys.ensures c.load.ensures c.decipher_with.ensures
