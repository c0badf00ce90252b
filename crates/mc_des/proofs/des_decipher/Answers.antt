use Rattle.std.proofs.Common.{◌∙◌}
use Rattle.mc_des.proofs.DesLemmas.{des_decipher_is}
use Rattle.mc_des.proofs.des_decipher.Goals as goal

pub returns : goal.returns
returns c = c.to_be_bytes.ensures ∙ des_decipher_is c.args.key.now c.args.block.now _ _ _ _ _ c.word.ensures c.word-2.ensures c.round_keys.ensures c.reversed-keys.ensures c.with_keys.ensures
