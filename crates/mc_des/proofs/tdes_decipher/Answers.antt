use Rattle.std.proofs.Common.{◌∙◌}
use Rattle.mc_des.proofs.DesLemmas.{tdes_decipher_is, second_half}
use Rattle.mc_des.proofs.tdes_decipher.Goals as goal

pub returns : goal.returns
returns c =
    c.to_be_bytes.ensures ∙ tdes_decipher_is c.args.key.now c.args.block.now _ _ _ _ _ _ _ c.word.ensures (c.word-2.ensures ∙ second_half c.args.key.now c.told-key) c.word-3.ensures
    c.round_keys.ensures c.reversed-outer.ensures c.round_keys-inner.ensures c.thrice.ensures
