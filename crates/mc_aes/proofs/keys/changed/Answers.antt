use Rattle.std.proofs.Common.{◌∙◌, ap}
use Rattle.std.proofs.lemmas.Nat.{xor_of_8}
use Rattle.model_machine.specs.Aes.{sub}
use Rattle.mc_aes.proofs.StateLemmas.{word_from}
use Rattle.mc_aes.proofs.KeysLemmas.{changed_is}
use Rattle.mc_aes.proofs.keys.changed.Goals as goal

pub returns : goal.returns
returns c =
    changed_is c.args.w c.args.constant _ _ _ _ _
    (word_from c.from_be_bytes.result _ _ _ _ (xor_of_8 _ _ c.substitute.type_inv c.ranges.constant.fits) c.substitute-2.type_inv c.substitute-3.type_inv c.substitute-4.type_inv c.from_be_bytes.ensures)
    (c.substitute.ensures ∙ ap sub c.byte1.ensures) (c.substitute-2.ensures ∙ ap sub c.byte2.ensures)
    (c.substitute-3.ensures ∙ ap sub c.byte3.ensures) (c.substitute-4.ensures ∙ ap sub c.byte0.ensures)
