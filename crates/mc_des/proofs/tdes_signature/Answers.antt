use Rattle.std.proofs.Common.{◌∙◌}
use Rattle.model_machine.specs.Des.{tdes_encipher}
use Rattle.mc_des.proofs.DesLemmas.{tdes_encipher_is, tdes_signature_init, signature_step, signature_end, bytes_xor, second_half}
use Rattle.mc_des.proofs.tdes_signature.Goals as goal

pub loop-i-init : goal.loop-i-init
loop-i-init c = tdes_signature_init c.args.key.now c.args.start.now c.args.message.now _ c.word-last.ensures

pub loop-i-preserved : goal.loop-i-preserved
loop-i-preserved c =
    signature_step (tdes_encipher c.args.key.now) c.args.message.now _ _ _ _ _ c.loop-i.i c.loop-i-test.true c.loop-i.invariant c.word-block.ensures
    (tdes_encipher_is c.args.key.now _ _ _ _ _ _ _ _ c.word.ensures (c.word-2.ensures ∙ second_half c.args.key.now c.told-key) (bytes_xor c.word-block.result c.loop-i.last)
    c.round_keys-outer.ensures c.round_keys.ensures c.reversed-inner.ensures c.thrice-last.ensures)

pub returns : goal.returns
returns c = signature_end (tdes_encipher c.args.key.now) c.args.message.now _ _ _ _ c.loop-i.i c.loop-i-test.false c.loop-i.invariant c.to_be_bytes.ensures
