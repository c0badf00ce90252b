use Rattle.model_machine.specs.Des.{des_encipher}
use Rattle.mc_des.proofs.DesLemmas.{des_encipher_is, des_signature_init, signature_step, signature_end, bytes_xor}
use Rattle.mc_des.proofs.des_signature.Goals as goal

pub loop-i-init : goal.loop-i-init
loop-i-init c = des_signature_init c.args.key.now c.args.start.now c.args.message.now _ c.word-last.ensures

pub loop-i-preserved : goal.loop-i-preserved
loop-i-preserved c =
    signature_step (des_encipher c.args.key.now) c.args.message.now _ _ _ _ _ c.loop-i.i c.loop-i-test.true c.loop-i.invariant c.word-block.ensures
    (des_encipher_is c.args.key.now _ _ _ _ _ c.word.ensures (bytes_xor c.word-block.result c.loop-i.last) c.round_keys-keys.ensures c.with_keys-last.ensures)

pub returns : goal.returns
returns c = signature_end (des_encipher c.args.key.now) c.args.message.now _ _ _ _ c.loop-i.i c.loop-i-test.false c.loop-i.invariant c.to_be_bytes.ensures
