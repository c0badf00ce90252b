use Rattle.mc_aes.proofs.AesLemmas.{signature_init, signature_step, signature_end}
use Rattle.mc_aes.proofs.aes_signature.Goals as goal

pub loop-i-init : goal.loop-i-init
loop-i-init c = signature_init c.args.key.now c.args.start.now c.args.message.now _ c.load-last.ensures

pub loop-i-preserved : goal.loop-i-preserved
loop-i-preserved c =
    signature_step c.args.key.now c.args.message.now _ _ _ _ _ _ _ c.loop-i.i c.loop-i-test.true c.round_keys-keys.ensures c.loop-i.invariant c.load-block.ensures c.add.ensures c.encipher_with-last.ensures

pub returns : goal.returns
returns c = signature_end c.args.key.now c.args.message.now _ _ _ _ c.loop-i.i c.loop-i-test.false c.loop-i.invariant c.store.ensures
