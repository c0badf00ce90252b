use Rattle.std.proofs.Common.{arith}
use Rattle.mc_aes.proofs.CipherLemmas.{decipher_init, decipher_step, decipher_end}
use Rattle.mc_aes.proofs.cipher.decipher_with.Goals as goal

pub loop-i-init : goal.loop-i-init
loop-i-init c = decipher_init c.args.keys.now c.told-keys _ _ _ c.last_round_back-state.ensures

pub loop-i-preserved : goal.loop-i-preserved
loop-i-preserved c = decipher_step c.args.keys.now c.told-keys c.loop-i.i _ _ _ _ (omega arith) c.loop-i.invariant c.round_back-state.ensures

pub returns : goal.returns
returns c = decipher_end c.args.keys.now c.told-keys c.loop-i.i _ _ _ _ (omega arith) c.loop-i.invariant c.add.ensures
