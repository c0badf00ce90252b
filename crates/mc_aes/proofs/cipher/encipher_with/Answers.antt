use Rattle.std.proofs.Common.{arith, refl}
use Rattle.mc_aes.proofs.CipherLemmas.{encipher_init, encipher_step, encipher_end}
use Rattle.mc_aes.proofs.cipher.encipher_with.Goals as goal

pub returns : goal.returns
returns c =
    let r1 = encipher_init c.args.keys.now c.told-keys _ _ _ c.add-s0.ensures in
    let r2 = encipher_step c.args.keys.now c.told-keys 1 _ _ _ _ (omega arith) r1 c.round-s1.ensures in
    let r3 = encipher_step c.args.keys.now c.told-keys 2 _ _ _ _ (omega arith) r2 c.round-s2.ensures in
    let r4 = encipher_step c.args.keys.now c.told-keys 3 _ _ _ _ (omega arith) r3 c.round-s3.ensures in
    let r5 = encipher_step c.args.keys.now c.told-keys 4 _ _ _ _ (omega arith) r4 c.round-s4.ensures in
    let r6 = encipher_step c.args.keys.now c.told-keys 5 _ _ _ _ (omega arith) r5 c.round-s5.ensures in
    let r7 = encipher_step c.args.keys.now c.told-keys 6 _ _ _ _ (omega arith) r6 c.round-s6.ensures in
    let r8 = encipher_step c.args.keys.now c.told-keys 7 _ _ _ _ (omega arith) r7 c.round-s7.ensures in
    let r9 = encipher_step c.args.keys.now c.told-keys 8 _ _ _ _ (omega arith) r8 c.round-s8.ensures in
    let r10 = encipher_step c.args.keys.now c.told-keys 9 _ _ _ _ (omega arith) r9 c.round-s9.ensures in
    encipher_end c.args.keys.now c.told-keys 10 _ _ _ _ refl r10 c.last_round.ensures
