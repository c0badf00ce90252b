use Rattle.std.proofs.Common.{◌≡◌, ◌-◌, ◌*◌, arith, refl}
use Rattle.model_machine.specs.Des.{bits, pick, choice2}
use Rattle.mc_des.specs.Words.{key_bits}
use Rattle.mc_des.proofs.BitsLemmas.{fours_step, fours_all, key_bits_xor}
use Rattle.mc_des.proofs.permute.round_key.Goals as goal

pub loop-i-init : goal.loop-i-init
unfolding bits pick choice2 key_bits
loop-i-init c = refl

pub loop-i-preserved : goal.loop-i-preserved
loop-i-preserved c =
    let place : 52 - 4 * c.loop-i.i ≡ 4 * (14 - 1 - c.loop-i.i) = omega arith in
    fours_step (key_bits) key_bits_xor choice2 14 c.loop-i.i c.args.halves _ _ _ c.loop-i-test.true c.loop-i.invariant
    (rw place at c.four_above.ensures) c.choice2_of-word.ensures

pub returns : goal.returns
returns c = fours_all (key_bits) key_bits_xor choice2 14 c.loop-i.i c.args.halves _ c.loop-i-test.false (omega arith) c.loop-i.invariant
