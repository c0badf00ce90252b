use Rattle.std.proofs.Common.{◌≡◌, ◌-◌, ◌*◌, arith, refl}
use Rattle.model_machine.specs.Des.{bits, pick, choice1}
use Rattle.mc_des.proofs.BitsLemmas.{fours_step, fours_all, bits_xor}
use Rattle.mc_des.proofs.permute.halves.Goals as goal

pub loop-i-init : goal.loop-i-init
unfolding bits pick choice1
loop-i-init c = refl

pub loop-i-preserved : goal.loop-i-preserved
loop-i-preserved c =
    let place : 60 - 4 * c.loop-i.i ≡ 4 * (16 - 1 - c.loop-i.i) = omega arith in
    fours_step (bits 56) (bits_xor 56) choice1 16 c.loop-i.i c.args.key _ _ _ c.loop-i-test.true c.loop-i.invariant
    (rw place at c.four_above.ensures) c.choice1_of-word.ensures

pub returns : goal.returns
returns c = fours_all (bits 56) (bits_xor 56) choice1 16 c.loop-i.i c.args.key _ c.loop-i-test.false (omega arith) c.loop-i.invariant
