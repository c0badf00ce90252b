use Rattle.std.proofs.Common.{◌+◌, ◌-◌, arith, get_or, refl}
use Rattle.std.proofs.lemmas.Grind.{common_steps}
use Rattle.law_rows.proofs.StepLemmas.{one_step}
use Rattle.mc_arith.proofs.addition.ripple_one.Goals as goal

pub loop-i-preserved : goal.loop-i-preserved
loop-i-preserved c =
    let j = c.loop-i.i - 1 in
    record {
      front = grind (arith, common_steps, c.loop-i.invariant.front);
      sum = one_step c.loop-i.a c.args.a.now c.loop-i.i j c.loop-i.carry (get_or c.loop-i.a j 0 + c.loop-i.carry) (omega arith) (omega arith) (omega arith) (c.loop-i.invariant.front j (omega arith)) refl c.loop-i.invariant.sum;
      bit = omega arith;
    }
