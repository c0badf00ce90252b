use Rattle.std.proofs.Common.{◌+◌, ◌-◌, arith, get_or}
use Rattle.std.proofs.lemmas.Grind.{common_steps}
use Rattle.law_rows.proofs.StepLemmas.{difference_step}
use Rattle.mc_arith.proofs.subtraction.ripple_difference.Goals as goal

pub loop-i-preserved : goal.loop-i-preserved
loop-i-preserved c =
    let j = c.loop-i.i - 1 in
    let d = 256 + get_or c.loop-i.a j 0 - get_or c.args.b.now j 0 - c.loop-i.borrow in
    record {
      front = grind (arith, common_steps, c.loop-i.invariant.front);
      difference = difference_step c.loop-i.a c.args.a.now c.args.b.now c.loop-i.i j c.loop-i.borrow d (omega arith) (omega arith) (omega arith) (omega arith) (c.loop-i.invariant.front j (omega arith)) (omega arith) (omega arith) c.loop-i.invariant.difference;
      bit = omega arith;
    }
