use Rattle.std.proofs.Common.{arith, refl}
use Rattle.mc_des.proofs.BlockLemmas.{rounds_init, rounds_twice, rounds_end}
use Rattle.mc_des.proofs.rounds.passed.Goals as goal

pub loop-i-init : goal.loop-i-init
loop-i-init c = rounds_init c.args.keys.now c.args.block _ _ refl refl

pub loop-i-preserved : goal.loop-i-preserved
loop-i-preserved c = rounds_twice c.args.keys.now c.loop-i.i c.loop-i.left c.loop-i.right c.f-left.result c.f-right.result _ (omega arith) c.loop-i.invariant c.f-left.ensures c.f-right.ensures

pub returns : goal.returns
returns c = rounds_end c.args.keys.now c.loop-i.i c.loop-i.left c.loop-i.right _ c.args.block (omega arith) c.loop-i.invariant (omega arith) (omega arith) refl
