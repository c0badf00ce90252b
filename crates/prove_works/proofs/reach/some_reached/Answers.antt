use Rattle.prove_scenes.specs.Scenes.{frame_to}
use Rattle.prove_works.specs.Reaches.{reach_value}
use Rattle.prove_works.proofs.ReachLemmas.{some_next}
use Rattle.prove_works.proofs.reach.some_reached.Goals as goal

pub loop-i-preserved : goal.loop-i-preserved
loop-i-preserved c =
    some_next (frame_to c.args.scene.now c.args.dt) (reach_value c.args.reach.now) c.args.at c.args.count c.loop-i.i c.is_reached.result _ c.loop-i-test.true
    c.is_reached.ensures c.if-is_reached.false c.loop-i.invariant
