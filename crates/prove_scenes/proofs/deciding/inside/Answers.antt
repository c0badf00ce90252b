use Rattle.std.proofs.Common.{arith}
use Rattle.model_prove.specs.Sets.{numbers_from}
use Rattle.model_prove.specs.Steps as steps
use Rattle.prove_scenes.proofs.PlaceLemmas.{inside_next}
use Rattle.prove_scenes.proofs.deciding.inside.Goals as goal

pub loop-i-preserved : goal.loop-i-preserved
loop-i-preserved c =
    record {
      items = inside_next c.args.scene.now c.loop-i.list.items c.put_inside.new.list.items (steps.inside c.args.scene.now (numbers_from c.args.places.from c.args.places.count)) c.args.places.from c.args.places.count c.loop-i.i c.loop-i-test.true c.put_inside.ensures.items c.loop-i.invariant.items;
      size = omega (arith, c.put_inside.ensures.size, c.loop-i.invariant.size);
    }
