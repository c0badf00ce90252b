use Rattle.std.specs.Prelude.{◌++◌, map}
use Rattle.std.proofs.Common.{◌∙◌, ap}
use Rattle.prove_digits.specs.declared.digits.Way.{Way}
use Rattle.prove_digits.specs.Ways.{way_value}
use Rattle.prove_scenes.specs.Works.{digitwise_value}
use Rattle.prove_spots.specs.Grounds.{spot_of}
use Rattle.prove_works.specs.Rows.{way_spots}
use Rattle.prove_works.proofs.WorkLemmas.{along_next}
use Rattle.prove_works.proofs.worked.along.Goals as goal

pub loop-way-preserved : goal.loop-way-preserved
loop-way-preserved c s a =
    let d = digitwise_value c.args.digitwise.now in
    let p = spot_of s a c.args.spot.now in
    along_next (way_spots d c.args.dt p) c.args.list.now c.loop-way.way-index c.way-item.result
    (map (spot_of s a) c.loop-way.spots.items) (map (spot_of s a) c.add_way.new.spots.items) _ c.loop-way-test.true
    (c.in_ok-add_way.ensures c.if-not-branch.false s a
    ∙ ap (λ (w : Way). map (spot_of s a) c.loop-way.spots.items ++ way_spots d c.args.dt p (way_value w)) c.way-item.is)
    (c.loop-way.invariant s a)
