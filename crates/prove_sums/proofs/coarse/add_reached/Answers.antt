use Rattle.prove_facts.specs.model_prove.specs.Reach.{is_reached}
use Rattle.prove_forms.specs.Origins.{listed_values}
use Rattle.prove_scenes.specs.Scenes.{frame_to}
use Rattle.prove_works.specs.Reaches.{reach_value}
use Rattle.prove_sums.proofs.OriginLemmas.{reached_next}
use Rattle.prove_sums.proofs.coarse.add_reached.Goals as goal

pub loop-at-preserved : goal.loop-at-preserved
loop-at-preserved c =
    reached_next (is_reached (frame_to c.args.scene.now c.args.dt) (reach_value c.args.reach.now)) c.loop-at.at c.args.to c.is_reached.result
    (listed_values c.loop-at.listed.items) (listed_values c.add_if.new.listed.items) _ c.loop-at-test.true c.is_reached.ensures c.in_ok-add_if.ensures
    c.loop-at.invariant
