use Rattle.std.proofs.Common.{arith}
use Rattle.prove_scenes.specs.Scenes.{frame_to}
use Rattle.prove_works.specs.Reaches.{reach_value}
use Rattle.prove_works.proofs.HitLemmas.{facts_next, facts_last}
use Rattle.prove_works.proofs.hits.facts_not_reached.Goals as goal

pub loop-fact-preserved : goal.loop-fact-preserved
loop-fact-preserved c =
    facts_next (frame_to c.args.scene.now c.args.dt) (reach_value c.args.reach.now) c.list-list.result.now c.loop-fact.fact-index _ c.loop-fact.left c.take_reached.new.facts _
    c.loop-fact-test.true c.in_ok-take_reached.ensures c.loop-fact.invariant

pub returns : goal.returns
returns c =
    facts_last (frame_to c.args.scene.now c.args.dt) (reach_value c.args.reach.now) c.list-list.result.now c.loop-fact.fact-index c.loop-fact.left c.args.facts.now
    (omega arith) c.loop-fact.invariant
