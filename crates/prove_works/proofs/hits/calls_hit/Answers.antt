use Rattle.std.proofs.Common.{◌+◌, ◌-◌, length, arith}
use Rattle.prove_scenes.specs.Scenes.{frame_to}
use Rattle.prove_works.specs.Reaches.{reach_value}
use Rattle.prove_works.proofs.HitLemmas.{calls_start, calls_next, calls_last}
use Rattle.prove_works.proofs.hits.calls_hit.Goals as goal

pub loop-passed-init : goal.loop-passed-init
loop-passed-init c =
    calls_start (frame_to c.args.scene.now c.args.dt) (reach_value c.args.reach.now) c.args.calls.now c.new-places.result.items (length c.args.calls.now - 0) c.new-places.ensures.items (omega arith)

pub loop-passed-preserved : goal.loop-passed-preserved
loop-passed-preserved c =
    calls_next (frame_to c.args.scene.now c.args.dt) (reach_value c.args.reach.now) c.args.calls.now c.loop-passed.places.items c.push_if.new.places.items
    (length c.args.calls.now - c.loop-passed.passed) (length c.args.calls.now - 1 - c.loop-passed.passed) (length c.args.calls.now - (c.loop-passed.passed + 1)) _ c.is_hit.result _
    (omega arith) (omega arith) (omega arith)
    c.is_hit.ensures c.in_ok-push_if.ensures c.loop-passed.invariant

pub returns : goal.returns
returns c =
    calls_last (frame_to c.args.scene.now c.args.dt) (reach_value c.args.reach.now) c.args.calls.now c.loop-passed.places.items c.push.new.list.items
    (length c.args.calls.now - c.loop-passed.passed) _ (omega arith) c.in_ok-push.ensures c.loop-passed.invariant
