use Rattle.std.proofs.Common.{◌≡◌, true, map, arith}
use Rattle.prove_sums.specs.model_sums.specs.Closed.{all_pass, turn_closed}
use Rattle.prove_scenes.specs.Heads.{around_value}
use Rattle.prove_sum_steps.specs.Walks.{turn_in}
use Rattle.prove_sum_steps.proofs.PassLemmas.{all_passed, next_passes, whole_passes}
use Rattle.prove_sum_steps.proofs.steps.arounds_hold.Goals as goal

pub loop-around-init : goal.loop-around-init
loop-around-init c names s u is h = whole_passes (turn_closed s u (turn_in names c.args.turn.now c.args.scene.now)) around_value c.args.list.now h

pub loop-around-preserved : goal.loop-around-preserved
loop-around-preserved c names s u is =
    let test = turn_closed s u (turn_in names c.args.turn.now c.args.scene.now) in
    let xs = c.args.list.now in
    next_passes (λ x. test (around_value x)) xs c.loop-around.around-index _ (all_pass test (map around_value xs) ≡ true) c.loop-around-test.true
    (c.in_ok-around_holds.ensures c.if-not-branch.false names s u is) (c.loop-around.invariant names s u is)

pub returns : goal.returns
returns c h names s u is =
    all_passed (turn_closed s u (turn_in names c.args.turn.now c.args.scene.now)) around_value c.args.list.now c.loop-around.around-index (omega arith)
    (c.loop-around.invariant names s u is)
