use Rattle.prove_sums.specs.model_sums.specs.Closed.{depth_closed}
use Rattle.prove_sum_steps.specs.Tables.{goal_key}
use Rattle.prove_sum_steps.specs.Walks.{turn_in}
use Rattle.prove_sum_steps.proofs.PassLemmas.{pass_three}
use Rattle.prove_sum_steps.proofs.rows.delegated_holds.Goals as goal

pub returns : goal.returns
returns c h names s u e n v is at same are =
    let t = c.args.turn.now in
    pass_three (depth_closed s u (turn_in names t e) n v (goal_key names t.subject.now c.args.goal.now)) 2 3 4
    (c.in_ok-depth_holds.ensures c.if-not-branch.false names s u e n v is at same are)
    (c.in_ok-depth_holds-2.ensures c.if-not-branch-2.false names s u e n v is at same are)
    (c.in_ok-holds.ensures h names s u e n v is at same are)
