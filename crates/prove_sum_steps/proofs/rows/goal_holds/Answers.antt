use Rattle.prove_sums.specs.model_sums.specs.Closed.{depth_closed}
use Rattle.prove_arrivals.specs.Subjects.{classes_in}
use Rattle.prove_sum_steps.specs.Tables.{goal_key}
use Rattle.prove_sum_steps.specs.Walks.{turn_in}
use Rattle.prove_sum_steps.proofs.RowLemmas.{at_class, at_delegated}
use Rattle.prove_sum_steps.proofs.rows.goal_holds.Goals as goal

pub returns-in_ok-holds-in-Delegated : goal.returns-in_ok-holds-in-Delegated
returns-in_ok-holds-in-Delegated c h names s u e n v is at same are =
    let t = c.args.turn.now in
    at_delegated (depth_closed s u (turn_in names t e) n v (goal_key names t.subject.now c.args.goal.now)) (classes_in t.subject.now) t.key.now.begun c.in-Delegated.is
    (c.in_ok-holds-in-Delegated.ensures h names s u e n v is at same are)

pub returns-in_ok-holds-in-Class : goal.returns-in_ok-holds-in-Class
returns-in_ok-holds-in-Class c h names s u e n v is at same are =
    let t = c.args.turn.now in
    at_class (depth_closed s u (turn_in names t e) n v (goal_key names t.subject.now c.args.goal.now)) (classes_in t.subject.now) t.key.now.begun _ c.in-Class.is
    (c.in_ok-holds-in-Class.ensures h names s u e n v is at same are)
