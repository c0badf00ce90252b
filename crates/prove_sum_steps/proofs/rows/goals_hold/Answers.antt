use Rattle.std.proofs.Common.{◌≡◌, Bool, true, arith, sym, subst}
use Rattle.prove_sums.specs.model_sums.specs.Closed.{all_pass, arrival_closed}
use Rattle.prove_keys.proofs.ListLemmas.{all_at}
use Rattle.prove_sum_steps.specs.declared.goals.Goal.{Goal}
use Rattle.prove_sum_steps.specs.Tables.{IsGoal}
use Rattle.prove_sum_steps.specs.Walks.{goal_arrival, turn_in}
use Rattle.prove_sum_steps.proofs.PassLemmas.{element_passes, none_pass}
use Rattle.prove_sum_steps.proofs.rows.goals_hold.Goals as goal

pub loop-goal-preserved : goal.loop-goal-preserved
loop-goal-preserved c f names s u e n v is same are =
    let t = c.args.turn.now in
    let gs = t.goals.now in
    let i = c.loop-goal.goal-index in
    let one = c.goal-item.result in
    let test : Goal → Bool = λ g. arrival_closed s u (turn_in names t e) n v (goal_arrival names t f g) in
    element_passes test gs i one (all_pass test gs ≡ true) c.loop-goal-test.true c.goal-item.is
    (c.in_ok-goal_holds.ensures c.if-not-branch.false names s u e n v is
    (subst (IsGoal names t.subject.now u) (sym c.goal-item.is) (all_at (IsGoal names t.subject.now u) gs i one c.loop-goal-test.true is.goals)) same are)
    (c.loop-goal.invariant f names s u e n v is same are)

pub returns : goal.returns
returns c h f names s u e n v is same are =
    let t = c.args.turn.now in
    let test : Goal → Bool = λ g. arrival_closed s u (turn_in names t e) n v (goal_arrival names t f g) in
    c.loop-goal.invariant f names s u e n v is same are (none_pass test t.goals.now c.loop-goal.goal-index (omega arith))
