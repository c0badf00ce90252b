use Rattle.std.proofs.Common.{◌≡◌, Bool, true, arith, sym, subst}
use Rattle.prove_sums.specs.model_sums.specs.Closed.{all_pass, has_sums}
use Rattle.prove_sums.specs.model_sums.specs.Sums.{first_known, sums_at}
use Rattle.prove_keys.proofs.ListLemmas.{all_at}
use Rattle.prove_sum_steps.specs.declared.goals.Goal.{Goal}
use Rattle.prove_sum_steps.specs.Tables.{IsGoal, goal_key}
use Rattle.prove_sum_steps.proofs.PassLemmas.{element_passes, none_pass}
use Rattle.prove_sum_steps.proofs.starts.all_follow.Goals as goal

pub loop-goal-preserved : goal.loop-goal-preserved
loop-goal-preserved c names sums ts u j totals first goals =
    let gs = c.args.goals.now in
    let i = c.loop-goal.goal-index in
    let test : Goal → Bool = λ g. has_sums ts (first_known ts) (sums_at u (goal_key names j g)) in
    let one = c.goal-item.result in
    element_passes test gs i one (all_pass test gs ≡ true) c.loop-goal-test.true c.goal-item.is
    (c.in_ok-first_follows.ensures c.if-not-branch.false names sums ts u j totals first
    (subst (IsGoal names j u) (sym c.goal-item.is) (all_at (IsGoal names j u) gs i one c.loop-goal-test.true goals)))
    (c.loop-goal.invariant names sums ts u j totals first goals)

pub returns : goal.returns
returns c h names sums ts u j totals first goals =
    let test : Goal → Bool = λ g. has_sums ts (first_known ts) (sums_at u (goal_key names j g)) in
    c.loop-goal.invariant names sums ts u j totals first goals (none_pass test c.args.goals.now c.loop-goal.goal-index (omega arith))
