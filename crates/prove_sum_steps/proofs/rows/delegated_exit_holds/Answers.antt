use Rattle.std.proofs.Common.{ℕ, Bool}
use Rattle.prove_sums.specs.model_sums.specs.Closed.{after_event, is_settled}
use Rattle.prove_sum_steps.specs.Walks.{turn_in}
use Rattle.prove_sum_steps.proofs.PassLemmas.{pass_three}
use Rattle.prove_sum_steps.proofs.rows.delegated_exit_holds.Goals as goal

pub returns : goal.returns
returns c h names s u e v is are =
    let w = turn_in names c.args.turn.now e in
    let test : ℕ → Bool = λ d. is_settled s w (after_event s w v c.args.dt w.spot.key.c w.spot.key.z d) in
    pass_three test 2 3 4 (c.in_ok-exit_holds.ensures c.if-not-branch.false names s u e v is are)
    (c.in_ok-exit_holds-2.ensures c.if-not-branch-2.false names s u e v is are) (c.in_ok-holds.ensures h names s u e v is are)
