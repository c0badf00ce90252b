use Rattle.std.proofs.Common.{◌-◌, length, rules}
use Rattle.prove_sums.specs.model_sums.specs.Closed.{choice_closed}
use Rattle.prove_sum_steps.specs.Walks.{turn_of}
use Rattle.prove_sum_steps.proofs.PassLemmas.{targets_at}
use Rattle.prove_sum_steps.proofs.branching.targets_hold.Goals as goal

pub returns : goal.returns
returns c h names s u is =
    let t = c.args.turn.now in
    targets_at (choice_closed s u (turn_of names s t)) t.spot.now.bytes c.saturating_sub-at.result (t.spot.now.dt - 2) (length t.subject.now.code.now) (search rules)
    (c.in_ok-each_target_holds.ensures c.if-not-branch.false names s u is) (c.in_ok-holds.ensures h names s u is)
