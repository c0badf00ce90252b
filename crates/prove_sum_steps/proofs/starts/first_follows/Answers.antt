use Rattle.prove_sums.specs.model_sums.specs.Sums.{first_known, sums_at}
use Rattle.prove_sums.specs.Values.{sums_value}
use Rattle.prove_sum_steps.specs.Tables.{goal_key}
use Rattle.prove_sum_steps.proofs.EventLemmas.{sums_there}
use Rattle.prove_sum_steps.proofs.starts.first_follows.Goals as goal

pub returns : goal.returns
returns c h names sums ts u j totals first at =
    let w = sums_value c.args.goal.now.sums.now in
    sums_there ts (first_known ts) w (sums_at u (goal_key names j c.args.goal.now)) at.known
    (c.in_ok-holds.ensures h sums ts (first_known ts) w totals first c.fits.ensures)
