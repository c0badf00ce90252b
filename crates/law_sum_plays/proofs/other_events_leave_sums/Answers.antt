use Rattle.law_sum_plays.proofs.Standings.{quiet_kept}
use Rattle.law_sum_plays.proofs.other_events_leave_sums.Goals as goal

pub returns : goal.returns
returns c = quiet_kept
