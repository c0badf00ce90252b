use Rattle.law_sum_plays.proofs.Final.{closed_sums_law}
use Rattle.law_sum_plays.proofs.closed_sums_keep_rules.Goals as goal

pub returns : goal.returns
returns c = closed_sums_law
