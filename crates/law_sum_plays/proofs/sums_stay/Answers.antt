use Rattle.law_sum_plays.proofs.Standings.{name_law}
use Rattle.law_sum_plays.proofs.sums_stay.Goals as goal

pub returns : goal.returns
returns c = name_law
