use Rattle.law_sum_plays.proofs.Sound.{begin_law}
use Rattle.law_sum_plays.proofs.beginnings_are_covered.Goals as goal

pub returns : goal.returns
returns c = begin_law
