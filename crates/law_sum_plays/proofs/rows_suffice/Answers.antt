use Rattle.law_sum_plays.proofs.Sound.{suffice_law}
use Rattle.law_sum_plays.proofs.rows_suffice.Goals as goal

pub returns : goal.returns
returns c = suffice_law
