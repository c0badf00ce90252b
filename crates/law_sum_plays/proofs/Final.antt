-- Rules with sums are kept in every play if closed tables are known for them: each row leaves what its place says.
use Rattle.law_sum_plays.proofs.All.{all_rows}
use Rattle.law_sum_plays.specs.Laws.{ClosedSumsLaw}
use Rattle.law_sum_plays.proofs.Sound.{suffice_law}

-- closed tables with sums keep the rules in every play
pub closed_sums_law : ClosedSumsLaw
closed_sums_law = (suffice_law all_rows).2
