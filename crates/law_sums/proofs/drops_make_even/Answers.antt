use Rattle.law_sums.proofs.LossLemmas.{dropped_holds}
use Rattle.law_sums.proofs.drops_make_even.Goals as goal

pub returns : goal.returns
returns c = dropped_holds
