use Rattle.law_sums.proofs.KnownLemmas.{start_holds}
use Rattle.law_sums.proofs.beginnings_hold.Goals as goal

pub returns : goal.returns
returns c = start_holds
