use Rattle.law_sums.proofs.KnownLemmas.{follow_holds}
use Rattle.law_sums.proofs.what_follows_holds.Goals as goal

pub returns : goal.returns
returns c = follow_holds
