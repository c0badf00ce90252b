use Rattle.law_sums.proofs.KnownLemmas.{popped_holds}
use Rattle.law_sums.proofs.pops_forget.Goals as goal

pub returns : goal.returns
returns c = popped_holds
