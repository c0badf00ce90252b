use Rattle.law_sums.proofs.LossLemmas.{delegated_holds}
use Rattle.law_sums.proofs.delegations_lose_public.Goals as goal

pub returns : goal.returns
returns c = delegated_holds
