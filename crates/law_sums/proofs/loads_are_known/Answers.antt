use Rattle.law_sums.proofs.KnownLemmas.{loaded_holds}
use Rattle.law_sums.proofs.loads_are_known.Goals as goal

pub returns : goal.returns
returns c = loaded_holds
