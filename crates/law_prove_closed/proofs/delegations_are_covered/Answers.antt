use Rattle.law_prove_closed.proofs.Delegations.{delegate_law}
use Rattle.law_prove_closed.proofs.delegations_are_covered.Goals as goal

pub returns : goal.returns
returns c = delegate_law
