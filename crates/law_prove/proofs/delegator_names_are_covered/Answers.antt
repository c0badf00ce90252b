use Rattle.law_prove.proofs.Delegators.{delegator_law}
use Rattle.law_prove.proofs.delegator_names_are_covered.Goals as goal

pub returns : goal.returns
returns c = delegator_law
