use Rattle.law_prove.proofs.Plain.{pop_laws}
use Rattle.law_prove.proofs.pops_are_covered.Goals as goal

pub returns : goal.returns
returns c = pop_laws
