use Rattle.law_prove.proofs.Plain.{push_laws}
use Rattle.law_prove.proofs.pushes_are_covered.Goals as goal

pub returns : goal.returns
returns c = push_laws
