use Rattle.law_prove.proofs.Plain.{status_laws}
use Rattle.law_prove.proofs.statuses_are_covered.Goals as goal

pub returns : goal.returns
returns c = status_laws
