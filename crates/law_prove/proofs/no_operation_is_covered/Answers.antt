use Rattle.law_prove.proofs.Plain.{nop_law}
use Rattle.law_prove.proofs.no_operation_is_covered.Goals as goal

pub returns : goal.returns
returns c = nop_law
