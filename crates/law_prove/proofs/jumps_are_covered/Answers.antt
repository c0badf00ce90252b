use Rattle.law_prove.proofs.Plain.{jump_laws}
use Rattle.law_prove.proofs.jumps_are_covered.Goals as goal

pub returns : goal.returns
returns c = jump_laws
