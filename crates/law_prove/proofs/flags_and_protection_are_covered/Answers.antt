use Rattle.law_prove.proofs.Prims.{primitive_laws}
use Rattle.law_prove.proofs.flags_and_protection_are_covered.Goals as goal

pub returns : goal.returns
returns c = primitive_laws
