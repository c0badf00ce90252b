use Rattle.law_prove_closed.proofs.Tops.{flag_laws}
use Rattle.law_prove_closed.proofs.flags_are_covered.Goals as goal

pub returns : goal.returns
returns c = flag_laws
