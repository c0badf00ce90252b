use Rattle.law_prove_closed.proofs.Shifts.{shift_laws}
use Rattle.law_prove_closed.proofs.shifts_are_covered.Goals as goal

pub returns : goal.returns
returns c = shift_laws
