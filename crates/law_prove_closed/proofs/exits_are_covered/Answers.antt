use Rattle.law_prove_closed.proofs.Exits.{exit_laws}
use Rattle.law_prove_closed.proofs.exits_are_covered.Goals as goal

pub returns : goal.returns
returns c = exit_laws
