use Rattle.law_prove_closed.proofs.Begins.{begin_law}
use Rattle.law_prove_closed.proofs.beginnings_are_covered.Goals as goal

pub returns : goal.returns
returns c = begin_law
