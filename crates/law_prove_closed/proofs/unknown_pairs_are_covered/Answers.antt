use Rattle.law_prove_closed.proofs.Pairs.{unknown_laws}
use Rattle.law_prove_closed.proofs.unknown_pairs_are_covered.Goals as goal

pub returns : goal.returns
returns c = unknown_laws
