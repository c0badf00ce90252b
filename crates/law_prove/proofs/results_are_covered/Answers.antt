use Rattle.law_prove.proofs.Signatures.{result_laws}
use Rattle.law_prove.proofs.results_are_covered.Goals as goal

pub returns : goal.returns
returns c = result_laws
