use Rattle.law_prove_closed.proofs.Searches.{search_laws}
use Rattle.law_prove_closed.proofs.searches_are_covered.Goals as goal

pub returns : goal.returns
returns c = search_laws
