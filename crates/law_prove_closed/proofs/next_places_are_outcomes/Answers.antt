use Rattle.law_prove_closed.proofs.Outcomes.{next_law}
use Rattle.law_prove_closed.proofs.next_places_are_outcomes.Goals as goal

pub returns : goal.returns
returns c = next_law
