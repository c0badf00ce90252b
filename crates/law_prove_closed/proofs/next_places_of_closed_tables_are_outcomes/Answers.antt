use Rattle.law_prove_closed.proofs.Outcomes.{closed_next_law}
use Rattle.law_prove_closed.proofs.next_places_of_closed_tables_are_outcomes.Goals as goal

pub returns : goal.returns
returns c = closed_next_law
