use Rattle.law_prove_closed.proofs.Outcomes.{next_end_law}
use Rattle.law_prove_closed.proofs.next_ends_are_outcomes.Goals as goal

pub returns : goal.returns
returns c = next_end_law
