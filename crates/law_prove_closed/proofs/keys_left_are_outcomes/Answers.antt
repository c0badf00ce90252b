use Rattle.law_prove_closed.proofs.Outcomes.{left_law}
use Rattle.law_prove_closed.proofs.keys_left_are_outcomes.Goals as goal

pub returns : goal.returns
returns c = left_law
