use Rattle.law_residual.proofs.Possible.{possible_law}
use Rattle.law_residual.proofs.refusals_are_possible.Goals as goal

pub returns : goal.returns
returns c = record { possible = possible_law }
