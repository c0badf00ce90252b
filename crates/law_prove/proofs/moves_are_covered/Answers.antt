use Rattle.law_prove.proofs.Moves.{move_laws}
use Rattle.law_prove.proofs.moves_are_covered.Goals as goal

pub returns : goal.returns
returns c = move_laws
