use Rattle.prove_sums.proofs.OutlineLemmas.{move_law}
use Rattle.prove_sums.proofs.laws.outlines_move_alike.Goals as goal

pub returns : goal.returns
returns c = move_law
