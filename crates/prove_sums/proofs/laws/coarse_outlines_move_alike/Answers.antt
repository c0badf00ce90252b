use Rattle.prove_sums.proofs.OutlineLemmas.{coarse_move_law}
use Rattle.prove_sums.proofs.laws.coarse_outlines_move_alike.Goals as goal

pub returns : goal.returns
returns c = coarse_move_law
