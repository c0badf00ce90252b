use Rattle.law_prove_closed.proofs.Compared.{block_laws}
use Rattle.law_prove_closed.proofs.blocks_are_covered.Goals as goal

pub returns : goal.returns
returns c = block_laws
