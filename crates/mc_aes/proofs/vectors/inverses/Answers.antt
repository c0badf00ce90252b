use Rattle.mc_aes.proofs.TablesLemmas.{inverse_at}
use Rattle.mc_aes.proofs.vectors.inverses.Goals as goal

pub returns : goal.returns
returns c = inverse_at
