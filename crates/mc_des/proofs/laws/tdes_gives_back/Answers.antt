use Rattle.mc_des.proofs.LawsLemmas.{tdes_back}
use Rattle.mc_des.proofs.laws.tdes_gives_back.Goals as goal

pub returns : goal.returns
returns c = tdes_back
