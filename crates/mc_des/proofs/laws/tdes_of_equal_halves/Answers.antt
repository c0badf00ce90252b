use Rattle.mc_des.proofs.LawsLemmas.{tdes_single}
use Rattle.mc_des.proofs.laws.tdes_of_equal_halves.Goals as goal

pub returns : goal.returns
returns c = tdes_single
