use Rattle.mc_des.proofs.LawsLemmas.{des_back, des_forth}
use Rattle.mc_des.proofs.laws.des_gives_back.Goals as goal

pub returns : goal.returns
returns c = record { deciphered = des_back; enciphered = des_forth }
