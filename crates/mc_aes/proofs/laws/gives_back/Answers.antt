use Rattle.mc_aes.proofs.LawsLemmas.{aes_back, aes_forth}
use Rattle.mc_aes.proofs.laws.gives_back.Goals as goal

pub returns : goal.returns
returns c = record { deciphered = aes_back; enciphered = aes_forth }
