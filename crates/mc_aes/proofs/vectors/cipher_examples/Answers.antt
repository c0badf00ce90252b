use Rattle.std.proofs.Common.{refl}
use Rattle.mc_aes.specs.Vectors.{all_encipher, all_decipher}
use Rattle.mc_aes.proofs.vectors.cipher_examples.Goals as goal

pub returns : goal.returns
unfolding all_encipher all_decipher
returns c = record { enciphered = refl; deciphered = refl }
