use Rattle.std.proofs.Common.{refl}
use Rattle.mc_aes.specs.Vectors.{all_encipher}
use Rattle.mc_aes.proofs.vectors.blocks.Goals as goal

pub returns : goal.returns
unfolding all_encipher
returns c = refl
