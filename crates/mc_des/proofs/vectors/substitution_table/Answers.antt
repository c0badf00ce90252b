use Rattle.std.proofs.Common.{refl}
use Rattle.mc_des.specs.Vectors.{all_encipher}
use Rattle.mc_des.proofs.vectors.substitution_table.Goals as goal

pub returns : goal.returns
unfolding all_encipher
returns c = refl
