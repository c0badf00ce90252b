use Rattle.std.proofs.Common.{refl}
use Rattle.model_machine.specs.Des.{des_signature, tdes_signature}
use Rattle.mc_des.proofs.vectors.last_block_of_cbc.Goals as goal

pub returns : goal.returns
unfolding des_signature tdes_signature
returns c = record { single = refl; triple = refl }
