use Rattle.std.proofs.Common.{refl}
use Rattle.model_machine.specs.Aes.{aes_signature}
use Rattle.mc_aes.proofs.vectors.blocks_of_cbc.Goals as goal

pub returns : goal.returns
unfolding aes_signature
returns c = record { first = refl; second = refl; third = refl; fourth = refl }
