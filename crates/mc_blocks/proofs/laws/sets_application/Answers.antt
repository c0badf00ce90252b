use Rattle.mc_blocks.proofs.Setting.{sets}
use Rattle.mc_blocks.proofs.laws.sets_application.Goals as goal

pub returns : goal.returns
returns c = sets
