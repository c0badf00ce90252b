use Rattle.mc_blocks.proofs.Outcome.{deletes}
use Rattle.mc_blocks.proofs.laws.deletes_application.Goals as goal

pub returns : goal.returns
returns c = deletes
