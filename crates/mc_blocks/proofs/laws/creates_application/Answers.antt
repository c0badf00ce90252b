use Rattle.mc_blocks.proofs.Outcome.{creates}
use Rattle.mc_blocks.proofs.laws.creates_application.Goals as goal

pub returns : goal.returns
returns c = creates
