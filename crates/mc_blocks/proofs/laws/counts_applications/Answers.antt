use Rattle.mc_blocks.proofs.Applications.{few_applications}
use Rattle.mc_blocks.proofs.laws.counts_applications.Goals as goal

pub returns : goal.returns
returns c = few_applications
