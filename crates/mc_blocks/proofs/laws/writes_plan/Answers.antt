use Rattle.mc_blocks.proofs.Outcome.{written_plan}
use Rattle.mc_blocks.proofs.laws.writes_plan.Goals as goal

pub returns : goal.returns
returns c = written_plan
