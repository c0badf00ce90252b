use Rattle.mc_blocks.proofs.Plans.{step_plan}
use Rattle.mc_blocks.proofs.laws.plans_steps.Goals as goal

pub returns : goal.returns
returns c = step_plan
