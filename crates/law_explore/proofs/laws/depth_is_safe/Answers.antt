use Rattle.law_explore.proofs.Safety.{depth_law}
use Rattle.law_explore.proofs.laws.depth_is_safe.Goals as goal

pub returns : goal.returns
returns c = depth_law
