use Rattle.law_explore.proofs.Safety.{limit_law}
use Rattle.law_explore.proofs.laws.limit_is_safe.Goals as goal

pub returns : goal.returns
returns c = limit_law
