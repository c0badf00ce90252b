use Rattle.law_explore.proofs.Safety.{all_law}
use Rattle.law_explore.proofs.laws.all_is_safe.Goals as goal

pub returns : goal.returns
returns c = all_law
