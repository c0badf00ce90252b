use Rattle.law_prove.proofs.Targets.{target_laws}
use Rattle.law_prove.proofs.targets_are_covered.Goals as goal

pub returns : goal.returns
returns c = target_laws
