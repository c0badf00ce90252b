use Rattle.law_family.proofs.PlaySizes.{begins_law}
use Rattle.law_family.proofs.definitions.runs_begin_well.Goals as goal

pub returns : goal.returns
returns c = begins_law
