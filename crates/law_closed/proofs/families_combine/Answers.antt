use Rattle.law_closed.proofs.Families.{families_law}
use Rattle.law_closed.proofs.families_combine.Goals as goal

pub returns : goal.returns
returns c = record { combine = families_law }
