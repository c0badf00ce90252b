use Rattle.law_family.proofs.PlayLaw.{isolation_law}
use Rattle.law_family.proofs.isolation.Goals as goal

pub returns : goal.returns
returns c = isolation_law
