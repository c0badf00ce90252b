use Rattle.law_prove.proofs.Moments.{moment_law}
use Rattle.law_prove.proofs.moments_are_covered.Goals as goal

pub returns : goal.returns
returns c = moment_law
