use Rattle.law_prove.proofs.Numbers.{sum_laws}
use Rattle.law_prove.proofs.sums_are_covered.Goals as goal

pub returns : goal.returns
returns c = sum_laws
