use Rattle.law_prove.proofs.Numbers.{compare_laws}
use Rattle.law_prove.proofs.comparisons_are_covered.Goals as goal

pub returns : goal.returns
returns c = compare_laws
