use Rattle.law_prove.proofs.FixedCopies.{copy_laws}
use Rattle.law_prove.proofs.copies_are_covered.Goals as goal

pub returns : goal.returns
returns c = copy_laws
