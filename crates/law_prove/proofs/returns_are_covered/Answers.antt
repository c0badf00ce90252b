use Rattle.law_prove.proofs.Returns.{return_laws}
use Rattle.law_prove.proofs.returns_are_covered.Goals as goal

pub returns : goal.returns
returns c = return_laws
