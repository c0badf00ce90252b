use Rattle.law_prove_closed.proofs.Address.{address_laws}
use Rattle.law_prove_closed.proofs.addresses_are_covered.Goals as goal

pub returns : goal.returns
returns c = address_laws
