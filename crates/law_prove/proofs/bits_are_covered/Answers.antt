use Rattle.law_prove.proofs.Numbers.{bit_laws}
use Rattle.law_prove.proofs.bits_are_covered.Goals as goal

pub returns : goal.returns
returns c = bit_laws
