use Rattle.model_prove.proofs.DigitLemmas.{digits_law}
use Rattle.model_prove.proofs.laws.digits_lie_on_ways.Goals as goal

pub returns : goal.returns
returns c = digits_law
