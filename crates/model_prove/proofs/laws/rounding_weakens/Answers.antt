use Rattle.model_prove.proofs.FactLemmas.{rounded_holds}
use Rattle.model_prove.proofs.laws.rounding_weakens.Goals as goal

pub returns : goal.returns
returns c = rounded_holds
