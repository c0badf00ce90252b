use Rattle.model_prove.proofs.FactLemmas.{follow_holds}
use Rattle.model_prove.proofs.laws.what_follows_holds.Goals as goal

pub returns : goal.returns
returns c = follow_holds
