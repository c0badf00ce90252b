use Rattle.model_prove.proofs.ChangeLemmas.{written_holds}
use Rattle.model_prove.proofs.laws.writes_are_known.Goals as goal

pub returns : goal.returns
returns c = written_holds
