use Rattle.model_prove.proofs.ChangeLemmas.{choice_is_there}
use Rattle.model_prove.proofs.laws.splits_are_all.Goals as goal

pub returns : goal.returns
returns c = choice_is_there
