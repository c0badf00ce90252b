use Rattle.prove_works.proofs.SetSteps.{none_values, none_set}
use Rattle.prove_works.proofs.lists.none.Goals as goal

pub returns-clause-set : goal.returns-clause-set
returns-clause-set c = none_set

pub returns-clause-values : goal.returns-clause-values
returns-clause-values c = none_values
