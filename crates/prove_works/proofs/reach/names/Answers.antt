use Rattle.prove_works.proofs.SetSteps.{names_are}
use Rattle.prove_works.proofs.reach.names.Goals as goal

pub returns : goal.returns
returns c = names_are c.range.result c.range.ensures
