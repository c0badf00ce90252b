use Rattle.model_prove.proofs.FactLemmas.{join_left, join_right}
use Rattle.model_prove.proofs.laws.joining_weakens.Goals as goal

pub returns : goal.returns
returns c = record { first = join_left; second = join_right }
