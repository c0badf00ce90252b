use Rattle.std.proofs.Common.{refl}
use Rattle.model_examples.specs.Verdicts.{verdicts}
use Rattle.model_examples.proofs.decks.verdicts.one_of_four_accepted.Goals as goal

pub returns : goal.returns
unfolding verdicts
returns c = refl
