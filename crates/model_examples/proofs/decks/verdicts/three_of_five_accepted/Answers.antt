use Rattle.std.proofs.Common.{refl}
use Rattle.model_examples.specs.Verdicts.{verdicts}
use Rattle.model_examples.proofs.decks.verdicts.three_of_five_accepted.Goals as goal

pub returns : goal.returns
unfolding verdicts
returns c = refl
