use Rattle.model_examples.proofs.FirstDeck as deck
use Rattle.model_examples.proofs.generated.first_summary.Goals as goal

pub returns : goal.returns
returns c = deck.first_summary
