use Rattle.law_prove_closed.proofs.Decks.{deck_law}
use Rattle.law_prove_closed.proofs.decks_are_kept.Goals as goal

pub returns : goal.returns
returns c = deck_law
