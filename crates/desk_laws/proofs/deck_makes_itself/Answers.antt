use Rattle.desk_laws.proofs.SelfDecks.{deck_makes_itself}
use Rattle.desk_laws.proofs.deck_makes_itself.Goals as goal

pub returns : goal.returns
returns c = deck_makes_itself
