use Rattle.law_sum_plays.proofs.KeptDecks.{proved_deck_law}
use Rattle.law_sum_plays.proofs.laws.proved_decks_break_in_no_exploration.Goals as goal

pub returns : goal.returns
returns c = proved_deck_law
