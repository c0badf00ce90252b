use Rattle.law_sum_plays.proofs.Decks.{deck_law}
use Rattle.law_sum_plays.proofs.sums_of_decks_are_kept.Goals as goal

pub returns : goal.returns
returns c = deck_law
