use Rattle.law_sum_plays.proofs.Decks.{transaction_kept}
use Rattle.law_sum_plays.proofs.transaction_is_kept.Goals as goal

pub returns : goal.returns
returns c = transaction_kept
