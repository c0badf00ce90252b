use Rattle.mc_dead_word.proofs.Powers.{one_card_law}
use Rattle.mc_dead_word.proofs.dead_words_leave_one_card.Goals as goal

pub returns : goal.returns
returns c = record { one_card = one_card_law }
