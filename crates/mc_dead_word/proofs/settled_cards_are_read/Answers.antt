use Rattle.mc_dead_word.proofs.Again.{settled_law}
use Rattle.mc_dead_word.proofs.settled_cards_are_read.Goals as goal

pub returns : goal.returns
returns c = record { settled = settled_law }
