use Rattle.law_wear.proofs.OfWord.{item_wear_law, word_wear_law}
use Rattle.law_wear.proofs.plays_wear_words_by_atomic_writes.Goals as goal

pub returns : goal.returns
returns c = record { items = item_wear_law; plays = word_wear_law }
