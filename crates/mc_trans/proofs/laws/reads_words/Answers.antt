use Rattle.mc_trans.proofs.Holding.{word_byte}
use Rattle.mc_trans.proofs.laws.reads_words.Goals as goal

pub returns : goal.returns
returns c = word_byte
