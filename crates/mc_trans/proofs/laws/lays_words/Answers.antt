use Rattle.mc_trans.proofs.Holding.{words_laid}
use Rattle.mc_trans.proofs.laws.lays_words.Goals as goal

pub returns : goal.returns
returns c = words_laid
