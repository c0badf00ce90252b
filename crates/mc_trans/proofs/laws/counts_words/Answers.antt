use Rattle.mc_trans.proofs.Counting.{words_counted}
use Rattle.mc_trans.proofs.laws.counts_words.Goals as goal

pub returns : goal.returns
returns c = words_counted
