use Rattle.law_residual.proofs.FreeWords.{free_words}
use Rattle.law_residual.proofs.free_words_mean_nothing.Goals as goal

pub returns : goal.returns
returns c = record { same = free_words }
