use Rattle.law_machine.proofs.RowWords.{few_words_law}
use Rattle.law_machine.proofs.laws.rows_write_few_words.Goals as goal

pub returns : goal.returns
returns c = few_words_law
