use Rattle.law_machine.proofs.RowWords.{few_writes_law}
use Rattle.law_machine.proofs.laws.few_words_cost_few_writes.Goals as goal

pub returns : goal.returns
returns c = few_writes_law
