use Rattle.law_machine.proofs.FewRuns.{few_runs_law}
use Rattle.law_machine.proofs.laws.runs_write_few_words.Goals as goal

pub returns : goal.returns
returns c = few_runs_law
