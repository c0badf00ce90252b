use Rattle.law_family.proofs.DefinitionLemmas.{run_count}
use Rattle.law_family.proofs.definitions.counts_within_budget.Goals as goal

pub returns : goal.returns
returns c = run_count
