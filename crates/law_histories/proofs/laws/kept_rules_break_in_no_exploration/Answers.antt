use Rattle.law_histories.proofs.KeptLemmas.{exploration_law}
use Rattle.law_histories.proofs.laws.kept_rules_break_in_no_exploration.Goals as goal

pub returns : goal.returns
returns c = exploration_law
