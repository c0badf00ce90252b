use Rattle.law_histories.proofs.KeptLemmas.{only_target_law}
use Rattle.law_histories.proofs.laws.moves_without_creations_break_no_rules.Goals as goal

pub returns : goal.returns
returns c = only_target_law
