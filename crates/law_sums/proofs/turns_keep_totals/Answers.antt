use Rattle.law_sums.proofs.TurnLemmas.{turn_holds}
use Rattle.law_sums.proofs.turns_keep_totals.Goals as goal

pub returns : goal.returns
returns c = turn_holds
