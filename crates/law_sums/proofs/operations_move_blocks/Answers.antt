use Rattle.law_sums.proofs.CopyLemmas.{operated_holds}
use Rattle.law_sums.proofs.operations_move_blocks.Goals as goal

pub returns : goal.returns
returns c = operated_holds
