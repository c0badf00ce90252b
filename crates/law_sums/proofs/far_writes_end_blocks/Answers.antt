use Rattle.law_sums.proofs.ReachLemmas.{reached_holds}
use Rattle.law_sums.proofs.far_writes_end_blocks.Goals as goal

pub returns : goal.returns
returns c = reached_holds
