use Rattle.mc_dead_word.proofs.Again.{stuck_law}
use Rattle.mc_dead_word.proofs.targets_fail_again.Goals as goal

pub returns : goal.returns
returns c = record { stuck = stuck_law }
