use Rattle.law_sums.proofs.CopyLemmas.{copied_holds}
use Rattle.law_sums.proofs.copies_move_blocks.Goals as goal

pub returns : goal.returns
returns c = copied_holds
