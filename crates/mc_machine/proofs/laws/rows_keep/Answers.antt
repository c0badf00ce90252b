use Rattle.mc_machine.proofs.Kept.{row_keeps}
use Rattle.mc_machine.proofs.laws.rows_keep.Goals as goal

pub returns : goal.returns
returns c = row_keeps
