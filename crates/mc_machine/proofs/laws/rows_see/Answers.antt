use Rattle.mc_machine.proofs.Alike.{rows_alike}
use Rattle.mc_machine.proofs.laws.rows_see.Goals as goal

pub returns : goal.returns
returns c = rows_alike
