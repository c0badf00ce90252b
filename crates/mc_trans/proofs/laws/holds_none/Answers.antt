use Rattle.mc_trans.proofs.Holding.{none_held}
use Rattle.mc_trans.proofs.laws.holds_none.Goals as goal

pub returns : goal.returns
returns c = none_held
