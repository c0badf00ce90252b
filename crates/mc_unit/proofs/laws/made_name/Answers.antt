use Rattle.mc_unit.proofs.Made as made
use Rattle.mc_unit.proofs.laws.made_name.Goals as goal

pub returns : goal.returns
returns c = made.made_name
