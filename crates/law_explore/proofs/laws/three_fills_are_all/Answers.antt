use Rattle.law_explore.proofs.Actions.{fill_law}
use Rattle.law_explore.proofs.laws.three_fills_are_all.Goals as goal

pub returns : goal.returns
returns c = fill_law
