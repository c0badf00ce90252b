use Rattle.std.proofs.Common.{refl}
use Rattle.mc_lab.specs.SweptRows.{swept_deck}
use Rattle.mc_lab.proofs.sweep_rows.power_that_migrates.Goals as goal

-- more steps than a search takes
pub returns : goal.returns
unfolding swept_deck
returns c = refl
