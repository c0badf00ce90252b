use Rattle.mc_check.proofs.CheckedPlays.{checked_plays_law}
use Rattle.mc_check.proofs.laws.checked_plays.Goals as goal

pub returns : goal.returns
returns c = checked_plays_law
