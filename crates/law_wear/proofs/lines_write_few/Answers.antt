use Rattle.law_wear.proofs.Plays.{wear_law}
use Rattle.law_wear.proofs.lines_write_few.Goals as goal

pub returns : goal.returns
returns c = record { few = wear_law }
