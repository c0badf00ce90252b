use Rattle.law_closed.proofs.Plays.{closed_by_code_law}
use Rattle.law_closed.proofs.families_are_closed_by_code.Goals as goal

pub returns : goal.returns
returns c = record { closed = closed_by_code_law }
