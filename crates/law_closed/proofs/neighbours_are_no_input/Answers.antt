use Rattle.law_closed.proofs.Needed.{needed_law, same_needed_law}
use Rattle.law_closed.proofs.neighbours_are_no_input.Goals as goal

pub returns : goal.returns
returns c = record { needed = needed_law; same = same_needed_law }
