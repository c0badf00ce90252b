use Rattle.law_closed.proofs.SameGiven.{same_given_law}
use Rattle.law_closed.proofs.families_see_what_they_are_given.Goals as goal

pub returns : goal.returns
returns c = record { same = same_given_law }
