use Rattle.law_prove.proofs.Places.{place_law}
use Rattle.law_prove.proofs.places_are_covered.Goals as goal

pub returns : goal.returns
returns c = place_law
