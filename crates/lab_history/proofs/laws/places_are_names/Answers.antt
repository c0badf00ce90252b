use Rattle.lab_history.proofs.NameLemmas.{line_is}
use Rattle.lab_history.proofs.laws.places_are_names.Goals as goal

pub returns : goal.returns
returns c = line_is
