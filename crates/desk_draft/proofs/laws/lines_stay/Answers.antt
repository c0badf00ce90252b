use Rattle.desk_draft.proofs.StayLemmas.{lines_stay}
use Rattle.desk_draft.proofs.laws.lines_stay.Goals as goal

pub returns : goal.returns
returns c = lines_stay
