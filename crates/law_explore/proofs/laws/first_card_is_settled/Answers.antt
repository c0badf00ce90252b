use Rattle.law_explore.proofs.Starts.{first_law}
use Rattle.law_explore.proofs.laws.first_card_is_settled.Goals as goal

pub returns : goal.returns
returns c = first_law
