use Rattle.law_sum_plays.proofs.KeptDecks.{needs_premise}
use Rattle.law_sum_plays.proofs.laws.kept_rules_need_their_application.Goals as goal

pub returns : goal.returns
returns c = needs_premise
