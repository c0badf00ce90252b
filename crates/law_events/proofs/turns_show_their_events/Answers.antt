use Rattle.law_events.proofs.OpenLemmas.{seen_opens}
use Rattle.law_events.proofs.TurnLemmas.{other_turn, own_turn}
use Rattle.law_events.proofs.turns_show_their_events.Goals as goal

pub returns : goal.returns
returns c = record { own = own_turn; other = other_turn; opens = seen_opens }
