use Rattle.law_sums.proofs.EventLemmas.{event_moves}
use Rattle.law_sums.proofs.events_move_totals.Goals as goal

pub returns : goal.returns
returns c = event_moves
