use Rattle.law_events.proofs.LineLemmas.{line_law}
use Rattle.law_events.proofs.lines_have_the_events_of_their_turns.Goals as goal

pub returns : goal.returns
returns c = line_law
