use Rattle.mc_reader.proofs.SessionDeckLemmas.{session_law}
use Rattle.mc_reader.proofs.laws.a_session_is_a_deck.Goals as goal

pub returns : goal.returns
returns c = record { session = session_law }
