use Rattle.mc_reader.proofs.LawLemmas.{session_answered, session_runs}
use Rattle.mc_reader.proofs.laws.commands_are_answered.Goals as goal

pub returns : goal.returns
returns c = record { answers = record { runs = session_runs; answered = session_answered } }
