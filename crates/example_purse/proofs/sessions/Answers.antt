use Rattle.example_purse.proofs.PurseLaws.{sessions_law}
use Rattle.example_purse.proofs.sessions.Goals as goal

pub returns : goal.returns
returns c = sessions_law
