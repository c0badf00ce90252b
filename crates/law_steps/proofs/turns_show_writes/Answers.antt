use Rattle.law_steps.proofs.Waits.{writes_law}
use Rattle.law_steps.proofs.turns_show_writes.Goals as goal

pub returns : goal.returns
returns c = record { writes = writes_law }
