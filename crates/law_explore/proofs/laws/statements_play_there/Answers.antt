use Rattle.law_explore.proofs.Statements.{statements_law}
use Rattle.law_explore.proofs.laws.statements_play_there.Goals as goal

pub returns : goal.returns
returns c = statements_law
