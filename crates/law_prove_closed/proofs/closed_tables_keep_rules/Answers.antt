use Rattle.law_prove_closed.proofs.Rows.{closed_law}
use Rattle.law_prove_closed.proofs.closed_tables_keep_rules.Goals as goal

pub returns : goal.returns
returns c = closed_law
