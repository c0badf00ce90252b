use Rattle.law_prove_closed.proofs.Rows.{all_rows}
use Rattle.law_prove_closed.proofs.rows_are_covered.Goals as goal

pub returns : goal.returns
returns c = all_rows
