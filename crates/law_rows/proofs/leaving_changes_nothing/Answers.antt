use Rattle.law_rows.proofs.Keeping.{row_leaves}
use Rattle.law_rows.proofs.leaving_changes_nothing.Goals as goal

pub returns : goal.returns
returns c = record { leaves = row_leaves }
