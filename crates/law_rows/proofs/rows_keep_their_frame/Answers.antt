use Rattle.law_rows.proofs.Keeping.{row_keeps}
use Rattle.law_rows.proofs.rows_keep_their_frame.Goals as goal

pub returns : goal.returns
returns c = record { keeps = row_keeps }
