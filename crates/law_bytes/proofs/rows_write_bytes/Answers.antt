use Rattle.law_bytes.proofs.RowBytes.{row_bytes}
use Rattle.law_bytes.proofs.rows_write_bytes.Goals as goal

pub returns : goal.returns
returns c = row_bytes
