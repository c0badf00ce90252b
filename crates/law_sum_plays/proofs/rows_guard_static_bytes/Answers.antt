use Rattle.law_sum_plays.proofs.Protection.{row_guards}
use Rattle.law_sum_plays.proofs.rows_guard_static_bytes.Goals as goal

pub returns : goal.returns
returns c = row_guards
