use Rattle.law_sum_plays.proofs.All.{all_rows}
use Rattle.law_sum_plays.proofs.rows_move_sums.Goals as goal

pub returns : goal.returns
returns c = all_rows
