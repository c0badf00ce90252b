use Rattle.std.proofs.Common.{length}
use Rattle.prove_sum_steps.proofs.totals.+are_distinct.Given as goal

abbrev pub decreases-are_distinct : goal.decreases-are_distinct
decreases-are_distinct l = length l.sums.now
