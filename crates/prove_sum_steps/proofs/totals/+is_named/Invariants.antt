use Rattle.std.proofs.Common.{length}
use Rattle.prove_sum_steps.proofs.totals.+is_named.Given as goal

abbrev pub decreases-is_named : goal.decreases-is_named
decreases-is_named l = length l.sums.now
