use Rattle.std.proofs.Common.{length}
use Rattle.prove_steps.proofs.choices.+count_of.Given as goal

abbrev pub decreases-count_of : goal.decreases-count_of
decreases-count_of l = length l.places.now
