use Rattle.std.proofs.Common.{length}
use Rattle.prove_steps.proofs.choices.+combined.Given as goal

abbrev pub decreases-combined : goal.decreases-combined
decreases-combined l = length l.places.now
