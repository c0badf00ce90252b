use Rattle.std.proofs.Common.{◌≡◌, drop}
use Rattle.model_machine.specs.Row.{first_cause}
use Rattle.prove_scenes.specs.Counting.{counted_causes}
use Rattle.prove_scenes.proofs.counting.first_of.Given as goal

-- the first of the causes that are left is the first of all
abbrev pub invariant-loop-abend : goal.invariant-loop-abend
invariant-loop-abend l = first_cause (counted_causes l.counted (drop l.abend-index l.causes)) ≡ first_cause (counted_causes l.counted l.causes)
