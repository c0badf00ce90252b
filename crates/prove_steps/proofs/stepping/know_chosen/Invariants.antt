use Rattle.std.proofs.Common.{◌≡◌, drop}
use Rattle.prove_facts.specs.model_rules.specs.Keeping.{Amounts}
use Rattle.prove_facts.specs.model_prove.specs.Keys.{Start}
use Rattle.prove_facts.specs.model_prove.specs.Steps as steps
use Rattle.prove_spots.specs.Grounds.{spot_of}
use Rattle.prove_steps.proofs.stepping.know_chosen.Given as goal

-- the values that are left make of the place from here what all of them make of it from the start
abbrev pub invariant-loop-at : goal.invariant-loop-at
invariant-loop-at l = (s : Start) (a : Amounts) → steps.chosen (drop l.at-index l.choice) (spot_of s a l.spot) ≡ steps.chosen l.choice (spot_of s a l.fn.spot)
