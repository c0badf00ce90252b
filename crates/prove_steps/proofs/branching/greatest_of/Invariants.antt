use Rattle.std.proofs.Common.{◌≡◌, ◌≤◌, ◌-◌, filter}
use Rattle.prove_facts.specs.model_prove.specs.Reach.{greatest_value}
use Rattle.prove_facts.specs.model_prove.specs.Sets.{numbers_from}
use Rattle.prove_facts.specs.Sets.{has_value, set_of}
use Rattle.prove_steps.proofs.TargetLemmas.{greater}
use Rattle.prove_steps.proofs.branching.greatest_of.Given as goal

-- the greatest is that so far, or the greatest of the values from here on
abbrev pub invariant-loop-value : goal.invariant-loop-value
invariant-loop-value l =
    (l.greatest ≤ l.value)
    × (greater l.greatest (greatest_value (filter (has_value l.values) (numbers_from l.value (256 - l.value)))) ≡ greatest_value (set_of l.values))
