use Rattle.std.proofs.Common.{◌≡◌, ◌++◌}
use Rattle.prove_facts.specs.Sets.{set_of}
use Rattle.prove_works.proofs.SetSteps.{values_after}
use Rattle.prove_works.proofs.lists.list_of.Given as goal

-- the values so far, and those that are left, are all
abbrev pub invariant-loop-value : goal.invariant-loop-value
invariant-loop-value l = l.list.items ++ values_after l.values.words l.value ≡ set_of l.values
