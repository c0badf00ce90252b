use Rattle.std.proofs.Common.{◌≡◌, ◌-◌, ◌++◌, map}
use Rattle.prove_facts.specs.model_prove.specs.Steps.{any_bytes}
use Rattle.prove_facts.specs.Sets.{set_of}
use Rattle.prove_spots.proofs.lists.any_values.Given as goal

-- what is there, and what is left, are all
abbrev pub invariant-loop-index : goal.invariant-loop-index
invariant-loop-index l = map set_of l.list.items ++ any_bytes (l.n - l._index) ≡ any_bytes l.n
