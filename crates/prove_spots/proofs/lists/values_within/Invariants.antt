use Rattle.std.proofs.Common.{◌≡◌, ◌+◌, ◌-◌, ◌++◌, map}
use Rattle.prove_facts.specs.model_prove.specs.Facts.{values_from}
use Rattle.prove_facts.specs.Sets.{set_of}
use Rattle.prove_spots.proofs.lists.values_within.Given as goal

-- the values so far, and those of the bytes that are left, are those of all
abbrev pub invariant-loop-index : goal.invariant-loop-index
invariant-loop-index l = map set_of l.list.items ++ values_from l.facts (l.at + l.index) (l.n - l.index) ≡ values_from l.facts l.at l.n
