use Rattle.std.proofs.Common.{◌≡◌, ◌++◌, map, drop}
use Rattle.prove_facts.specs.model_prove.specs.Steps.{sets}
use Rattle.prove_facts.specs.Sets.{set_of}
use Rattle.prove_spots.proofs.lists.only_values.Given as goal

-- the values so far, and those of the bytes that are left, are those of all
abbrev pub invariant-loop-byte : goal.invariant-loop-byte
invariant-loop-byte l = map set_of l.list.items ++ sets (drop l.byte-index l.bytes) ≡ sets l.bytes
