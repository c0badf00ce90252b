use Rattle.std.proofs.Common.{◌≡◌, map, take}
use Rattle.prove_facts.specs.model_prove.specs.Between.{union_all}
use Rattle.prove_facts.specs.Sets.{set_of}
use Rattle.prove_patterns.proofs.command_classes.union_all.Given as goal

-- the sets so far are put to the others
abbrev pub invariant-loop-i : goal.invariant-loop-i
invariant-loop-i l = map set_of l.others.items ≡ union_all (take l.i (map set_of l.sets)) (map set_of l.initial.others.items)
