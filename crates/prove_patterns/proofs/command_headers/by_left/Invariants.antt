use Rattle.std.proofs.Common.{◌≡◌, ◌≤◌, ◌*◌}
use Rattle.prove_facts.specs.model_prove.specs.Between.{by_left}
use Rattle.prove_patterns.specs.Opens.{opens_of}
use Rattle.prove_patterns.specs.Ways.{values_from}
use Rattle.prove_patterns.specs.Headers.{groups_of}
use Rattle.prove_patterns.proofs.command_headers.by_left.Given as goal

-- the values from a high digit on are in their groups
abbrev pub invariant-loop-high : goal.invariant-loop-high
invariant-loop-high l =
    record { within : l.high ≤ 16; groups : groups_of l.groups.items ≡ by_left (opens_of l.opens) (values_from l.set.words (16 * l.high)) }

abbrev pub decreases-loop-high : goal.decreases-loop-high
decreases-loop-high l = l.high
