use Rattle.std.proofs.Common.{◌≡◌, ◌+◌, drop}
use Rattle.prove_patterns.specs.Opens.{opens_of}
use Rattle.prove_patterns.specs.Headers.{groups_of, place_of}
use Rattle.prove_patterns.proofs.command_headers.place_of.Given as goal

-- the place is among those that are left
abbrev pub invariant-loop-i : goal.invariant-loop-i
invariant-loop-i l = place_of (opens_of l.left) (groups_of l.groups) ≡ l.i + place_of (opens_of l.left) (groups_of (drop l.i l.groups))
