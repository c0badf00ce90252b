use Rattle.std.proofs.Common.{◌≡◌, ◌≤◌, length, map, drop}
use Rattle.prove_facts.specs.model_prove.specs.Texts.{matches_of}
use Rattle.prove_facts.specs.model_prove.specs.Arrivals.{distinct}
use Rattle.prove_patterns.specs.Opens.{many_of}
use Rattle.prove_patterns.specs.Replies.{combinations_of}
use Rattle.prove_patterns.proofs.combining.combinations.Given as goal

-- the combinations from a place on are there
abbrev pub invariant-loop-i : goal.invariant-loop-i
invariant-loop-i l =
    record { within : l.i ≤ length l.many; found : combinations_of l.found.items ≡ distinct (map matches_of (many_of (drop l.i l.many))) }

abbrev pub decreases-loop-i : goal.decreases-loop-i
decreases-loop-i l = l.i
