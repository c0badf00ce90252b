use Rattle.std.proofs.Common.{◌≡◌, ◌≤◌, length, drop}
use Rattle.prove_facts.specs.model_prove.specs.Texts.{after_digit}
use Rattle.prove_patterns.specs.Opens.{many_of}
use Rattle.prove_patterns.proofs.reaching.after_digit.Given as goal

-- what those from a place on lead to is there
abbrev pub invariant-loop-i : goal.invariant-loop-i
invariant-loop-i l =
    record { within : l.i ≤ length l.from; many : many_of l.many.items ≡ after_digit (many_of (drop l.i l.from)) }

abbrev pub decreases-loop-i : goal.decreases-loop-i
decreases-loop-i l = l.i
