use Rattle.std.proofs.Common.{◌≡◌, ◌≤◌, drop}
use Rattle.prove_facts.specs.model_prove.specs.Texts.{after_each, hex_digits}
use Rattle.prove_patterns.specs.Opens.{opens_of, many_of}
use Rattle.prove_patterns.proofs.reaching.after_each.Given as goal

-- what the digits from one on lead to is there
abbrev pub invariant-loop-digit : goal.invariant-loop-digit
invariant-loop-digit l =
    record { within : l.digit ≤ 16; many : many_of l.many.items ≡ after_each (drop l.digit hex_digits) (opens_of l.opens) }

abbrev pub decreases-loop-digit : goal.decreases-loop-digit
decreases-loop-digit l = l.digit
