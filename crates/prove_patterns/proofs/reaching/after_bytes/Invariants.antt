use Rattle.std.proofs.Common.{◌≡◌, ◌≤◌}
use Rattle.prove_facts.specs.model_prove.specs.Texts.{after_bytes}
use Rattle.prove_patterns.specs.Opens.{opens_of, many_of}
use Rattle.prove_patterns.specs.Ways.{values_from}
use Rattle.prove_patterns.proofs.reaching.after_bytes.Given as goal

-- what the values from one on lead to is there
abbrev pub invariant-loop-end : goal.invariant-loop-end
invariant-loop-end l =
    record { within : l.end ≤ 256; many : many_of l.many.items ≡ after_bytes (values_from l.set.words l.end) (opens_of l.opens) }

abbrev pub decreases-loop-end : goal.decreases-loop-end
decreases-loop-end l = l.end
