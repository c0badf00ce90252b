use Rattle.std.proofs.Common.{◌≡◌, drop}
use Rattle.prove_facts.specs.model_prove.specs.Arrivals.{has_combination}
use Rattle.prove_patterns.specs.Replies.{combinations_of}
use Rattle.prove_patterns.proofs.combining.has_combination.Given as goal

-- what is left of them decides
abbrev pub invariant-loop-other : goal.invariant-loop-other
invariant-loop-other l = has_combination l.matches (combinations_of l.others) ≡ has_combination l.matches (combinations_of (drop l.other-index l.others))
