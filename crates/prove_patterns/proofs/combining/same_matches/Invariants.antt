use Rattle.std.proofs.Common.{◌≡◌, drop}
use Rattle.prove_facts.specs.model_prove.specs.Keys.{same_lists}
use Rattle.prove_facts.specs.model_prove.specs.Digits.{same}
use Rattle.prove_patterns.proofs.combining.same_matches.Given as goal

-- what is left of both decides
abbrev pub invariant-loop-i : goal.invariant-loop-i
invariant-loop-i l = same_lists same l.first l.second ≡ same_lists same (drop l.i l.first) (drop l.i l.second)
