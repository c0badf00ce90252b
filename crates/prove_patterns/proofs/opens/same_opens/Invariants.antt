use Rattle.std.proofs.Common.{◌≡◌, drop}
use Rattle.prove_facts.specs.model_prove.specs.Texts.{same_opens}
use Rattle.prove_patterns.specs.Opens.{opens_of}
use Rattle.prove_patterns.proofs.opens.same_opens.Given as goal

-- what is left of both decides
abbrev pub invariant-loop-i : goal.invariant-loop-i
invariant-loop-i l = same_opens (opens_of l.first) (opens_of l.second) ≡ same_opens (opens_of (drop l.i l.first)) (opens_of (drop l.i l.second))
