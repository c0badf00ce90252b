use Rattle.std.proofs.Common.{◌≡◌, bytes_eq, drop}
use Rattle.prove_facts.specs.model_prove.specs.Keys.{same_lists}
use Rattle.prove_patterns.specs.Ways.{texts}
use Rattle.prove_patterns.proofs.opens.same_ways.Given as goal

-- what is left of both decides
abbrev pub invariant-loop-i : goal.invariant-loop-i
invariant-loop-i l =
    same_lists bytes_eq (texts l.first) (texts l.second) ≡ same_lists bytes_eq (texts (drop l.i l.first)) (texts (drop l.i l.second))
