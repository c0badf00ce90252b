use Rattle.std.proofs.Common.{◌≡◌, drop}
use Rattle.prove_facts.specs.model_prove.specs.Steps as steps
use Rattle.prove_works.specs.Searches.{sets_of}
use Rattle.prove_works.proofs.searches.may_pass.Given as goal

-- what is left of the table decides
abbrev pub invariant-loop-values : goal.invariant-loop-values
invariant-loop-values l = steps.may_pass l.value (drop l.values-index (sets_of l.table)) ≡ steps.may_pass l.value (sets_of l.table)
