use Rattle.std.proofs.Common.{◌≡◌, drop}
use Rattle.prove_facts.specs.model_prove.specs.Arrivals.{some_value}
use Rattle.prove_facts.specs.model_prove.specs.Steps as steps
use Rattle.prove_works.specs.Searches.{sets_of}
use Rattle.prove_works.proofs.searches.some_pass.Given as goal

-- the values that are left decide
abbrev pub invariant-loop-value : goal.invariant-loop-value
invariant-loop-value l =
    some_value (λ v. steps.may_pass v (sets_of l.table)) (drop l.value-index l.list) ≡ some_value (λ v. steps.may_pass v (sets_of l.table)) l.list
