use Rattle.std.proofs.Common.{flat_map, drop}
use Rattle.prove_steps.specs.Choices.{choice_of, choices_of}
use Rattle.prove_steps.specs.Steps.{Leaves, by_first_choice}
use Rattle.prove_steps.proofs.branching.each_first_holds.Given as goal

-- with the choices that are left, all is accepted
abbrev pub invariant-loop-first : goal.invariant-loop-first
invariant-loop-first l =
    Leaves l.subject l.fetched.amounts.now
    (λ names s. flat_map (λ d. by_first_choice names s l.subject l.fetched (choice_of d)) (drop l.first-index l.list))
    (λ names s. flat_map (by_first_choice names s l.subject l.fetched) (choices_of l.list))
