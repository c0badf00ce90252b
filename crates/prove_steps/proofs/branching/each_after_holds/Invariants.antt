use Rattle.std.proofs.Common.{◌++◌, flat_map, drop}
use Rattle.prove_steps.specs.Choices.{choice_of, choices_of}
use Rattle.prove_steps.specs.Steps.{Leaves, by_choice}
use Rattle.prove_steps.proofs.branching.each_after_holds.Given as goal

-- with the choices that are left, all is accepted
abbrev pub invariant-loop-second : goal.invariant-loop-second
invariant-loop-second l =
    Leaves l.subject l.fetched.amounts.now
    (λ names s. flat_map (λ d. by_choice names s l.subject l.fetched (l.first ++ choice_of d)) (drop l.second-index l.list))
    (λ names s. flat_map (λ d. by_choice names s l.subject l.fetched (l.first ++ d)) (choices_of l.list))
