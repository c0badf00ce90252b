use Rattle.std.proofs.Common.{◌++◌, drop}
use Rattle.prove_sums.specs.model_sums.specs.Closed.{all_pass, choice_closed}
use Rattle.prove_steps.specs.Choices.{choice_of, choices_of}
use Rattle.prove_sum_steps.specs.Walks.{Leaves, turn_of}
use Rattle.prove_sum_steps.proofs.branching.each_after_holds.Given as goal

-- if it is with the choices that are left, it is with all
abbrev pub invariant-loop-second : goal.invariant-loop-second
invariant-loop-second l =
    Leaves l.turn
    (λ names s u. all_pass (λ d. choice_closed s u (turn_of names s l.turn) (l.first ++ choice_of d)) (drop l.second-index l.list))
    (λ names s u. all_pass (λ d. choice_closed s u (turn_of names s l.turn) (l.first ++ d)) (choices_of l.list))
