use Rattle.std.proofs.Common.{drop}
use Rattle.prove_sums.specs.model_sums.specs.Closed.{all_pass, first_choice_closed}
use Rattle.prove_steps.specs.Choices.{choice_of, choices_of}
use Rattle.prove_sum_steps.specs.Walks.{Leaves, turn_of}
use Rattle.prove_sum_steps.proofs.branching.each_first_holds.Given as goal

-- if it is after the first choices that are left, it is after all
abbrev pub invariant-loop-first : goal.invariant-loop-first
invariant-loop-first l =
    Leaves l.turn
    (λ names s u. all_pass (λ d. first_choice_closed s u (turn_of names s l.turn) (choice_of d)) (drop l.first-index l.list))
    (λ names s u. all_pass (first_choice_closed s u (turn_of names s l.turn)) (choices_of l.list))
