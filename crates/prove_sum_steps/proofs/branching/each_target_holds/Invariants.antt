use Rattle.std.proofs.Common.{◌-◌, filter}
use Rattle.prove_facts.specs.model_prove.specs.Reach.{address_choice}
use Rattle.prove_facts.specs.model_prove.specs.Sets.{numbers_from}
use Rattle.prove_sums.specs.model_sums.specs.Closed.{all_pass, choice_closed}
use Rattle.prove_steps.specs.Steps.{is_target}
use Rattle.prove_sum_steps.specs.Walks.{Leaves, turn_of}
use Rattle.prove_sum_steps.proofs.branching.each_target_holds.Given as goal

-- if it is for the addresses that are left, it is for all
abbrev pub invariant-loop-target : goal.invariant-loop-target
invariant-loop-target l =
    Leaves l.turn
    (λ names s u. all_pass (λ v. choice_closed s u (turn_of names s l.turn) (address_choice l.at v)) (filter (is_target l.turn.spot.now.bytes l.at) (numbers_from l.target (l.limit - l.target))))
    (λ names s u. all_pass (λ v. choice_closed s u (turn_of names s l.turn) (address_choice l.at v)) (filter (is_target l.turn.spot.now.bytes l.at) (numbers_from 0 l.limit)))
