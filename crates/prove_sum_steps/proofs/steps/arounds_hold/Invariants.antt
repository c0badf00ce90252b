use Rattle.std.proofs.Common.{drop, map}
use Rattle.prove_sums.specs.model_sums.specs.Closed.{all_pass, turn_closed}
use Rattle.prove_scenes.specs.Heads.{around_value}
use Rattle.prove_sum_steps.specs.Walks.{Leaves, turn_in}
use Rattle.prove_sum_steps.proofs.steps.arounds_hold.Given as goal

-- if it is with what is left that the instruction may know, it is with all
abbrev pub invariant-loop-around : goal.invariant-loop-around
invariant-loop-around l =
    Leaves l.turn
    (λ names s u. all_pass (λ x. turn_closed s u (turn_in names l.turn l.scene) (around_value x)) (drop l.around-index l.list))
    (λ names s u. all_pass (turn_closed s u (turn_in names l.turn l.scene)) (map around_value l.list))
