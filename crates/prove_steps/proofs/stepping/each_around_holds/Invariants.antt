use Rattle.std.proofs.Common.{flat_map, map, drop}
use Rattle.prove_scenes.specs.Heads.{around_value}
use Rattle.prove_steps.specs.Steps.{Leaves, in_scene}
use Rattle.prove_steps.proofs.stepping.each_around_holds.Given as goal

-- with what is left that the row may know, all is accepted
abbrev pub invariant-loop-around : goal.invariant-loop-around
invariant-loop-around l =
    Leaves l.subject l.fetched.amounts.now
    (λ names s. flat_map (λ x. in_scene names s l.subject l.fetched l.scene l.after (around_value x)) (drop l.around-index l.list))
    (λ names s. flat_map (in_scene names s l.subject l.fetched l.scene l.after) (map around_value l.list))
