use Rattle.std.proofs.Common.{◌≡◌, false}
use Rattle.prove_scenes.specs.Scenes.{frame_to}
use Rattle.prove_works.specs.Reaches.{reach_value, reaches_below}
use Rattle.prove_works.proofs.reach.is_reached.Given as goal

-- it is reached from none of the bytes so far
abbrev pub invariant-loop-before : goal.invariant-loop-before
invariant-loop-before l = reaches_below (frame_to l.scene l.dt) (reach_value l.reach) l.at l.before ≡ false
