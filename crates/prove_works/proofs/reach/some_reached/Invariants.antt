use Rattle.std.proofs.Common.{◌≡◌, ◌+◌, ◌-◌}
use Rattle.prove_facts.specs.model_prove.specs.Reach.{some_reached}
use Rattle.prove_scenes.specs.Scenes.{frame_to}
use Rattle.prove_works.specs.Reaches.{reach_value}
use Rattle.prove_works.proofs.reach.some_reached.Given as goal

-- the bytes that are left decide
abbrev pub invariant-loop-i : goal.invariant-loop-i
invariant-loop-i l =
    some_reached (frame_to l.scene l.dt) (reach_value l.reach) (l.at + l.i) (l.count - l.i)
    ≡ some_reached (frame_to l.scene l.dt) (reach_value l.reach) l.at l.count
