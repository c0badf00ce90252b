use Rattle.std.proofs.Common.{◌≡◌, ◌-◌, ◌++◌, length, take, drop}
use Rattle.prove_facts.specs.model_prove.specs.Reach as reach
use Rattle.prove_keys.specs.Keys.{calls_of}
use Rattle.prove_scenes.specs.Scenes.{frame_to}
use Rattle.prove_works.specs.Reaches.{reach_value, calls_from}
use Rattle.prove_works.proofs.HitLemmas.{under}
use Rattle.prove_works.proofs.hits.calls_hit.Given as goal

-- the places so far, and those of the calls that are left, are all
abbrev pub invariant-loop-passed : goal.invariant-loop-passed
invariant-loop-passed l =
    calls_from l.calls l.places.items ++ under (calls_of (drop (length l.calls - l.passed) l.calls)) (reach.calls_hit (frame_to l.scene l.dt) (reach_value l.reach) (calls_of (take (length l.calls - l.passed) l.calls)))
    ≡ reach.calls_hit (frame_to l.scene l.dt) (reach_value l.reach) (calls_of l.calls)
