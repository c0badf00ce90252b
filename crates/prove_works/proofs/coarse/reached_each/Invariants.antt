use Rattle.std.proofs.Common.{◌≡◌, ◌++◌, drop}
use Rattle.std.specs.Prelude.{map}
use Rattle.prove_facts.specs.model_rules.specs.Keeping.{Amounts}
use Rattle.prove_facts.specs.model_prove.specs.Keys.{Start}
use Rattle.prove_facts.specs.model_prove.specs.Steps as steps
use Rattle.prove_keys.specs.Keys.{calls_of}
use Rattle.prove_scenes.specs.Scenes.{frame_to}
use Rattle.prove_spots.specs.Grounds.{spot_of}
use Rattle.prove_works.specs.Reaches.{reach_value}
use Rattle.prove_works.proofs.coarse.reached_each.Given as goal

-- the places so far, and those that are left, are all
abbrev pub invariant-loop-place : goal.invariant-loop-place
invariant-loop-place l =
    (s : Start) (a : Amounts)
    → map (spot_of s a) l.spots.items ++ map (λ i. steps.with_flags l.flags (steps.reached_spot (frame_to l.scene l.dt) (reach_value l.reach) (spot_of s a l.spot) (calls_of (drop i l.calls)))) (drop l.place-index l.list)
    ≡ map (λ i. steps.with_flags l.flags (steps.reached_spot (frame_to l.scene l.dt) (reach_value l.reach) (spot_of s a l.spot) (calls_of (drop i l.calls)))) l.list
