use Rattle.std.proofs.Common.{◌≡◌, ◌++◌, ◌-◌, filter, ℕ}
use Rattle.std.specs.Prelude.{map}
use Rattle.prove_facts.specs.model_prove.specs.Reach.{is_reached}
use Rattle.prove_facts.specs.model_prove.specs.Sets.{numbers_from}
use Rattle.prove_forms.specs.model_sums.specs.Origins as origins
use Rattle.prove_forms.specs.Origins.{listed_values}
use Rattle.prove_scenes.specs.Scenes.{frame_to}
use Rattle.prove_works.specs.Reaches.{reach_value}
use Rattle.prove_sums.proofs.coarse.add_reached.Given as goal

-- those so far, and those that are left, are all
abbrev pub invariant-loop-at : goal.invariant-loop-at
invariant-loop-at l =
    listed_values l.listed.items ++ map (λ (a : ℕ). (a, origins.Unknown)) (filter (is_reached (frame_to l.scene l.dt) (reach_value l.reach)) (numbers_from l.at (l.to - l.at)))
    ≡ listed_values l.fn.listed.items ++ map (λ (a : ℕ). (a, origins.Unknown)) (filter (is_reached (frame_to l.scene l.dt) (reach_value l.reach)) (numbers_from l.from (l.to - l.from)))
