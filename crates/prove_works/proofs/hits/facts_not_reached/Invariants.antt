use Rattle.std.proofs.Common.{◌≡◌, drop}
use Rattle.prove_facts.specs.Facts.{facts_of}
use Rattle.prove_scenes.specs.Scenes.{frame_to}
use Rattle.prove_works.specs.Reaches.{reach_value}
use Rattle.prove_works.proofs.HitLemmas.{left_of}
use Rattle.prove_works.proofs.hits.facts_not_reached.Given as goal

-- what the rest leaves of the facts is what all leave of those at the start
abbrev pub invariant-loop-fact : goal.invariant-loop-fact
invariant-loop-fact l =
    left_of (frame_to l.scene l.dt) (reach_value l.reach) (drop l.fact-index (facts_of l.list)) l.left
    ≡ left_of (frame_to l.scene l.dt) (reach_value l.reach) l.facts l.facts
