use Rattle.std.proofs.Common.{◌≡◌, ◌++◌, drop}
use Rattle.std.specs.Prelude.{map, true}
use Rattle.prove_facts.specs.model_rules.specs.Keeping.{Amounts}
use Rattle.prove_facts.specs.model_prove.specs.Keys.{Start}
use Rattle.prove_facts.specs.model_prove.specs.Steps as steps
use Rattle.prove_spots.specs.Grounds.{spot_of}
use Rattle.prove_works.proofs.searched.found_at_each.Given as goal

-- the places so far, and those that are left, are all
abbrev pub invariant-loop-index : goal.invariant-loop-index
invariant-loop-index l =
    (s : Start) (a : Amounts)
    → map (spot_of s a) l.spots.items ++ map (λ i. steps.found true i (spot_of s a l.spot)) (drop l.index-index l.list)
    ≡ map (λ i. steps.found true i (spot_of s a l.spot)) l.list
