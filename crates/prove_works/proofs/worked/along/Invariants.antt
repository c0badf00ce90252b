use Rattle.std.proofs.Common.{◌≡◌, ◌++◌, drop}
use Rattle.std.specs.Prelude.{map, flat_map}
use Rattle.prove_facts.specs.model_rules.specs.Keeping.{Amounts}
use Rattle.prove_facts.specs.model_prove.specs.Keys.{Start}
use Rattle.prove_digits.specs.Ways.{way_value}
use Rattle.prove_scenes.specs.Works.{digitwise_value}
use Rattle.prove_spots.specs.Grounds.{spot_of}
use Rattle.prove_works.specs.Rows.{way_spots}
use Rattle.prove_works.proofs.worked.along.Given as goal

-- the places so far, and those along the ways that are left, are all
abbrev pub invariant-loop-way : goal.invariant-loop-way
invariant-loop-way l =
    (s : Start) (a : Amounts)
    → map (spot_of s a) l.spots.items ++ flat_map (way_spots (digitwise_value l.digitwise) l.dt (spot_of s a l.spot)) (map way_value (drop l.way-index l.list))
    ≡ flat_map (way_spots (digitwise_value l.digitwise) l.dt (spot_of s a l.spot)) (map way_value l.list)
