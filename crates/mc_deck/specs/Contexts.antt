-- The context of a line, as the reader has it: the units that were named, and a `power`, before the line.
use Rattle.std.specs.Prelude.{◌≡◌, ℕ, ◌<◌, List, length, option_map, IfSome}
use Rattle.std.specs.Ordering.{nat_cmp}
use Rattle.std.specs.Cmp.Lexicographic.{slice_cmp}
use Rattle.std.specs.BTreeMap
use Rattle.std.specs.BTreeMap.{BTreeMap}
use denote.Ref.{Bor}
use Rattle.model_play.specs.model_device.specs.Bytes.{lookup}
use Rattle.model_play.specs.model_card.specs.Units.{UnitParts}
use Rattle.mc_deck.specs.declared.unit.OwnedUnit.{OwnedUnit}
use Rattle.mc_deck.specs.Lines.{unit_at}

-- the map has the place of each name's unit in the list of units
pub record AreNames (m : BTreeMap (Bor (List ℕ)) ℕ) (us : List OwnedUnit) (named : List (List ℕ × UnitParts)) : Type 0 where
  pub found : (q : Bor (List ℕ)) → lookup named q.now ≡ option_map (unit_at us) (BTreeMap.get (λ x y. slice_cmp nat_cmp x.now y.now) m q)
  pub inside : (q : Bor (List ℕ)) → IfSome (BTreeMap.get (λ x y. slice_cmp nat_cmp x.now y.now) m q) (λ i. i < length us)
