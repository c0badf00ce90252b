-- The generated deck as the code has it.
use Rattle.std.specs.Prelude.{◌≡◌, List}
use Rattle.model_play.specs.Generator.{counter, purse, relay}
use Rattle.mc_deck.specs.declared.unit.OwnedUnit.{OwnedUnit}
use Rattle.mc_deck.specs.Lines.{unit_at}

-- the units are the three of a generated deck
pub record AreUnits (us : List OwnedUnit) : Type 0 where
  pub first : unit_at us 0 ≡ counter
  pub second : unit_at us 1 ≡ purse
  pub third : unit_at us 2 ≡ relay
