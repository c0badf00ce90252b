-- The load unit of a small application, for worked examples: the code of a counter, and the name A000000001.
use Rattle.std.specs.Prelude.{ℕ, zero, suc, Bool, true, false, ◌&&◌, List, [], ◌∷◌, take, Result, Ok, Err}
use Rattle.model_card.specs.declared.unit.UnitRefusal.{UnitRefusal}
use Rattle.model_card.specs.declared.unit.UnitRefusal.TheVariants as refusals
use Rattle.model_card.specs.Units.{unit_read, UnitParts}

-- the name of the counter
abbrev pub counter_name : List ℕ
counter_name = 0xa0 ∷ 0 ∷ 0 ∷ 0 ∷ 1 ∷ []

-- the code of a counter
abbrev pub counter_code : List ℕ
counter_code = 0xb9 ∷ 2 ∷ 0 ∷ 0 ∷ 0x39 ∷ 2 ∷ 0 ∷ 0 ∷ 0x46 ∷ 2 ∷ 0 ∷ 0 ∷ 6 ∷ 0 ∷ 2 ∷ []

-- the bytes of its unit
abbrev pub counter_unit : List ℕ
counter_unit =
    0 ∷ 0 ∷ 0 ∷ 0 ∷ 0 ∷ 0 ∷ 0 ∷ 0 ∷ 0 ∷ 0xf ∷ 0xb9 ∷ 2 ∷ 0 ∷ 0 ∷ 0x39 ∷ 2 ∷ 0 ∷ 0 ∷ 0x46 ∷ 2 ∷ 0 ∷ 0 ∷ 6 ∷ 0 ∷ 2 ∷ 0 ∷ 0 ∷ 0 ∷ 9 ∷ 0x61 ∷ 7 ∷ 0x4f ∷ 5 ∷ 0xa0 ∷ 0 ∷ 0 ∷ 0 ∷ 1 ∷ 0 ∷ 9 ∷ 0x6f ∷ 7 ∷ 0x84 ∷ 5 ∷ 0xa0 ∷ 0 ∷ 0 ∷ 0 ∷ 1 ∷ 0 ∷ 0 ∷ 0 ∷ 0 ∷ []

-- whether a unit was refused since the bytes end before it is complete
abbrev pub is_short : Result UnitParts UnitRefusal → Bool
is_short (Ok u) = false
is_short (Err refusals.Short) = true
is_short (Err e) = false

-- whether all prefixes of b of fewer than n bytes end before the unit is complete
unfoldable pub short_below : ℕ → List ℕ → Bool
unfolding unit_read
short_below zero b = true
short_below (suc n) b = is_short (unit_read (take n b)) && short_below n b
