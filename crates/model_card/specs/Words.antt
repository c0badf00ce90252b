-- The words that are printed for the causes that refuse a load unit.
use Rattle.std.specs.Prelude.{ℕ, List, codes}
use Rattle.model_card.specs.declared.unit.UnitRefusal.{UnitRefusal}
use Rattle.model_card.specs.declared.unit.UnitRefusal.TheVariants as unit

-- the printed word of why bytes are no load unit
abbrev pub unit_word : UnitRefusal → List ℕ
unit_word unit.Short = codes "Short"
unit_word unit.NoCode = codes "NoCode"
unit_word unit.TooLarge = codes "TooLarge"
unit_word unit.Signed = codes "Signed"
unit_word unit.Enciphered = codes "Enciphered"
unit_word unit.Tail = codes "Tail"
unit_word unit.NoAid = codes "NoAid"
unit_word unit.AidLength = codes "AidLength"
