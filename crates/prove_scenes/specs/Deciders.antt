-- Places one after another.
use Rattle.std.specs.Prelude.{ℕ, List}
use Rattle.model_prove.specs.Sets.{numbers_from}
use Rattle.prove_scenes.specs.declared.deciding.Places.{Places}

-- the addresses of places
abbrev pub places_value : Places → List ℕ
places_value p = numbers_from p.from p.count
