-- Classes of commands, as which lines they match.
use Rattle.std.specs.Prelude.{Bool, false, ◌||◌, List, [], ◌∷◌, map}
use Rattle.std.specs.declared.alloc.Global.{Global}
use Rattle.std.specs.declared.vec.Vec.{Vec}
use Rattle.prove_facts.specs.model_prove.specs.Digits.{same}
use Rattle.prove_facts.specs.model_prove.specs.Keys.{same_lists}

-- the lists of some classes
abbrev pub lists_of : List (Vec Bool Global) → List (List Bool)
lists_of cs = map (λ c. c.items) cs

-- whether a class is among some
abbrev pub is_among : List Bool → List (List Bool) → Bool
is_among c [] = false
is_among c (d ∷ ds) = same_lists same c d || is_among c ds
