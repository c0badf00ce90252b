-- What is left of each of several patterns, as the definition has it.
use Rattle.std.specs.Prelude.{ℕ, List, map}
use Rattle.std.specs.declared.alloc.Global.{Global}
use Rattle.std.specs.declared.vec.Vec.{Vec}
use denote.Ref.{Bor}
use Rattle.prove_facts.specs.model_prove.specs.Texts as known
use Rattle.prove_patterns.specs.Ways.{texts}

-- what is left of one pattern
abbrev pub open_of : Vec (Bor (List ℕ)) Global → known.Open
open_of o = texts o.items

-- what is left of each of several
abbrev pub opens_of : List (Vec (Bor (List ℕ)) Global) → known.Opens
opens_of os = map open_of os

-- possibilities
abbrev pub many_of : List (Vec (Vec (Bor (List ℕ)) Global) Global) → List known.Opens
many_of many = map (λ o. opens_of o.items) many
