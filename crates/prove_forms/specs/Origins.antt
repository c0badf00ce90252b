-- Origins as the definition has them.
use Rattle.std.specs.Prelude.{ℕ, suc, List, [], ◌∷◌, map}
use Rattle.model_sums.specs.Origins as origins
use Rattle.prove_forms.specs.declared.origins.Origin.{Origin}
use Rattle.prove_forms.specs.declared.origins.Origin.TheVariants as origin
use Rattle.prove_forms.specs.declared.origins.Listed.{Listed}
use Rattle.prove_forms.specs.declared.origins.Origins.{Origins}

-- where a byte comes from
abbrev pub origin_value : Origin → origins.Origin
origin_value origin.Unknown = origins.Unknown
origin_value (origin.Constant b) = origins.ConstantByte b
origin_value (origin.Public p) = origins.PublicByte p

-- where bytes come from
abbrev pub origin_values : List Origin → List origins.Origin
origin_values os = map origin_value os

-- the origin of a listed byte, with its address
abbrev pub listed_value : Listed → ℕ × origins.Origin
listed_value e = (e.at, origin_value e.origin)

-- the origins of listed bytes, with their addresses
abbrev pub listed_values : List Listed → List (ℕ × origins.Origin)
listed_values es = map listed_value es

-- the origins of bytes
abbrev pub origins_value : Origins → origins.Origins
origins_value o = record { own = o.own; listed = listed_values o.listed.items }

-- the origins of bytes from an address on, with their addresses
abbrev pub listed_from : ℕ → List origins.Origin → List (ℕ × origins.Origin)
listed_from a [] = []
listed_from a (g ∷ gs) = (a, g) ∷ listed_from (suc a) gs
