-- Which open calls are lost where bytes are.
use Rattle.std.specs.Prelude.{◌≤◌, ◌-◌, Bool, nat_lt, ⊤}
use Rattle.prove_facts.specs.model_prove.specs.Compares.{meet}
use Rattle.prove_facts.specs.model_prove.specs.Keys as known
use Rattle.prove_spots.specs.declared.calls.Loss.{Loss}
use Rattle.prove_spots.specs.declared.calls.Loss.TheVariants.{Written, Lowered}

-- whether a call is lost
abbrev pub is_lost : Loss → known.Call → Bool
is_lost (Written from to) = λ c. meet (c.dt - 4) 4 from (to - from)
is_lost (Lowered dt) = λ c. nat_lt dt c.dt

-- a write ends at its address or above it
abbrev pub IsOrdered : Loss → Type 0
IsOrdered (Written from to) = from ≤ to
IsOrdered (Lowered dt) = ⊤
