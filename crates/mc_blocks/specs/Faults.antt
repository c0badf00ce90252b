-- The code's findings, as faults of the definition.
use Rattle.std.specs.Prelude.{ℕ, Option, Some, None, Result, Ok, Err}
use Rattle.mc_words.specs.model_device.specs.declared.cause.Cause.{Cause}
use Rattle.mc_blocks.specs.declared.image.Shape.{Shape}
use Rattle.mc_blocks.specs.declared.image.Unusable.{Unusable}

-- a fault with its place, if there is one
abbrev pub fault_named : Option Unusable → Option (Cause × ℕ)
fault_named None = None
fault_named (Some u) = Some (u.cause, u.place)

-- the fault that a walk returns, if it returns one
abbrev pub fault_found : Result Shape Unusable → Option (Cause × ℕ)
fault_found (Ok shape) = None
fault_found (Err u) = Some (u.cause, u.place)
