-- The flags of digits.
use Rattle.std.specs.Prelude.{Bool}
use Rattle.prove_facts.specs.model_prove.specs.Digits.{Flags}

-- a pair of flags, the carry first
abbrev pub flags_of : Bool → Bool → Flags
flags_of c z = record { c = c; z = z }
