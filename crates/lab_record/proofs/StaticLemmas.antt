-- Static bytes of a length.
use Rattle.std.specs.Prelude.{◌≡◌, ℕ, List, length, option_map, Option, Some, None}
use Rattle.std.proofs.Common.{refl, sym}

-- bytes that have a length
pub record Long (o : Option (List ℕ)) (n : ℕ) : Type 0 where
  pub fixed : List ℕ
  pub is : o ≡ Some fixed
  pub size : length fixed ≡ n

pub long_by : (o : Option (List ℕ)) (n : ℕ) → Some n ≡ option_map length o → Long o n
long_by None n e = absurd (cc e)
long_by (Some fixed) n e = record { fixed = fixed; is = refl; size = sym (cc e) }
