-- Families made of two others.
use Rattle.std.specs.Prelude.{ℕ, not, List, ◌++◌, filter}
use Rattle.law_family.specs.model_device.specs.Bytes.{has_name}

-- the names that at least one of two families has
abbrev pub in_either : List (List ℕ) → List (List ℕ) → List (List ℕ)
in_either K J = K ++ J

-- the names that both have
abbrev pub in_both : List (List ℕ) → List (List ℕ) → List (List ℕ)
in_both K J = filter (λ n. has_name n J) K

-- the names that the first has and the second has not
abbrev pub in_first_alone : List (List ℕ) → List (List ℕ) → List (List ℕ)
in_first_alone K J = filter (λ n. not (has_name n J)) K
