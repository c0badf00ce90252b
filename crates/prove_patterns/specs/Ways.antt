-- What is left of a pattern, as the definition has it.
use Rattle.std.specs.Prelude.{ℕ, ◌+◌, ◌-◌, ◌/◌, ◌%◌, cond, nat_lt, List, [], ◌∷◌, map, filter, Option, Some, None}
use denote.Ref.{Bor}
use Rattle.prove_facts.specs.model_prove.specs.Sets.{numbers_from}
use Rattle.prove_facts.specs.Sets.{has_bit}

-- texts, whatever place their bytes are borrowed from
abbrev pub texts : List (Bor (List ℕ)) → List (List ℕ)
texts ts = map (λ t. t.now) ts

-- one text or none
abbrev pub ways_of : Option (Bor (List ℕ)) → List (List ℕ)
ways_of None = []
ways_of (Some t) = t.now ∷ []

-- the hexadecimal digit of a number below 16, in small letters
abbrev pub digit_sign : ℕ → ℕ
digit_sign d = cond (nat_lt d 10) (48 + d) (87 + d)

-- the two digits of a byte
abbrev pub byte_digits : ℕ → List ℕ
byte_digits b = digit_sign (b / 16) ∷ digit_sign (b % 16) ∷ []

-- the values of a set from one on
unfoldable pub values_from : List ℕ → ℕ → List ℕ
values_from words v = filter (has_bit words) (numbers_from v (256 - v))
