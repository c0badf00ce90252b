-- Sets of byte values, as four words of 64 bits: a value is in a set if its bit is set.
use Rattle.std.specs.Prelude.{ℕ, ◌/◌, ◌%◌, Bool, ◌==◌, List, [], ◌∷◌, get_or, filter, Option, Some, None}
use Rattle.std.specs.Int.{bit_at}
use Rattle.model_prove.specs.Sets.{Set, all_bytes}
use Rattle.prove_facts.specs.declared.values.Values.{Values}

-- whether the bit of a value is set in words
unfoldable pub has_bit : List ℕ → ℕ → Bool
has_bit words v = bit_at (get_or words (v / 64) 0) (v % 64) == 1

-- whether a value is in a set
abbrev pub has_value : Values → ℕ → Bool
has_value s v = has_bit s.words v

-- the values whose bits are set, ascending
unfoldable pub values_of : List ℕ → Set
values_of words = filter (has_bit words) all_bytes

-- the set that four words stand for
abbrev pub set_of : Values → Set
set_of s = values_of s.words

-- the least value of a set, if it has one
abbrev pub least_value : Set → Option ℕ
least_value [] = None
least_value (v ∷ s) = Some v
