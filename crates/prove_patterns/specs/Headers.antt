-- Headers of commands, as the definition has them.
use Rattle.std.specs.Prelude.{ℕ, zero, suc, cond, List, [], ◌∷◌, ◌++◌, map, flat_map}
use Rattle.prove_facts.specs.model_prove.specs.Sets.{Set, with_value, all_bytes}
use Rattle.prove_facts.specs.model_prove.specs.Texts as known
use Rattle.prove_facts.specs.model_prove.specs.Between as between
use Rattle.prove_facts.specs.model_prove.specs.Between.{with_header_byte, all_but}
use Rattle.prove_facts.specs.Sets.{set_of}
use Rattle.prove_patterns.specs.Opens.{opens_of}
use Rattle.prove_patterns.specs.declared.command_headers.Header.{Header}
use Rattle.prove_patterns.specs.declared.command_headers.Group.{Group}
use Rattle.prove_patterns.specs.declared.command_headers.Bytes.{Bytes}

-- a group of values that leave the same of the patterns
abbrev pub group_of : Group → known.Opens × Set
group_of g = (opens_of g.left.items, set_of g.values)

-- groups
abbrev pub groups_of : List Group → List (known.Opens × Set)
groups_of gs = map group_of gs

-- a header
abbrev pub header_of : Header → between.Header
header_of h = record { left = opens_of h.left.items; sets = map set_of h.sets.items }

-- headers
abbrev pub headers_of : List Header → List between.Header
headers_of hs = map header_of hs

-- the number of groups before the first that leaves the same
abbrev pub place_of : known.Opens → List (known.Opens × Set) → ℕ
place_of o [] = 0
place_of o (g ∷ gs) = cond (known.same_opens g.0 o) 0 (suc (place_of o gs))

-- groups with a value more in the one at a place
abbrev pub group_with : ℕ → ℕ → List (known.Opens × Set) → List (known.Opens × Set)
group_with n v [] = []
group_with zero v (g ∷ gs) = (g.0, with_value v g.1) ∷ gs
group_with (suc n) v (g ∷ gs) = g ∷ group_with n v gs

-- the values of the bytes of a header that may reach an application
pub record ByteSets : Type 0 where
  pub zero_class : Set
  pub other_class : Set
  pub select : Set
  pub not_select : Set
  pub not_by_name : Set
  pub every : Set

-- their sets
abbrev pub bytes_of : Bytes → ByteSets
bytes_of b =
    record {
      zero_class = set_of b.zero_class;
      other_class = set_of b.other_class;
      select = set_of b.select;
      not_select = set_of b.not_select;
      not_by_name = set_of b.not_by_name;
      every = set_of b.every;
    }

-- the headers of these bytes
unfoldable pub headers_with : ByteSets → between.Header → List between.Header
headers_with b start =
    let zero_class = with_header_byte b.zero_class start in
    let others = with_header_byte b.other_class start in
    let select = flat_map (with_header_byte b.not_by_name) (flat_map (with_header_byte b.select) zero_class) in
    let plain = flat_map (with_header_byte b.not_select) zero_class ++ flat_map (with_header_byte b.every) others in
    flat_map (with_header_byte b.every) (select ++ flat_map (with_header_byte b.every) plain)

-- all values but some
unfoldable pub all_except : List ℕ → Set
all_except vs = all_but vs

-- the bytes of the definition
unfoldable pub header_bytes : ByteSets
header_bytes =
    record {
      zero_class = 0 ∷ [];
      other_class = all_except (0 ∷ 0xBE ∷ 0xFF ∷ []);
      select = 0xA4 ∷ [];
      not_select = all_except (0xA4 ∷ []);
      not_by_name = all_except (4 ∷ []);
      every = all_bytes;
    }

-- the headers that reach an application, by what they leave of patterns
abbrev pub headers_from : known.Opens → List between.Header
headers_from o = headers_with header_bytes (record { left = o; sets = [] })

-- a header with the values of one byte more
abbrev pub header_with : List Set → known.Opens × Set → between.Header
header_with sets g = record { left = g.0; sets = sets ++ g.1 ∷ [] }
