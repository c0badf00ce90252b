-- The section that an application is of.
use Rattle.std.specs.Prelude.{ℕ, ◌+◌, Bool, cond, ◌&&◌, List, [], ◌∷◌, bytes_eq, unwrap_or, Option, Some, None}
use Rattle.mc_isa.specs.model_text.specs.Text.{hex_bytes}
use Rattle.desk_draft.specs.Listings.{Source}

-- the bytes that the AID of a section spells, none if it spells none
abbrev pub aid_bytes : List ℕ → List ℕ
aid_bytes digits = unwrap_or (hex_bytes digits) []

-- whether an application of this name and this code is of a section
abbrev pub is_of : List ℕ → List ℕ → Source → Bool
is_of name code s = bytes_eq name (aid_bytes s.sizes.aid) && bytes_eq code s.code

-- the index of the first section that an application is of; the first of these sections has this index
abbrev pub index_of : ℕ → List Source → List ℕ → List ℕ → Option ℕ
index_of i [] name code = None
index_of i (s ∷ ss) name code = cond (is_of name code s) (Some i) (index_of (i + 1) ss name code)
