-- Reading a table, place by place.
use Rattle.std.proofs.Common.{◌≡◌, ℕ, ◌<◌, true, false, List, length, get_or, Option, Some, None, refl, ap, ◌∙◌, arith}
use Rattle.std.specs.Prelude.{slice_get, is_some}
use Rattle.std.proofs.lemmas.Option.{slice_get-get_or, get_or_from_slice_get, slice_get_past}
use native.Mathlib.Decide.{dec_lt}
use Prim.{yes, no}
use Rattle.mc_check.specs.declared.table.Entry.{Entry}
use Rattle.mc_check.specs.Judging.{HasFactAt}

-- an entry that a read returns is in the table
pub read_kept : (t : List (Option Entry)) (p : ℕ) (e : Entry) → p < length t → get_or t p None ≡ Some e → slice_get t p ≡ Some (Some e)
read_kept t p e inside read = slice_get-get_or t p None inside ∙ ap (λ (o : Option Entry). Some o) read

some_of : (o : Option Entry) → is_some o ≡ true → (e : Entry) × (o ≡ Some e)
some_of None h = absurd (cc h)
some_of (Some e) h = (e, refl)

-- if a read returns something, the table has an entry there
pub some_kept : (t : List (Option Entry)) (p : ℕ) → p < length t → is_some (get_or t p None) ≡ true → HasFactAt t p
some_kept t p inside h = grind (arith, some_of, read_kept)

-- if a read returns nothing, the table has no entry there
pub none_kept : (t : List (Option Entry)) (p : ℕ) → is_some (get_or t p None) ≡ false → HasFactAt t p → ⊥
none_kept t p h kept = grind (arith, get_or_from_slice_get)

-- if a read returns no entry, the table has none there
pub unread : (t : List (Option Entry)) (p : ℕ) → ((e : Entry) → get_or t p None ≡ Some e → ⊥) → HasFactAt t p → ⊥
unread t p none kept = none kept.0 (get_or_from_slice_get t p (Some kept.0) None kept.1)

-- a place with an entry is one of the table's
pub kept_inside : (t : List (Option Entry)) (p : ℕ) → HasFactAt t p → p < length t
kept_inside t p kept = elim (dec_lt p (length t)) [ yes inside ↦ inside | no outside ↦ absurd (cc (kept.1, slice_get_past t p (omega (arith, outside)))) ]
