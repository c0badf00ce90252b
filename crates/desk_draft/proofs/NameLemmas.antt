-- Names and what they stand for.
use Rattle.std.proofs.Common.{◌≡◌, ℕ, Bool, true, false, cond, List, [], ◌∷◌, ◌++◌, Option, Some, refl, ap, ◌∙◌}
use Rattle.std.specs.Prelude.{bytes_eq, option_map}
use Rattle.std.specs.Ordering.{is_eq, nat_cmp}
use Rattle.std.specs.Cmp.Lexicographic.{slice_cmp}
use Rattle.std.proofs.lemmas.Map.Text.{is_eq-slice_cmp}
use Rattle.mc_text.specs.model_device.specs.Bytes.{lookup, or_else}
use Rattle.desk_draft.specs.Declarations
use Rattle.desk_draft.specs.Declarations.{header_bytes, header_names, header_words}
use Rattle.desk_draft.specs.declared.meaning.Meaning.{Meaning}
use Rattle.desk_draft.specs.Views.{meaning_of}

found_by : (b : Bool) (m : Meaning) (o : Option Meaning) (h r : Option Declarations.NameMeaning) → or_else (option_map meaning_of o) h ≡ r
    → or_else (option_map meaning_of (cond b (Some m) o)) h ≡ cond b (Some (meaning_of m)) r
found_by true m o h r e = refl
found_by false m o h r e = e

-- the name that was put, and the others
pub name_found : (k q : List ℕ) (m : Meaning) (o n : Option Meaning) (h : Option Declarations.NameMeaning) (l : List (List ℕ × Declarations.NameMeaning))
    → n ≡ cond (is_eq (slice_cmp nat_cmp k q)) (Some m) o → or_else (option_map meaning_of o) h ≡ lookup l q
    → or_else (option_map meaning_of n) h ≡ lookup ((k, meaning_of m) ∷ l) q
name_found k q m o n h l e f = rw (e, is_eq-slice_cmp k q) (found_by (bytes_eq k q) m o h (lookup l q) f)

-- ---- the header's names

lookup_by : (b : Bool) (n : List ℕ) (m : Declarations.NameMeaning) (r s : Option Declarations.NameMeaning) → cond b (Some m) (or_else r s) ≡ or_else (cond b (Some m) r) s
lookup_by true n m r s = refl
lookup_by false n m r s = refl

lookup_both : (xs ys : List (List ℕ × Declarations.NameMeaning)) (n : List ℕ) → lookup (xs ++ ys) n ≡ or_else (lookup xs n) (lookup ys n)
lookup_both [] ys n = refl
lookup_both (x ∷ xs) ys n = ap (cond (bytes_eq x.0 n) (Some x.1)) (lookup_both xs ys n) ∙ lookup_by (bytes_eq x.0 n) n x.1 (lookup xs n) (lookup ys n)

-- a name of the header, of a byte or of a word
pub header_found : (n : List ℕ) → lookup header_names n ≡ or_else (lookup header_bytes n) (lookup header_words n)
header_found n = lookup_both header_bytes header_words n
