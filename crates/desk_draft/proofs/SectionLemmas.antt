-- Sections by their names: the first of a name is found.
use Rattle.std.proofs.Common.{◌≡◌, ℕ, Bool, true, false, cond, List, [], ◌∷◌, ◌++◌, Option, Some, None, refl, sym, ap, subst, ◌∙◌}
use Rattle.std.specs.Prelude.{bytes_eq, option_map}
use Rattle.std.specs.Ordering.{is_eq, nat_cmp}
use Rattle.std.specs.Cmp.Lexicographic.{slice_cmp}
use Rattle.std.proofs.lemmas.Map.Text.{is_eq-slice_cmp}
use Rattle.mc_text.specs.model_device.specs.Bytes.{lookup, or_else}
use Rattle.mc_text.specs.model_device.proofs.MapLemmas.{same_name}
use Rattle.desk_draft.specs.Statements.{Loadable}
use Rattle.desk_draft.specs.declared.statement.Sizes.{Sizes}
use Rattle.desk_draft.specs.Views.{loadable_of}

abbrev Found : Type 0
Found = Option Loadable

or_none : (r : Found) → or_else r None ≡ r
or_none (Some x) = refl
or_none None = refl

first_by : (b : Bool) (z : Loadable) (r : Found) (s : Found) → cond b (Some z) (or_else r s) ≡ or_else (cond b (Some z) r) s
first_by true z r s = refl
first_by false z r s = refl

-- a section after the others
lookup_last : (l : List (List ℕ × Loadable)) (n q : List ℕ) (z : Loadable) → lookup (l ++ (n, z) ∷ []) q ≡ or_else (lookup l q) (cond (bytes_eq n q) (Some z) None)
lookup_last [] n q z = refl
lookup_last (x ∷ l) n q z = ap (cond (bytes_eq x.0 q) (Some x.1)) (lookup_last l n q z) ∙ first_by (bytes_eq x.0 q) x.1 (lookup l q) (cond (bytes_eq n q) (Some z) None)

some_first : (r s : Found) (y : Loadable) → Some y ≡ r → or_else r s ≡ r
some_first (Some x) s y h = refl
some_first None s y h = absurd (cc h)

there_by : (l : List (List ℕ × Loadable)) (n q : List ℕ) (z y : Loadable) (b : Bool) → bytes_eq n q ≡ b → Some y ≡ lookup l n → or_else (lookup l q) (cond b (Some z) None) ≡ lookup l q
there_by l n q z y true e h = some_first (lookup l q) (Some z) y (h ∙ ap (lookup l) (same_name n q e))
there_by l n q z y false e h = or_none (lookup l q)

-- an earlier section has the name
pub section_there : (l : List (List ℕ × Loadable)) (n q : List ℕ) (z y : Loadable) (o : Found) → Some y ≡ lookup l n → o ≡ lookup l q → o ≡ lookup (l ++ (n, z) ∷ []) q
section_there l n q z y o h e = e ∙ sym (lookup_last l n q z ∙ there_by l n q z y (bytes_eq n q) refl h)

new_by : (l : List (List ℕ × Loadable)) (n q : List ℕ) (s : Sizes) (o : Option Sizes) (b : Bool) → bytes_eq n q ≡ b → None ≡ lookup l n → option_map loadable_of o ≡ lookup l q
    → option_map loadable_of (cond b (Some s) o) ≡ or_else (lookup l q) (cond b (Some (loadable_of s)) None)
new_by l n q s o true e h f =
    let i : None ≡ lookup l q = h ∙ ap (lookup l) (same_name n q e) in
    subst (λ (r : Found). Some (loadable_of s) ≡ or_else r (Some (loadable_of s))) i refl
new_by l n q s o false e h f = f ∙ sym (or_none (lookup l q))

-- a section whose name is new
pub section_new : (l : List (List ℕ × Loadable)) (n q : List ℕ) (s : Sizes) (o m : Option Sizes) → m ≡ cond (is_eq (slice_cmp nat_cmp n q)) (Some s) o → None ≡ lookup l n → option_map loadable_of o ≡ lookup l q
    → option_map loadable_of m ≡ lookup (l ++ (n, loadable_of s) ∷ []) q
section_new l n q s o m e h f =
    rw (e, is_eq-slice_cmp n q) (new_by l n q s o (bytes_eq n q) refl h f ∙ sym (lookup_last l n q (loadable_of s)))
