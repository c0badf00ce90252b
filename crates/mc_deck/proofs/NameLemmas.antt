-- Names and their units.
use Rattle.std.proofs.Common.{◌≡◌, ℕ, ◌<◌, Bool, true, false, cond, List, [], ◌∷◌, ◌++◌, length, Option, Some, None, arith, sym, ap, subst, ◌∙◌}
use Rattle.std.specs.Prelude.{bytes_eq, option_map, IfSome}
use Rattle.std.specs.Ordering.{is_eq, nat_cmp}
use Rattle.std.specs.Cmp.Lexicographic.{slice_cmp}
use Rattle.std.proofs.lemmas.Map.Text.{is_eq-slice_cmp}
use Rattle.model_play.specs.model_device.specs.Bytes.{lookup}
use Rattle.model_play.specs.model_card.specs.Units.{UnitParts}
use Rattle.mc_deck.specs.declared.unit.OwnedUnit.{OwnedUnit}
use Rattle.mc_deck.specs.Lines.{unit_at, owned_parts}
use Rattle.mc_deck.proofs.LineLemmas.{unit_front, unit_last, one_longer}

front_found : (us : List OwnedUnit) (u : OwnedUnit) (o : Option ℕ) (r : Option UnitParts) → IfSome o (λ i. i < length us) → r ≡ option_map (unit_at us) o → r ≡ option_map (unit_at (us ++ u ∷ [])) o
front_found us u None r h e = e
front_found us u (Some i) r h e = e ∙ ap Some (sym (unit_front us u i h))

found_by : (b : Bool) (us : List OwnedUnit) (u : OwnedUnit) (p : ℕ) (o : Option ℕ) (r : Option UnitParts) → p ≡ length us → IfSome o (λ i. i < length us) → r ≡ option_map (unit_at us) o
    → cond b (Some (owned_parts u)) r ≡ option_map (unit_at (us ++ u ∷ [])) (cond b (Some p) o)
found_by true us u p o r l h e = rw l (ap Some (sym (unit_last us u)))
found_by false us u p o r l h e = front_found us u o r h e

-- the unit that was put, and the others
pub name_found : (k q : List ℕ) (us : List OwnedUnit) (u : OwnedUnit) (p : ℕ) (o n : Option ℕ) (named : List (List ℕ × UnitParts)) → n ≡ cond (is_eq (slice_cmp nat_cmp k q)) (Some p) o → p ≡ length us
    → IfSome o (λ i. i < length us) → lookup named q ≡ option_map (unit_at us) o → lookup ((k, owned_parts u) ∷ named) q ≡ option_map (unit_at (us ++ u ∷ [])) n
name_found k q us u p o n named m l h e = rw (m, is_eq-slice_cmp k q) (found_by (bytes_eq k q) us u p o (lookup named q) l h e)

inside_some : (us : List OwnedUnit) (u : OwnedUnit) (o : Option ℕ) → IfSome o (λ i. i < length us) → IfSome o (λ i. i < length (us ++ u ∷ []))
inside_some us u None h = tt
inside_some us u (Some i) h = rw (one_longer us u) (omega (arith, h))

inside_by : (b : Bool) (us : List OwnedUnit) (u : OwnedUnit) (p : ℕ) (o : Option ℕ) → p ≡ length us → IfSome o (λ i. i < length us) → IfSome (cond b (Some p) o) (λ i. i < length (us ++ u ∷ []))
inside_by true us u p o l h = rw (one_longer us u, l) (omega arith)
inside_by false us u p o l h = inside_some us u o h

pub name_inside : (k q : List ℕ) (us : List OwnedUnit) (u : OwnedUnit) (p : ℕ) (o n : Option ℕ) → n ≡ cond (is_eq (slice_cmp nat_cmp k q)) (Some p) o → p ≡ length us
    → IfSome o (λ i. i < length us) → IfSome n (λ i. i < length (us ++ u ∷ []))
name_inside k q us u p o n m l h = subst (λ (x : Option ℕ). IfSome x (λ i. i < length (us ++ u ∷ []))) (sym m) (inside_by (is_eq (slice_cmp nat_cmp k q)) us u p o l h)
