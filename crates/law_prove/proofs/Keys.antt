-- Keys that a test finds the same are equal.
use Rattle.std.proofs.Common.{◌≡◌, ℕ, Bool, true, List, [], ◌∷◌, refl, ap, ◌∙◌, arith}
use Rattle.std.specs.Prelude.{◌&&◌, ◌==◌, bytes_eq}
use Rattle.std.proofs.lemmas.Bool.{and_parts, eqb-true}
use Rattle.model_prove.specs.model_device.proofs.MapLemmas.{same_name}
use Rattle.model_prove.specs.model_rules.specs.Keeping.{Amounts}
use Rattle.model_prove.specs.Digits.{same}
use Rattle.model_prove.specs.Keys.{Start, Call, PlaceKey, MomentKey, same_lists, same_amounts, same_starts, same_calls, same_places, same_moments}

-- truth values that are found the same are equal
pub same_is : (a b : Bool) → same a b ≡ true → a ≡ b
same_is a b e = grind arith

-- lists are equal if the test of their elements is exact
pub lists_are : {A : Type 0} (test : A → A → Bool) → ((x y : A) → test x y ≡ true → x ≡ y) → (xs ys : List A) → same_lists test xs ys ≡ true → xs ≡ ys
lists_are test sound [] [] e = refl
lists_are test sound [] (y ∷ ys) e = absurd (cc e)
lists_are test sound (x ∷ xs) [] e = absurd (cc e)
lists_are {A} test sound (x ∷ xs) (y ∷ ys) e =
    let p = and_parts (test x y) (same_lists test xs ys) e in
    ap (λ (z : A). z ∷ xs) (sound x y p.0) ∙ ap (λ (zs : List A). y ∷ zs) (lists_are test sound xs ys p.1)

amount_is : (x y : List ℕ × ℕ) → (bytes_eq x.0 y.0 && x.1 == y.1) ≡ true → x ≡ y
amount_is x y e =
    let p = and_parts (bytes_eq x.0 y.0) (x.1 == y.1) e in
    ap (λ (z : List ℕ). (z, x.1)) (same_name x.0 y.0 p.0) ∙ ap (λ (z : ℕ). (y.0, z)) (eqb-true x.1 y.1 p.1)

-- allowances that are found the same are equal
pub amounts_are : (a b : Amounts) → same_amounts a b ≡ true → a ≡ b
amounts_are a b e = lists_are (λ x y. bytes_eq x.0 y.0 && x.1 == y.1) amount_is a b e

-- beginnings of frames that are found the same are equal
pub starts_are : (a b : Start) → same_starts a b ≡ true → a ≡ b
starts_are a b e = grind (arith, lists_are, same_is)

call_is : (c d : Call) → same_calls c d ≡ true → c ≡ d
call_is c d e = grind (arith, and_parts, eqb-true)

-- keys of moments that are found the same are equal
pub moments_are : (k l : MomentKey) → same_moments k l ≡ true → k ≡ l
moments_are k l e =
    let p = and_parts (same k.selected l.selected) (same_amounts k.allowances l.allowances) e in
    ap (λ (z : Bool). record { selected = z; allowances = k.allowances }) (same_is k.selected l.selected p.0)
    ∙ ap (λ (z : Amounts). record { selected = l.selected; allowances = z }) (amounts_are k.allowances l.allowances p.1)

-- keys of places that are found the same are equal
pub places_are : (k l : PlaceKey) → same_places k l ≡ true → k ≡ l
places_are k l e = grind (arith, and_parts, eqb-true, same_is, starts_are, amounts_are, lists_are, call_is)
