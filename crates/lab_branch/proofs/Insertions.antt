-- Insertion under a new name, at the place of the name.
use Rattle.std.proofs.Common.{◌≡◌, ℕ, suc, ◌≤◌, Bool, true, false, cond, List, [], ◌∷◌, length, Some, None, refl, ap, arith}
use Rattle.std.specs.Prelude.{bytes_eq, insert as put_in}
use Rattle.mc_words.specs.model_device.specs.Bytes.{lookup, insert, name_before}
use Rattle.std.specs.Ordering.{is_lt, nat_cmp}
use Rattle.std.specs.declared.cmp.Ordering.{Ordering}
use Rattle.std.proofs.lemmas.Bool.Decides.{nat_tests}
use Rattle.std.proofs.lemmas.Cmp.{same_from_slice_cmp}
use Rattle.std.specs.Cmp.Lexicographic.{slice_cmp}
use Rattle.mc_words.specs.model_device.specs.Card.{App}
use Rattle.lab_branch.specs.Applications.{place_of_name}

pub place_within : (es : List (List ℕ × App)) (n : List ℕ) → place_of_name es n ≤ length es
place_within [] n = omega arith
place_within (e ∷ es) n = by (name_before n e.0) (place_within es n)
  where
    by : (t : Bool) → place_of_name es n ≤ length es → cond t 0 (suc (place_of_name es n)) ≤ length (e ∷ es)
    by true h = omega arith
    by false h = omega (arith, h)

pub insert_at_place : (es : List (List ℕ × App)) (n : List ℕ) (a : App) → lookup es n ≡ None → put_in es (place_of_name es n) (n, a) ≡ insert es n a
insert_at_place [] n a h = refl
insert_at_place (e ∷ es) n a h = by (bytes_eq e.0 n) (name_before n e.0) h (insert_at_place es n a)
  where
    by : (t s : Bool) → cond t (Some e.1) (lookup es n) ≡ None → (lookup es n ≡ None → put_in es (place_of_name es n) (n, a) ≡ insert es n a)
        → put_in (e ∷ es) (cond s 0 (suc (place_of_name es n))) (n, a) ≡ cond t ((n, a) ∷ es) (cond s ((n, a) ∷ e ∷ es) (e ∷ insert es n a))
    by true s h rest = absurd (cc h)
    by false true h rest = refl
    by false false h rest = ap (λ (l : List (List ℕ × App)). e ∷ l) (rest h)

-- the order of byte lists is that of names
pub before_is : (a b : List ℕ) (o : Ordering) → o ≡ slice_cmp nat_cmp a b → is_lt o ≡ name_before a b
before_is = same_from_slice_cmp nat_cmp is_lt name_before refl (λ _ _. refl) (λ _ _. refl) (λ x y xs ys o h. grind (arith, nat_tests))
