-- Loops over one list or two, by what holds of a list and of its rest.
use Rattle.std.proofs.Common.{◌≡◌, ℕ, suc, ◌+◌, ◌<◌, List, ◌∷◌, length, get_or, drop, Result, Ok, Err, IfOk, sym, subst, ap, ◌∙◌, add-one, drop-cons}

-- the list from one place on is its element there and the list from the next place on
pub rest_at : {X : Type 0} (xs : List X) (i : ℕ) (x : X) → i < length xs → x ≡ get_or xs i x → drop i xs ≡ x ∷ drop (i + 1) xs
rest_at {X} xs i x low is =
    drop-cons xs i x low ∙ ap (λ (y : X). y ∷ drop (suc i) xs) (sym is) ∙ ap (λ (n : ℕ). x ∷ drop n xs) (sym (add-one i))

-- after one element more, it holds of the whole list if it holds of the rest
pub loop_next : {X : Type 0} (Q : List X → Type 0) (xs : List X) (i : ℕ) (x : X) → i < length xs → x ≡ get_or xs i x
    → (Q (drop (i + 1) xs) → Q (x ∷ drop (i + 1) xs)) → (Q (drop i xs) → Q xs) → Q (drop (i + 1) xs) → Q xs
loop_next Q xs i x low is step before rest = before (subst Q (sym (rest_at xs i x low is)) (step rest))

pub if_ok : {A E : Type 0} (P Q : A → Type 0) (r : Result A E) → IfOk r P → ((x : A) → P x → Q x) → IfOk r Q
if_ok P Q (Err e) h f = h
if_ok P Q (Ok x) h f = f x h
