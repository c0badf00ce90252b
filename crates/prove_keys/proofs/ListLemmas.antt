-- What holds of each element of a list, and where the first one is that passes a test.
use Rattle.std.proofs.Common.{◌≡◌, ℕ, zero, suc, ◌+◌, ◌<◌, List, [], ◌∷◌, length, get_or, drop, sym, subst, ap, ◌∙◌, arith, add-one, drop-cons}
use Rattle.std.specs.List.{AllByRecursion}

-- after one element more of which it holds, it holds of all if it holds of the rest
pub all_next : {X : Type 0} (P : X → Type 0) (xs : List X) (i : ℕ) (x : X) → i < length xs → x ≡ get_or xs i x → P x
    → (AllByRecursion P (drop i xs) → AllByRecursion P xs) → AllByRecursion P (drop (i + 1) xs) → AllByRecursion P xs
all_next {X} P xs i x low is holds before rest =
    let here : P (get_or xs i x) = subst P is holds in
    let more : AllByRecursion P (drop (suc i) xs) = subst (λ (n : ℕ). AllByRecursion P (drop n xs)) (add-one i) rest in
    before (subst (AllByRecursion P) (sym (drop-cons xs i x low)) (here, more))

-- it holds of each element
pub all_at : {X : Type 0} (P : X → Type 0) (xs : List X) (i : ℕ) (x : X) → i < length xs → AllByRecursion P xs → P (get_or xs i x)
all_at P [] i x low h = absurd (omega arith)
all_at P (y ∷ ys) zero x low h = h.0
all_at P (y ∷ ys) (suc i) x low h = all_at P ys i x (omega arith) h.1
