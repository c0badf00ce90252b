-- Accounts of different lengths are not equal.
use Rattle.std.specs.Prelude.{◌≡◌, ◌≢◌, ℕ, Bool, true, false, ◌&&◌, List, [], ◌∷◌, length, map, Option, refl}
use Rattle.std.proofs.Common.{arith, sym, ◌∙◌}
use Rattle.law_explore.specs.model_device.proofs.ListLemmas.{length_map as map-length}
use Rattle.mc_lab.specs.Sweeps.{is_same_held, are_same_held}

neither_same : (b c : Bool) → false ≡ c → false ≡ (b && c)
neither_same true c h = h
neither_same false c h = refl

lengths_apart : (a b : List (Option (List ℕ))) → length a ≢ length b → false ≡ are_same_held a b
lengths_apart [] [] h = absurd (h refl)
lengths_apart [] (y ∷ ys) h = refl
lengths_apart (x ∷ xs) [] h = refl
lengths_apart (x ∷ xs) (y ∷ ys) h = neither_same (is_same_held x y) (are_same_held xs ys) (lengths_apart xs ys (λ e. h (omega (arith, e))))

-- accounts of different lengths are not equal
pub mapped_apart : {A : Type 0} (f : A → Option (List ℕ)) (a b : List A) → length a ≢ length b → false ≡ are_same_held (map f a) (map f b)
mapped_apart f a b h = lengths_apart (map f a) (map f b) (λ e. h (sym (map-length f a) ∙ e ∙ map-length f b))
