-- Lists that are changed, compared or grown element by element.
use Rattle.std.proofs.Common.{◌≡◌, ℕ, zero, suc, ◌+◌, ◌<◌, ◌≤◌, true, List, [], ◌∷◌, ◌++◌, length, take, drop, get_or, refl, arith, sym, ap, subst, ◌∙◌, add-one, drop-cons}
use Rattle.std.specs.Prelude.{bytes_eq, map, slice_set}
use Rattle.std.proofs.Math.Seq.{take-add}
use Rattle.std.proofs.lemmas.List.{append-nil}
use Rattle.mc_words.specs.model_device.proofs.MapLemmas.{name_is_itself}

-- ---- a list whose elements are changed one after the other

-- a list with the elements from an index on changed
abbrev pub map_rest : {A : Type 0} → (A → A) → ℕ → List A → List A
map_rest f i [] = []
map_rest f zero (x ∷ xs) = f x ∷ map f xs
map_rest f (suc i) (x ∷ xs) = x ∷ map_rest f i xs

-- the elements from the first on are all of them
pub rest_start : {A : Type 0} (f : A → A) (xs : List A) → map_rest f 0 xs ≡ map f xs
rest_start f [] = refl
rest_start f (x ∷ xs) = refl

rest_next : {A : Type 0} (f : A → A) (d : A) (xs : List A) (i : ℕ) → i < length xs → map_rest f (suc i) (slice_set xs i (f (get_or xs i d))) ≡ map_rest f i xs
rest_next f d [] i h = absurd (omega (arith, h))
rest_next f d (x ∷ xs) zero h = ap (λ ys. f x ∷ ys) (rest_start f xs)
rest_next f d (x ∷ xs) (suc i) h = ap (λ ys. x ∷ ys) (rest_next f d xs i (omega (arith, h)))

-- with an element changed, those after it are left to change
pub rest_step : {A : Type 0} (f : A → A) (d : A) (xs : List A) (i : ℕ) → i < length xs → map_rest f (i + 1) (slice_set xs i (f (get_or xs i d))) ≡ map_rest f i xs
rest_step f d xs i h = subst (λ (k : ℕ). map_rest f k (slice_set xs i (f (get_or xs i d))) ≡ map_rest f i xs) (sym (add-one i)) (rest_next f d xs i h)

-- no element is left to change from the end on
pub rest_end : {A : Type 0} (f : A → A) (xs : List A) (n : ℕ) → length xs ≤ n → map_rest f n xs ≡ xs
rest_end f [] n h = refl
rest_end f (x ∷ xs) zero h = absurd (omega (arith, h))
rest_end f (x ∷ xs) (suc n) h = ap (λ ys. x ∷ ys) (rest_end f xs n (omega (arith, h)))

-- ---- bytes that are compared piece by piece

-- two lists that begin alike, with a piece more
pub alike_more : (a b : List ℕ) (i n : ℕ) → take i a ≡ take i b → take n (drop i a) ≡ take n (drop i b) → take (i + n) a ≡ take (i + n) b
alike_more a b i n first next = take-add i n a ∙ ap (λ t. t ++ take n (drop i a)) first ∙ ap (λ t. take i b ++ t) next ∙ sym (take-add i n b)

-- two lists of a length that begin alike up to it are equal
pub alike_whole : (a b : List ℕ) (n : ℕ) → take n a ≡ take n b → length a ≤ n → length b ≤ n → bytes_eq a b ≡ true
alike_whole a b n h x y =
    let same : a ≡ b = sym (whole a n x) ∙ h ∙ whole b n y in
    subst (λ (c : List ℕ). bytes_eq a c ≡ true) same (name_is_itself a)
  where
    whole : (c : List ℕ) (n : ℕ) → length c ≤ n → take n c ≡ c
    whole [] zero h = refl
    whole [] (suc n) h = refl
    whole (x ∷ c) zero h = absurd (omega (arith, h))
    whole (x ∷ c) (suc n) h = ap (λ t. x ∷ t) (whole c n (omega (arith, h)))

-- ---- lists of which elements are left

-- what is left from an index on is the element there and those after it
pub left_at : {A : Type 0} (d : A) (xs : List A) (i : ℕ) → i < length xs → drop i xs ≡ get_or xs i d ∷ drop (i + 1) xs
left_at d xs i h = subst (λ (k : ℕ). drop i xs ≡ get_or xs i d ∷ drop k xs) (sym (add-one i)) (drop-cons xs i d h)

-- no element is left from the end on
pub none_left : {A : Type 0} (xs : List A) (i : ℕ) → length xs ≤ i → drop i xs ≡ []
none_left [] zero h = refl
none_left [] (suc i) h = refl
none_left (x ∷ xs) zero h = absurd (omega (arith, h))
none_left (x ∷ xs) (suc i) h = none_left xs i (omega (arith, h))

-- a list that grew by all elements is grown
pub grown_end : {A B : Type 0} (f : A → B) (xs : List A) (i : ℕ) (grown : List B) → length xs ≤ i → grown ≡ grown ++ map f (drop i xs)
grown_end f xs i grown h = sym (append-nil grown) ∙ ap (λ ys. grown ++ map f ys) (sym (none_left xs i h))

-- a list that is mapped twice
pub map_twice : {A B C : Type 0} (g : B → C) (f : A → B) (xs : List A) → map (λ x. g (f x)) xs ≡ map g (map f xs)
map_twice g f [] = refl
map_twice g f (x ∷ xs) = ap (λ ys. g (f x) ∷ ys) (map_twice g f xs)
