-- Pairs laid into the words of a device: what they cover, and what stays.
use Rattle.std.proofs.Common.{◌≡◌, ◌≢◌, ℕ, ◌+◌, ◌<◌, ◌≤◌, Bool, false, ◌||◌, ◌==◌, List, [], ◌∷◌, ◌++◌, length, refl, sym, ◌∙◌, ap, subst, inl, inr, arith}
use Rattle.std.specs.Prelude.{slice_set}
use Rattle.std.specs.List.{AllByRecursion}
use Rattle.std.proofs.lemmas.List.{get_or-set_same, get_or-set_other, length-set, ext_get_or, get_or_past}
use Rattle.std.proofs.lemmas.Bool.{cases_lt}
use Rattle.std.proofs.lemmas.Bool.Decides.{eqb_tells}
use Rattle.model_device.specs.Image.{word_at, image_with}

-- ---- all of a list

pub all_append : {A : Type 0} (P : A → Type 0) (xs ys : List A) → AllByRecursion P xs → AllByRecursion P ys → AllByRecursion P (xs ++ ys)
all_append P [] ys a b = b
all_append P (x ∷ xs) ys a b = (a.0, all_append P xs ys a.1 b)

pub all_map : {A : Type 0} (P Q : A → Type 0) → ((x : A) → P x → Q x) → (xs : List A) → AllByRecursion P xs → AllByRecursion Q xs
all_map P Q f [] a = tt
all_map P Q f (x ∷ xs) a = (f x a.0, all_map P Q f xs a.1)

-- ---- pairs laid

pub length_laid : (m : List (List ℕ)) (ps : List (ℕ × List ℕ)) → length (image_with m ps) ≡ length m
length_laid m [] = refl
length_laid m (p ∷ ps) = length_laid (slice_set m p.0 p.1) ps ∙ length-set m p.0 p.1

pub laid_append : (m : List (List ℕ)) (a b : List (ℕ × List ℕ)) → image_with m (a ++ b) ≡ image_with (image_with m a) b
laid_append m [] b = refl
laid_append m (p ∷ a) b = laid_append (slice_set m p.0 p.1) a b

-- a place that none of the pairs names keeps its word
pub laid_other : (m : List (List ℕ)) (ps : List (ℕ × List ℕ)) (i : ℕ) → AllByRecursion (λ p. p.0 ≢ i) ps → word_at (image_with m ps) i ≡ word_at m i
laid_other m [] i a = refl
laid_other m (p ∷ ps) i a = laid_other (slice_set m p.0 p.1) ps i a.1 ∙ get_or-set_other m p.0 i p.1 [] (λ e. a.0 (sym e))

-- whether some pair names the place
abbrev pub covers : List (ℕ × List ℕ) → ℕ → Bool
covers [] i = false
covers (p ∷ ps) i = (p.0 == i) || covers ps i

-- a word that is set in two lists of one length is equal in both
pub set_point : (m n : List (List ℕ)) (k i : ℕ) (w : List ℕ) → length m ≡ length n → (k ≢ i → word_at m i ≡ word_at n i) → word_at (slice_set m k w) i ≡ word_at (slice_set n k w) i
set_point m n k i w same h = grind (arith, eqb_tells, cases_lt, get_or-set_same, get_or_past, length-set, get_or-set_other)

covers_other : (p : ℕ × List ℕ) (ps : List (ℕ × List ℕ)) (i : ℕ) → p.0 ≢ i → covers ps i ≡ false → covers (p ∷ ps) i ≡ false
covers_other p ps i apart h = elim (eqb_tells p.0 i) [ inl here ↦ absurd (apart here.1) | inr n ↦ ap (λ (b : Bool). b || covers ps i) n.0 ∙ h ]

-- what the pairs cover does not depend on the words before
pub laid_point : (m n : List (List ℕ)) (ps : List (ℕ × List ℕ)) (i : ℕ) → length m ≡ length n → (covers ps i ≡ false → word_at m i ≡ word_at n i) → word_at (image_with m ps) i ≡ word_at (image_with n ps) i
laid_point m n [] i same h = h refl
laid_point m n (p ∷ ps) i same h =
    laid_point (slice_set m p.0 p.1) (slice_set n p.0 p.1) ps i (length-set m p.0 p.1 ∙ same ∙ sym (length-set n p.0 p.1))
    (λ free. set_point m n p.0 i p.1 same (λ apart. h (covers_other p ps i apart free)))

pub laid_same : (m n : List (List ℕ)) (ps : List (ℕ × List ℕ)) → length m ≡ length n → ((i : ℕ) → covers ps i ≡ false → word_at m i ≡ word_at n i) → image_with m ps ≡ image_with n ps
laid_same m n ps same h =
    ext_get_or [] (image_with m ps) (image_with n ps) (length_laid m ps ∙ same ∙ sym (length_laid n ps)) (λ i lt. laid_point m n ps i same (h i))

-- what is not covered is named by no pair
pub uncovered : (ps : List (ℕ × List ℕ)) (i : ℕ) → covers ps i ≡ false → AllByRecursion (λ p. p.0 ≢ i) ps
uncovered [] i h = tt
uncovered (p ∷ ps) i h =
    elim (eqb_tells p.0 i) [
      | inl here ↦ absurd (cc (sym (ap (λ (b : Bool). b || covers ps i) here.0) ∙ h))
      | inr apart ↦ (apart.1, uncovered ps i (sym (ap (λ (b : Bool). b || covers ps i) apart.0) ∙ h))
    ]

pub covers_append : (xs ys : List (ℕ × List ℕ)) (i : ℕ) → covers (xs ++ ys) i ≡ (covers xs i || covers ys i)
covers_append [] ys i = refl
covers_append (x ∷ xs) ys i = grind (arith, eqb_tells, covers_append xs ys i)

-- the image as every list of pairs leaves it, when one of them is the last
pub laid_last : (m : List (List ℕ)) (ps : List (ℕ × List ℕ)) (p : ℕ × List ℕ) → image_with m (ps ++ p ∷ []) ≡ slice_set (image_with m ps) p.0 p.1
laid_last m ps p = laid_append m ps (p ∷ [])

-- places that ascend from `least` on
abbrev pub Ascends : ℕ → List (ℕ × List ℕ) → Type 0
Ascends least [] = Unit {0}
Ascends least (p ∷ ps) = (least ≤ p.0) × Ascends (p.0 + 1) ps

pub ascends_other : (least : ℕ) (ps : List (ℕ × List ℕ)) (i : ℕ) → Ascends least ps → i < least → AllByRecursion (λ p. p.0 ≢ i) ps
ascends_other least [] i a lt = tt
ascends_other least (p ∷ ps) i a lt = let low : least ≤ p.0 = a.0 in ((λ e. absurd (omega (arith, e))), ascends_other (p.0 + 1) ps i a.1 (omega arith))

-- the words are in their places
abbrev pub HoldsWords : List (List ℕ) → List (ℕ × List ℕ) → Type 0
HoldsWords m ps = AllByRecursion (λ p. word_at m p.0 ≡ p.1) ps

-- ascending pairs that were laid are in their places
pub laid_holds : (m : List (List ℕ)) (least : ℕ) (ps : List (ℕ × List ℕ)) → Ascends least ps → AllByRecursion (λ p. p.0 < length m) ps → HoldsWords (image_with m ps) ps
laid_holds m least [] a r = tt
laid_holds m least (p ∷ ps) a r = (
  laid_other (slice_set m p.0 p.1) ps p.0 (ascends_other (p.0 + 1) ps p.0 a.1 (omega arith)) ∙ get_or-set_same m p.0 p.1 [] r.0,
  laid_holds (slice_set m p.0 p.1) (p.0 + 1) ps a.1
      (all_map (λ q. q.0 < length m) (λ q. q.0 < length (slice_set m p.0 p.1)) (λ q lt. subst (λ (t : ℕ). q.0 < t) (sym (length-set m p.0 p.1)) lt) ps r.1),
)

-- pairs that are in their places stay there when other places change
pub holds_point : (m n : List (List ℕ)) (ps : List (ℕ × List ℕ)) → AllByRecursion (λ p. word_at n p.0 ≡ word_at m p.0) ps → HoldsWords m ps → HoldsWords n ps
holds_point m n [] a h = tt
holds_point m n (p ∷ ps) a h = (a.0 ∙ h.0, holds_point m n ps a.1 h.1)
