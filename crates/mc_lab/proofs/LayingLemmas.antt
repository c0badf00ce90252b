-- Results laid out by the words of a pattern.
use Rattle.std.proofs.Common.{◌≡◌, ◌<◌, refl, sym, ◌∙◌, ap, ℕ, zero, suc, List, [], ◌∷◌, ◌++◌, length, take, drop, Bool, true, false, Option, Some, None, arith, append_assoc, append-nil}
use Rattle.std.specs.Prelude.{min, ⊤}
use Rattle.law_explore.specs.model_text.specs.Text.{first_cut, is_blank, pieces, pieces_with_character}
use Rattle.law_explore.specs.model_events.specs.Patterns.{without_blanks}
use Rattle.mc_text.proofs.ReadingLemmas.{pieces_at, pieces_cut}
use Rattle.mc_lab.specs.Expectations.{after_blank, laid_by}

-- ---- blanks

kept_by : (c : ℕ) (t : List ℕ) (b : Bool) → is_blank c ≡ b → without_blanks (c ∷ t) ≡ without_blanks (c ∷ []) ++ without_blanks t
kept_by c t true e = rw e refl
kept_by c t false e = rw e refl

-- ---- words

-- there is a piece at least
abbrev HasPiece : List (List ℕ) → Type 0
HasPiece [] = ⊥
HasPiece (p ∷ ps) = ⊤

has_by : (b : Bool) (c : ℕ) (ps : List (List ℕ)) → HasPiece (pieces_with_character b c ps)
has_by b c ps = grind arith

has_piece : (t : List ℕ) → HasPiece (pieces is_blank t)
has_piece [] = tt
has_piece (c ∷ t) = has_by (is_blank c) c (pieces is_blank t)

laid_more : (w : List ℕ) (ps : List (List ℕ)) (t : List ℕ) → HasPiece ps → laid_by (w ∷ ps) t ≡ take (length w) t ++ after_blank (laid_by ps) (drop (length w) t)
laid_more w [] t h = absurd h
laid_more w (p ∷ ps) t h = refl

-- the word before a blank
laid_cut : (signs w rest t : List ℕ) → first_cut is_blank signs ≡ (w, Some rest) → laid_by (pieces is_blank signs) t ≡ take (length w) t ++ after_blank (laid_by (pieces is_blank rest)) (drop (length w) t)
laid_cut signs w rest t e =
    ap (λ ps. laid_by ps t) (pieces_at is_blank signs ∙ ap (pieces_cut is_blank) e) ∙ laid_more w (pieces is_blank rest) t (has_piece rest)

laid_last : (signs w t : List ℕ) → first_cut is_blank signs ≡ (w, None) → laid_by (pieces is_blank signs) t ≡ t
laid_last signs w t e = ap (λ ps. laid_by ps t) (pieces_at is_blank signs ∙ ap (pieces_cut is_blank) e)

-- a text before characters, and after the last
blank_before : (f : List ℕ → List ℕ) (t : List ℕ) → 0 < length t → after_blank f t ≡ 32 ∷ f t
blank_before f [] h = absurd (omega (arith, h))
blank_before f (c ∷ t) h = refl

none_after : (f : List ℕ → List ℕ) (t : List ℕ) → length t ≡ 0 → after_blank f t ≡ []
none_after f [] h = refl
none_after f (c ∷ t) h = absurd (cc h)

-- ---- halves

take_most : (n : ℕ) (t : List ℕ) → take (min n (length t)) t ≡ take n t
take_most zero t = ap (λ (k : ℕ). take k t) (let e : min 0 (length t) ≡ 0 = omega arith in e)
take_most (suc n) [] = ap (λ (k : ℕ). take k []) (let e : min (suc n) 0 ≡ 0 = omega arith in e)
take_most (suc n) (c ∷ t) =
    ap (λ (k : ℕ). take k (c ∷ t)) (let e : min (suc n) (suc (length t)) ≡ suc (min n (length t)) = omega arith in e) ∙ ap (λ (l : List ℕ). c ∷ l) (take_most n t)

drop_most : (n : ℕ) (t : List ℕ) → drop (min n (length t)) t ≡ drop n t
drop_most zero t = ap (λ (k : ℕ). drop k t) (let e : min 0 (length t) ≡ 0 = omega arith in e)
drop_most (suc n) [] = ap (λ (k : ℕ). drop k []) (let e : min (suc n) 0 ≡ 0 = omega arith in e)
drop_most (suc n) (c ∷ t) =
    ap (λ (k : ℕ). drop k (c ∷ t)) (let e : min (suc n) (suc (length t)) ≡ suc (min n (length t)) = omega arith in e) ∙ drop_most n t

-- ---- one word

pair_is : (p : List ℕ × Option (List ℕ)) (a : List ℕ) (b : Option (List ℕ)) → a ≡ p.0 → b ≡ p.1 → p ≡ (a, b)
pair_is p a b e f = ap (λ (x : List ℕ). (x, p.1)) (sym e) ∙ ap (λ (y : Option (List ℕ)). (a, y)) (sym f)

-- the last word
pub laid_end : (signs w t : List ℕ) → w ≡ (first_cut is_blank signs).0 → None ≡ (first_cut is_blank signs).1 → t ≡ laid_by (pieces is_blank signs) t
laid_end signs w t e f = sym (laid_last signs w t (pair_is (first_cut is_blank signs) w None e f))

-- a word before others
pub laid_on : (signs w behind t front left : List ℕ) (k : ℕ) → w ≡ (first_cut is_blank signs).0 → Some behind ≡ (first_cut is_blank signs).1 → k ≡ min (length w) (length t) → front ≡ take k t → left ≡ drop k t
    → front ++ after_blank (laid_by (pieces is_blank behind)) left ≡ laid_by (pieces is_blank signs) t
laid_on signs w behind t front left k e f k_is front_is left_is = grind (arith, take_most, drop_most, laid_cut, pair_is)

-- nothing is left after it
pub laid_none : (signs w behind t front left : List ℕ) (k : ℕ) → w ≡ (first_cut is_blank signs).0 → Some behind ≡ (first_cut is_blank signs).1 → k ≡ min (length w) (length t) → front ≡ take k t → left ≡ drop k t
    → length left ≡ 0 → front ≡ laid_by (pieces is_blank signs) t
laid_none signs w behind t front left k e f k_is front_is left_is none =
    sym (append-nil front)
    ∙ ap (λ (l : List ℕ). front ++ l) (sym (none_after (laid_by (pieces is_blank behind)) left none))
    ∙ laid_on signs w behind t front left k e f k_is front_is left_is

-- a blank is after it
pub laid_blank : (signs w behind t front left : List ℕ) (k : ℕ) → w ≡ (first_cut is_blank signs).0 → Some behind ≡ (first_cut is_blank signs).1 → k ≡ min (length w) (length t) → front ≡ take k t → left ≡ drop k t
    → 0 < length left → (front ++ 32 ∷ []) ++ laid_by (pieces is_blank behind) left ≡ laid_by (pieces is_blank signs) t
laid_blank signs w behind t front left k e f k_is front_is left_is some =
    append_assoc front (32 ∷ []) (laid_by (pieces is_blank behind) left)
    ∙ ap (λ (l : List ℕ). front ++ l) (sym (blank_before (laid_by (pieces is_blank behind)) left some))
    ∙ laid_on signs w behind t front left k e f k_is front_is left_is
