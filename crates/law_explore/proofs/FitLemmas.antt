-- Patterns match as those of expectations do, once capital letters are small ones.
use Rattle.std.specs.Prelude.{◌≡◌, ℕ, ◌+◌, ◌≤◌, Bool, true, false, cond, not, ◌&&◌, ◌||◌, ◌==◌, List, [], ◌∷◌, map, refl}
use Rattle.std.proofs.Common.{arith, ap, sym, ◌∙◌}
use Rattle.std.proofs.lemmas.Bool.{leb-true, ne_eqb, and_parts}
use Rattle.model_play.specs.model_text.specs.Text.{is_blank, is_empty, is_within}
use Rattle.model_events.specs.Patterns.{is_star, is_any, without_blanks}
use Rattle.model_events.specs.Patterns as shared
use Rattle.model_events.specs.Matching.{some_rest, first_and_rest, matches, small, plain, fits}
use Rattle.law_explore.specs.Safety.{FitsLaw}

-- ---- matches

some_same : (f g : List ℕ → Bool) (h : (t : List ℕ) → f t ≡ g t) (t : List ℕ) → some_rest f t ≡ shared.some_rest g t
some_same f g h [] = h []
some_same f g h (c ∷ t) = ap (λ (b : Bool). b || some_rest f t) (h (c ∷ t)) ∙ ap (λ (b : Bool). g (c ∷ t) || b) (some_same f g h t)

first_same : (p : ℕ) (f g : List ℕ → Bool) (h : (t : List ℕ) → f t ≡ g t) (t : List ℕ) → first_and_rest p f t ≡ shared.first_and_rest p g t
first_same p f g h [] = refl
first_same p f g h (c ∷ t) = ap (λ (b : Bool). (is_any p || (c == p)) && b) (h t)

cond_same : (b x y z w : Bool) → x ≡ z → y ≡ w → cond b x y ≡ cond b z w
cond_same true x y z w e f = e
cond_same false x y z w e f = f

matches_same : (p t : List ℕ) → matches p t ≡ shared.matches p t
unfolding matches shared.matches
matches_same [] t = refl
matches_same (p ∷ ps) t =
    cond_same (is_star p) _ _ _ _ (some_same (matches ps) (shared.matches ps) (λ u. matches_same ps u) t)
    (first_same p (matches ps) (shared.matches ps) (λ u. matches_same ps u) t)

-- ---- blanks

no_blank : (c : ℕ) → 65 ≤ c → is_blank c ≡ false
no_blank c high = grind (arith, ne_eqb)

blank_by : (c : ℕ) (b : Bool) → is_within 65 90 c ≡ b → is_blank (cond b (c + 32) c) ≡ is_blank c
blank_by c b e = grind (arith, leb-true, and_parts, no_blank)

blank_small : (c : ℕ) → is_blank (small c) ≡ is_blank c
blank_small c = blank_by c (is_within 65 90 c) refl

kept_by : (b : Bool) (c : ℕ) (t u : List ℕ) → map small u ≡ t → cond (not b) (small c ∷ t) t ≡ map small (cond (not b) (c ∷ u) u)
kept_by true c t u e = sym e
kept_by false c t u e = ap (λ (x : List ℕ). small c ∷ x) (sym e)

blanks_small : (t : List ℕ) → without_blanks (map small t) ≡ plain t
blanks_small [] = refl
blanks_small (c ∷ t) = grind (arith, blank_small, kept_by, blanks_small t)

-- ---- the law

-- patterns match as those of expectations do, in either case of letters
pub fits_law : FitsLaw
unfolding fits
fits_law p t =
    ap (λ (b : Bool). not (is_empty (plain p)) && b) (matches_same (plain p) (plain t))
    ∙ ap (λ (x : List ℕ). not (is_empty x) && shared.matches x (plain t)) (sym (blanks_small p))
    ∙ ap (λ (x : List ℕ). not (is_empty (without_blanks (map small p))) && shared.matches (without_blanks (map small p)) x) (sym (blanks_small t))
