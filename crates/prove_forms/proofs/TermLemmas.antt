-- Terms modulo 256 ^ 16.
use Rattle.std.specs.Prelude.{◌≡◌, ℕ, suc, ◌+◌, ◌*◌, ◌%◌, ◌^◌, ◌<◌, ◌≤◌, Bool, true, false, cond, ◌&&◌, ◌==◌, List, [], ◌∷◌, ◌++◌, length, get_or, refl}
use Rattle.std.proofs.Common.{set, arith, ap, sym, subst, ◌∙◌}
use Rattle.std.proofs.lemmas.Bool.{eqb-true}
use Rattle.std.proofs.Math.Nat.{add-mod, mod-mod}
use Rattle.std.proofs.lemmas.Nat.{mul-mod}
use Rattle.model_sums.specs.Forms.{Terms, with_term, with_terms, times_terms, are_zero}
use Rattle.prove_forms.specs.declared.forms.Term.{Term}
use Rattle.prove_forms.specs.Forms.{modulus, term_value, terms_value, reduced_terms, place_in, wrapped_term, wrapped_terms, multiples}
use Rattle.prove_forms.proofs.NumberLemmas.{lower, product_left}

-- ---- sums and multiples of what they are modulo 256 ^ 16

with_by : (b : Bool) (t u : ℕ × ℕ) (us rest : Terms) → reduced_terms rest ≡ wrapped_term (t.0, t.1 % modulus) (reduced_terms us)
    → reduced_terms (cond b ((u.0, u.1 + t.1) ∷ us) (u ∷ rest))
    ≡ cond b ((u.0, (u.1 % modulus + t.1 % modulus) % modulus) ∷ reduced_terms us) ((u.0, u.1 % modulus) ∷ wrapped_term (t.0, t.1 % modulus) (reduced_terms us))
with_by true t u us rest h = ap (λ (x : ℕ). (u.0, x) ∷ reduced_terms us) (add-mod u.1 t.1 modulus)
with_by false t u us rest h = ap (λ (r : Terms). (u.0, u.1 % modulus) ∷ r) h

reduced_with : (t : ℕ × ℕ) (us : Terms) → reduced_terms (with_term t us) ≡ wrapped_term (t.0, t.1 % modulus) (reduced_terms us)
reduced_with t [] = refl
reduced_with t (u ∷ us) = with_by (u.0 == t.0) t u us (with_term t us) (reduced_with t us)

-- the sum of terms, modulo 256 ^ 16
pub reduced_sum : (ts us : Terms) → reduced_terms (with_terms ts us) ≡ wrapped_terms (reduced_terms ts) (reduced_terms us)
reduced_sum [] us = refl
reduced_sum (t ∷ ts) us = reduced_with t (with_terms ts us) ∙ ap (λ (r : Terms). wrapped_term (t.0, t.1 % modulus) r) (reduced_sum ts us)

wrapped_by : (b : Bool) (t u : ℕ × ℕ) (us rest : Terms) → reduced_terms rest ≡ wrapped_term (t.0, t.1 % modulus) (reduced_terms us)
    → reduced_terms (cond b ((u.0, (u.1 + t.1) % modulus) ∷ us) (u ∷ rest))
    ≡ cond b ((u.0, (u.1 % modulus + t.1 % modulus) % modulus) ∷ reduced_terms us) ((u.0, u.1 % modulus) ∷ wrapped_term (t.0, t.1 % modulus) (reduced_terms us))
wrapped_by true t u us rest h = ap (λ (x : ℕ). (u.0, x) ∷ reduced_terms us) (mod-mod (u.1 + t.1) modulus ∙ add-mod u.1 t.1 modulus)
wrapped_by false t u us rest h = ap (λ (r : Terms). (u.0, u.1 % modulus) ∷ r) h

wrapped_with : (t : ℕ × ℕ) (us : Terms) → reduced_terms (wrapped_term t us) ≡ wrapped_term (t.0, t.1 % modulus) (reduced_terms us)
wrapped_with t [] = refl
wrapped_with t (u ∷ us) = wrapped_by (u.0 == t.0) t u us (wrapped_term t us) (wrapped_with t us)

-- as it is computed
pub wrapped_sum : (ts us : Terms) → reduced_terms (wrapped_terms ts us) ≡ wrapped_terms (reduced_terms ts) (reduced_terms us)
wrapped_sum [] us = refl
wrapped_sum (t ∷ ts) us = wrapped_with t (wrapped_terms ts us) ∙ ap (λ (r : Terms). wrapped_term (t.0, t.1 % modulus) r) (wrapped_sum ts us)

-- a multiple of terms, modulo 256 ^ 16
pub reduced_multiple : (k : ℕ) (ts : Terms) → reduced_terms (times_terms k ts) ≡ multiples (k % modulus) (reduced_terms ts)
reduced_multiple k [] = refl
reduced_multiple k (t ∷ ts) =
    ap (λ (x : ℕ). (t.0, x) ∷ reduced_terms (times_terms k ts)) (product_left k t.1 modulus)
    ∙ ap (λ (r : Terms). (t.0, (t.1 % modulus * (k % modulus)) % modulus) ∷ r) (reduced_multiple k ts)

-- as it is computed
pub wrapped_multiple : (k : ℕ) (ts : Terms) → reduced_terms (multiples k ts) ≡ multiples (k % modulus) (reduced_terms ts)
wrapped_multiple k [] = refl
wrapped_multiple k (t ∷ ts) =
    ap (λ (x : ℕ). (t.0, x) ∷ reduced_terms (multiples k ts)) (mod-mod (t.1 * k) modulus ∙ mul-mod t.1 k modulus)
    ∙ ap (λ (r : Terms). (t.0, (t.1 % modulus * (k % modulus)) % modulus) ∷ r) (wrapped_multiple k ts)

-- whether factors are zero is seen modulo 256 ^ 16
pub zero_reduced : (n : ℕ) (ts : Terms) → n ≤ 16 → are_zero n (reduced_terms ts) ≡ are_zero n ts
zero_reduced n [] h = refl
zero_reduced n (t ∷ ts) h =
    ap (λ (x : ℕ). x == 0 && are_zero n (reduced_terms ts)) (lower n t.1 h) ∙ ap (λ (b : Bool). t.1 % 256 ^ n == 0 && b) (zero_reduced n ts h)

-- ---- one term more

appended_by : (b : Bool) (u t : Term) (ts : List Term) → (length ts ≤ place_in t.at (terms_value ts) → terms_value (ts ++ t ∷ []) ≡ wrapped_term (term_value t) (terms_value ts))
    → suc (length ts) ≤ cond b 0 (suc (place_in t.at (terms_value ts)))
    → term_value u ∷ terms_value (ts ++ t ∷ [])
    ≡ cond b ((u.at, (u.factor + t.factor) % modulus) ∷ terms_value ts) (term_value u ∷ wrapped_term (term_value t) (terms_value ts))
appended_by true u t ts f h = absurd (omega (arith, h))
appended_by false u t ts f h = ap (λ (r : Terms). term_value u ∷ r) (f (omega (arith, h)))

-- a term of a public byte that has none
pub appended : (ts : List Term) (t : Term) → length ts ≤ place_in t.at (terms_value ts) → terms_value (ts ++ t ∷ []) ≡ wrapped_term (term_value t) (terms_value ts)
appended [] t h = refl
appended (u ∷ ts) t h = appended_by (u.at == t.at) u t ts (appended ts t) h

stored_by : (b : Bool) (u t d : Term) (ts : List Term) → (u.at == t.at) ≡ b
    → (place_in t.at (terms_value ts) < length ts
    → terms_value (set ts (place_in t.at (terms_value ts)) (record { at = t.at; factor = ((get_or ts (place_in t.at (terms_value ts)) d).factor + t.factor) % modulus }))
    ≡ wrapped_term (term_value t) (terms_value ts))
    → cond b 0 (suc (place_in t.at (terms_value ts))) < suc (length ts)
    → terms_value (set (u ∷ ts) (cond b 0 (suc (place_in t.at (terms_value ts))))
    (record { at = t.at; factor = ((get_or (u ∷ ts) (cond b 0 (suc (place_in t.at (terms_value ts)))) d).factor + t.factor) % modulus }))
    ≡ cond b ((u.at, (u.factor + t.factor) % modulus) ∷ terms_value ts) (term_value u ∷ wrapped_term (term_value t) (terms_value ts))
stored_by true u t d ts e f h = ap (λ (a : ℕ). (a, (u.factor + t.factor) % modulus) ∷ terms_value ts) (sym (eqb-true u.at t.at e))
stored_by false u t d ts e f h = ap (λ (r : Terms). term_value u ∷ r) (f (omega (arith, h)))

-- a term of a public byte that has one
pub stored : (ts : List Term) (t d : Term) → place_in t.at (terms_value ts) < length ts
    → terms_value (set ts (place_in t.at (terms_value ts)) (record { at = t.at; factor = ((get_or ts (place_in t.at (terms_value ts)) d).factor + t.factor) % modulus }))
    ≡ wrapped_term (term_value t) (terms_value ts)
stored [] t d h = absurd (omega (arith, h))
stored (u ∷ ts) t d h = stored_by (u.at == t.at) u t d ts refl (stored ts t d) h

pub stored_at : (ts : List Term) (t x : Term) (n : ℕ) → n ≡ place_in t.at (terms_value ts) → n < length ts → x ≡ get_or ts n x
    → terms_value (set ts n (record { at = t.at; factor = (x.factor + t.factor) % modulus })) ≡ wrapped_term (term_value t) (terms_value ts)
stored_at ts t x n e h g =
    ap (λ (y : Term). terms_value (set ts n (record { at = t.at; factor = (y.factor + t.factor) % modulus }))) g
    ∙ ap (λ (k : ℕ). terms_value (set ts k (record { at = t.at; factor = ((get_or ts k x).factor + t.factor) % modulus }))) e
    ∙ stored ts t x (subst (λ (k : ℕ). k < length ts) e h)
