-- The values of forms.
use Rattle.std.specs.Prelude.{◌≡◌, ℕ, ◌+◌, ◌-◌, ◌*◌, ◌%◌, ◌^◌, Bool, true, cond, ◌==◌, List, [], ◌∷◌, slice_index, refl}
use Rattle.std.proofs.Common.{arith, ap, sym, ◌∙◌}
use Rattle.std.proofs.lemmas.Bool.{eqb-true, and_parts}
use Rattle.std.proofs.Math.Nat.{mul_assoc, mul-add, add-mul, mul-zero, zero-mul, add-mod, zero-mod}
use Rattle.std.proofs.lemmas.Nat.{mul-mod_first}
use Rattle.model_sums.specs.Forms.{Terms, Form, value_of_terms, value, with_term, with_terms, plus, times_terms, times, negative, minus, are_zero, is_zero, same_forms}
use Rattle.law_sums.proofs.Modulo.{add_same, add_whole, one_less_more, power_positive}

-- ---- sums

term_by : (b : Bool) (t u : ℕ × ℕ) (us rest : Terms) (first : List ℕ) → (u.0 == t.0) ≡ b
    → value_of_terms rest first ≡ t.1 * slice_index first t.0 + value_of_terms us first
    → value_of_terms (cond b ((u.0, u.1 + t.1) ∷ us) (u ∷ rest)) first ≡ t.1 * slice_index first t.0 + (u.1 * slice_index first u.0 + value_of_terms us first)
term_by b t u us rest first e h = grind (arith, eqb-true, add-mul)

-- a term more adds its multiple of its byte
pub value_with_term : (t : ℕ × ℕ) (us : Terms) (first : List ℕ) → value_of_terms (with_term t us) first ≡ t.1 * slice_index first t.0 + value_of_terms us first
value_with_term t [] first = refl
value_with_term t (u ∷ us) first = term_by (u.0 == t.0) t u us (with_term t us) first refl (value_with_term t us first)

-- the value of the terms of two sums is the sum of their values
pub value_with_terms : (ts us : Terms) (first : List ℕ) → value_of_terms (with_terms ts us) first ≡ value_of_terms ts first + value_of_terms us first
value_with_terms [] us first = omega arith
value_with_terms (t ∷ ts) us first = omega (arith, value_with_term t (with_terms ts us) first, value_with_terms ts us first)

-- the value of a sum of forms is the sum of their values
pub value_plus : (f g : Form) (first : List ℕ) → value (plus f g) first ≡ value f first + value g first
value_plus f g first = omega (arith, value_with_terms g.terms f.terms first)

-- ---- multiples

-- the value of a multiple of terms is the multiple of their value
pub value_times_terms : (k : ℕ) (ts : Terms) (first : List ℕ) → value_of_terms (times_terms k ts) first ≡ k * value_of_terms ts first
value_times_terms k [] first = sym (mul-zero k)
value_times_terms k (t ∷ ts) first = grind (arith, mul-add, mul_assoc, value_times_terms k ts first)

-- the value of a multiple of a form is the multiple of its value
pub value_times : (k : ℕ) (f : Form) (first : List ℕ) → value (times k f) first ≡ k * value f first
value_times k f first = omega (arith, value_times_terms k f.terms first, mul-add k f.constant (value_of_terms f.terms first))

-- ---- comparison

-- a form and the negative of another make a form that is as much less
pub value_minus : (n : ℕ) (f g : Form) (first : List ℕ) → (value (minus n f g) first + value g first) % 256 ^ n ≡ value f first % 256 ^ n
value_minus n f g first =
    let whole : value (minus n f g) first ≡ value f first + value (negative n g) first = value_plus f (negative n g) first in
    let part : value (negative n g) first ≡ (256 ^ n - 1) * value g first = value_times (256 ^ n - 1) g first in
    let more : (256 ^ n - 1) * value g first + value g first ≡ value g first * 256 ^ n = one_less_more (256 ^ n) (value g first) (power_positive n) in
    let all : value (minus n f g) first + value g first ≡ value f first + value g first * 256 ^ n = omega (arith, whole, part, more) in
    ap (λ (x : ℕ). x % 256 ^ n) all ∙ add_whole (256 ^ n) (value f first) (value g first)

-- a multiple of what is zero is zero
multiple_zero : (m k x : ℕ) → k % m ≡ 0 → (k * x) % m ≡ 0
multiple_zero m k x h = sym (mul-mod_first k x m) ∙ ap (λ (y : ℕ). (y * x) % m) h ∙ ap (λ (y : ℕ). y % m) (zero-mul x) ∙ zero-mod m

sum_zero : (m a b : ℕ) → a % m ≡ 0 → b % m ≡ 0 → (a + b) % m ≡ 0
sum_zero m a b h k = add-mod a b m ∙ ap (λ (x : ℕ). (x + b % m) % m) h ∙ ap (λ (x : ℕ). (0 + x) % m) k ∙ zero-mod m

-- terms that are zero modulo the numbers of n bytes have such a value
pub terms_zero : (n : ℕ) (ts : Terms) (first : List ℕ) → are_zero n ts ≡ true → value_of_terms ts first % 256 ^ n ≡ 0
terms_zero n [] first e = zero-mod (256 ^ n)
terms_zero n (t ∷ ts) first e =
    let p = and_parts (t.1 % 256 ^ n == 0) (are_zero n ts) e in
    let one : (t.1 * slice_index first t.0) % 256 ^ n ≡ 0 = multiple_zero (256 ^ n) t.1 (slice_index first t.0) (eqb-true (t.1 % 256 ^ n) 0 p.0) in
    sum_zero (256 ^ n) (t.1 * slice_index first t.0) (value_of_terms ts first) one (terms_zero n ts first p.1)

-- so has a form that is zero
pub value_zero : (n : ℕ) (f : Form) (first : List ℕ) → is_zero n f ≡ true → value f first % 256 ^ n ≡ 0
value_zero n f first e =
    let p = and_parts (f.constant % 256 ^ n == 0) (are_zero n f.terms) e in
    sum_zero (256 ^ n) f.constant (value_of_terms f.terms first) (eqb-true (f.constant % 256 ^ n) 0 p.0) (terms_zero n f.terms first p.1)

-- forms that are the same modulo the numbers of n bytes have congruent values
pub value_same : (n : ℕ) (f g : Form) (first : List ℕ) → same_forms n f g ≡ true → value f first % 256 ^ n ≡ value g first % 256 ^ n
value_same n f g first e =
    let none : value (minus n f g) first % 256 ^ n ≡ 0 % 256 ^ n = value_zero n (minus n f g) first e ∙ sym (zero-mod (256 ^ n)) in
    let more : (value (minus n f g) first + value g first) % 256 ^ n ≡ (0 + value g first) % 256 ^ n = add_same (256 ^ n) (value (minus n f g) first) 0 (value g first) (value g first) none refl in
    let nothing : 0 + value g first ≡ value g first = omega arith in
    sym (value_minus n f g first) ∙ more ∙ ap (λ (x : ℕ). x % 256 ^ n) nothing
