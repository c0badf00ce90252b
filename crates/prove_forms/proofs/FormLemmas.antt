-- Forms modulo 256 ^ 16.
use Rattle.std.specs.Prelude.{◌≡◌, ◌⊎◌, ℕ, ◌+◌, ◌-◌, ◌*◌, ◌%◌, ◌^◌, ◌≤◌, Bool, true, ◌&&◌, ◌==◌, List, [], refl}
use Rattle.std.proofs.Common.{arith, ap, sym, ◌∙◌, inl, inr}
use Rattle.std.proofs.lemmas.Bool.{and_from, eq-eqb}
use Rattle.std.proofs.Math.Nat.{add-mod, mod-mod, mul-zero, zero-mul}
use Rattle.std.proofs.lemmas.Nat.{mul-mod}
use Rattle.model_sums.specs.Forms as forms
use Rattle.model_sums.specs.Forms.{Terms, with_terms, times_terms, are_zero}
use Rattle.prove_forms.specs.declared.forms.Term.{Term}
use Rattle.prove_forms.specs.declared.forms.Form.{Form}
use Rattle.prove_forms.specs.Forms.{modulus, terms_value, form_value, reduced_terms, reduced, FormIs, IsConstant, IsNothing, wrapped_terms, multiples}
use Rattle.prove_forms.proofs.NumberLemmas.{lower, power_some, product_left, cancels}
use Rattle.prove_forms.proofs.TermLemmas.{reduced_sum, wrapped_sum, reduced_multiple, wrapped_multiple, zero_reduced}

-- a form of these parts
abbrev made : ℕ → Terms → forms.Form
made a s = record { constant = a; terms = s }

parts_make : (a b : ℕ) (s t : Terms) → a ≡ b → s ≡ t → made a s ≡ made b t
parts_make a b s t e h = ap (λ (x : ℕ). made x s) e ∙ ap (λ (r : Terms). made b r) h

-- a form is what it is written as, exact or not
pub is_itself : (p : Form) → FormIs p (form_value p)
is_itself p = record { value = refl; exact = λ e. refl }

-- another form that is written alike is the same one
pub is_alike : (p q : Form) (f : forms.Form) → form_value q ≡ form_value p → q.exact ≡ p.exact → FormIs p f → FormIs q f
is_alike p q f v e h =
    record { value = ap (λ (x : forms.Form). reduced x) v ∙ h.value; exact = λ x. h.exact (sym e ∙ x) ∙ sym v }

constant_is : (p : Form) (f : forms.Form) → FormIs p f → p.constant % modulus ≡ f.constant % modulus
constant_is p f h = ap (λ (x : forms.Form). x.constant) h.value

terms_are : (p : Form) (f : forms.Form) → FormIs p f → reduced_terms (terms_value p.terms.items) ≡ reduced_terms f.terms
terms_are p f h = ap (λ (x : forms.Form). x.terms) h.value

no_terms : (p : Form) → IsConstant p → terms_value p.terms.items ≡ []
no_terms p n = ap (λ (l : List Term). terms_value l) n.terms

-- the form that is the number zero, as it is
nothing_is : (p : Form) (f : forms.Form) → IsNothing p → FormIs p f → f ≡ made 0 []
nothing_is p f n h = h.exact n.plain.exact ∙ parts_make p.constant 0 (terms_value p.terms.items) [] n.constant (no_terms p n.plain)

-- ---- sums

sum_exact : (p q r : Form) (f g : forms.Form) → (q.constant ≡ 0 → r.constant ≡ p.constant)
    → terms_value r.terms.items ≡ wrapped_terms (terms_value q.terms.items) (terms_value p.terms.items) → p.exact ≡ true → IsNothing q → FormIs p f → FormIs q g
    → forms.plus f g ≡ form_value r
sum_exact p q r f g b t x n h i =
    let same : p.constant + 0 ≡ p.constant = omega arith in
    let terms : terms_value r.terms.items ≡ terms_value p.terms.items =
    t ∙ ap (λ (s : Terms). wrapped_terms s (terms_value p.terms.items)) (no_terms q n.plain) in
    ap (λ (y : forms.Form). forms.plus f y) (nothing_is q g n i) ∙ ap (λ (y : forms.Form). forms.plus y (made 0 [])) (h.exact x)
    ∙ parts_make (p.constant + 0) r.constant (terms_value p.terms.items) (terms_value r.terms.items) (same ∙ sym (b n.constant)) (sym terms)

pub sum_is : (p q r : Form) (f g : forms.Form) → (q.constant ≡ 0 → r.constant ≡ p.constant) → r.constant ≡ (p.constant + q.constant) % modulus
    → terms_value r.terms.items ≡ wrapped_terms (terms_value q.terms.items) (terms_value p.terms.items)
    → (r.exact ≡ true → (p.exact ≡ true) × IsNothing q) → FormIs p f → FormIs q g → FormIs r (forms.plus f g)
sum_is p q r f g b c t e h i =
    let constant : r.constant % modulus ≡ (f.constant + g.constant) % modulus =
    ap (λ (x : ℕ). x % modulus) c ∙ mod-mod (p.constant + q.constant) modulus ∙ add-mod p.constant q.constant modulus
    ∙ ap (λ (x : ℕ). (x + q.constant % modulus) % modulus) (constant_is p f h) ∙ ap (λ (x : ℕ). (f.constant % modulus + x) % modulus) (constant_is q g i)
    ∙ sym (add-mod f.constant g.constant modulus) in
    let terms : reduced_terms (terms_value r.terms.items) ≡ reduced_terms (with_terms g.terms f.terms) =
    ap (λ (s : Terms). reduced_terms s) t ∙ wrapped_sum (terms_value q.terms.items) (terms_value p.terms.items)
    ∙ ap (λ (s : Terms). wrapped_terms s (reduced_terms (terms_value p.terms.items))) (terms_are q g i)
    ∙ ap (λ (s : Terms). wrapped_terms (reduced_terms g.terms) s) (terms_are p f h)
    ∙ sym (reduced_sum g.terms f.terms) in
    record {
      value = parts_make (r.constant % modulus) ((f.constant + g.constant) % modulus) (reduced_terms (terms_value r.terms.items)) (reduced_terms (with_terms g.terms f.terms)) constant terms;
      exact = λ x. sum_exact p q r f g b t (e x).0 (e x).1 h i;
    }

-- ---- multiples

multiple_exact : (p r : Form) (f : forms.Form) (k factor : ℕ) → r.constant ≡ (p.constant * factor) % modulus
    → terms_value r.terms.items ≡ multiples factor (terms_value p.terms.items) → IsNothing p → FormIs p f → forms.times k f ≡ form_value r
multiple_exact p r f k factor c t n h =
    let zero : r.constant ≡ 0 = c ∙ ap (λ (x : ℕ). (x * factor) % modulus) n.constant ∙ ap (λ (x : ℕ). x % modulus) (zero-mul factor) in
    let none : terms_value r.terms.items ≡ [] = t ∙ ap (λ (s : Terms). multiples factor s) (no_terms p n.plain) in
    ap (λ (y : forms.Form). forms.times k y) (nothing_is p f n h)
    ∙ parts_make (k * 0) r.constant [] (terms_value r.terms.items) (mul-zero k ∙ sym zero) (sym none)

pub multiple_is : (p r : Form) (f : forms.Form) (k factor : ℕ) → r.constant ≡ (p.constant * factor) % modulus
    → terms_value r.terms.items ≡ multiples factor (terms_value p.terms.items) → (r.exact ≡ true → IsNothing p) → factor % modulus ≡ k % modulus → FormIs p f
    → FormIs r (forms.times k f)
multiple_is p r f k factor c t e u h =
    let constant : r.constant % modulus ≡ (k * f.constant) % modulus =
    ap (λ (x : ℕ). x % modulus) c ∙ mod-mod (p.constant * factor) modulus ∙ mul-mod p.constant factor modulus
    ∙ ap (λ (x : ℕ). (x * (factor % modulus)) % modulus) (constant_is p f h) ∙ ap (λ (x : ℕ). (f.constant % modulus * x) % modulus) u
    ∙ sym (product_left k f.constant modulus) in
    let terms : reduced_terms (terms_value r.terms.items) ≡ reduced_terms (times_terms k f.terms) =
    ap (λ (s : Terms). reduced_terms s) t ∙ wrapped_multiple factor (terms_value p.terms.items)
    ∙ ap (λ (s : Terms). multiples (factor % modulus) s) (terms_are p f h) ∙ ap (λ (x : ℕ). multiples x (reduced_terms f.terms)) u ∙ sym (reduced_multiple k f.terms) in
    record {
      value = parts_make (r.constant % modulus) ((k * f.constant) % modulus) (reduced_terms (terms_value r.terms.items)) (reduced_terms (times_terms k f.terms)) constant terms;
      exact = λ x. multiple_exact p r f k factor c t (e x) h;
    }

-- ---- comparison

-- whether a form is zero is seen modulo 256 ^ 16
zero_lower : (n : ℕ) (f : forms.Form) → n ≤ 16 → forms.is_zero n (reduced f) ≡ forms.is_zero n f
zero_lower n f h =
    ap (λ (x : ℕ). x == 0 && are_zero n (reduced_terms f.terms)) (lower n f.constant h)
    ∙ ap (λ (b : Bool). f.constant % 256 ^ n == 0 && b) (zero_reduced n f.terms h)

-- what is zero as it is written is zero, of at most 16 bytes or if it is exact
pub zero_is : (p : Form) (f : forms.Form) (n : ℕ) → (n ≤ 16) ⊎ (p.exact ≡ true) → p.constant % 256 ^ n ≡ 0 → are_zero n (terms_value p.terms.items) ≡ true → FormIs p f
    → forms.is_zero n f ≡ true
zero_is p f n how c t h =
    let here : forms.is_zero n (form_value p) ≡ true =
    and_from (p.constant % 256 ^ n == 0) (are_zero n (terms_value p.terms.items)) (eq-eqb (p.constant % 256 ^ n) 0 c) t in
    elim how [
      | inl short ↦ sym (zero_lower n f short) ∙ ap (λ (x : forms.Form). forms.is_zero n x) (sym h.value) ∙ zero_lower n (form_value p) short ∙ here
      | inr exact ↦ ap (λ (x : forms.Form). forms.is_zero n x) (h.exact exact) ∙ here
    ]

-- constants that are equal are the same
pub constants_same : (p q : Form) (f g : forms.Form) (n : ℕ) → IsConstant p → IsConstant q → p.constant ≡ q.constant → FormIs p f → FormIs q g
    → forms.same_forms n f g ≡ true
constants_same p q f g n x y e h i =
    let m : ℕ = 256 ^ n in
    let first : f ≡ made p.constant [] = h.exact x.exact ∙ parts_make p.constant p.constant (terms_value p.terms.items) [] refl (no_terms p x) in
    let second : g ≡ made p.constant [] = i.exact y.exact ∙ parts_make q.constant p.constant (terms_value q.terms.items) [] (sym e) (no_terms q y) in
    ap (λ (z : forms.Form). forms.same_forms n z g) first ∙ ap (λ (z : forms.Form). forms.same_forms n (made p.constant []) z) second
    ∙ and_from ((p.constant + (m - 1) * p.constant) % m == 0) true (eq-eqb ((p.constant + (m - 1) * p.constant) % m) 0 (cancels m p.constant (power_some n))) refl
