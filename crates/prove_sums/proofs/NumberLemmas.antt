-- Numbers in bytes, modulo 256 ^ 16.
use Rattle.std.proofs.Common.{◌≡◌, ◌∙◌, ℕ, ◌+◌, ◌-◌, ◌*◌, ◌^◌, ◌<◌, ◌≤◌, List, [], length, get_or, drop, refl, sym, ap, arith}
use Rattle.std.specs.Prelude.{◌%◌, map}
use Rattle.std.proofs.Math.Nat.{mod-add-mod, mod-eq_of_lt, mod-mod, pow-le-pow_right}
use Rattle.std.proofs.lemmas.Nat.{mul-mod_first}
use Rattle.model_device.specs.Bytes.{num, AreBytes}
use Rattle.prove_forms.specs.model_sums.specs.Forms as forms
use Rattle.prove_forms.specs.declared.forms.Term.{Term}
use Rattle.prove_forms.specs.Forms.{reduced_terms, term_value}
use Rattle.mc_arith.specs.law_rows.proofs.BlockLemmas.{num_below}
use Rattle.prove_works.proofs.NumberLemmas.{number_next}

-- the number of values of 16 bytes
abbrev pub modulus : ℕ
modulus = 256 ^ 16

wrapped : (x b p r m : ℕ) → ((x % m + b) % m * p + r) % m ≡ ((x + b) * p + r) % m
wrapped x b p r m =
    ap (λ (k : ℕ). (k * p + r) % m) (mod-add-mod x m b)
    ∙ sym (mod-add-mod ((x + b) % m * p) m r)
    ∙ ap (λ (k : ℕ). (k + r) % m) (mul-mod_first (x + b) p m)
    ∙ mod-add-mod ((x + b) * p) m r

-- the number so far takes the next byte
pub low_next : (l : List ℕ) (n i t : ℕ) → i < length l → (n * 256 ^ (length l - i) + num (drop i l)) % modulus ≡ t
    → ((n * 256 % modulus + get_or l i 0) % modulus * 256 ^ (length l - (i + 1)) + num (drop (i + 1) l)) % modulus ≡ t
low_next l n i t h e =
    wrapped (n * 256) (get_or l i 0) (256 ^ (length l - (i + 1))) (num (drop (i + 1) l)) modulus
    ∙ ap (λ (k : ℕ). k % modulus) (number_next l n i (n * 256 ^ (length l - i) + num (drop i l)) h refl) ∙ e

-- that of few bytes is the whole one
pub low_whole : (l : List ℕ) (n : ℕ) → AreBytes l → length l ≤ 16 → n ≡ num l % modulus → n ≡ num l
low_whole l n a s e =
    let low : num l < 256 ^ length l = num_below l a in
    let most : 256 ^ length l ≤ 256 ^ 16 = pow-le-pow_right {n = 256} (omega arith) {i = length l} {j = 16} s in
    e ∙ mod-eq_of_lt (omega (arith, low, most))

-- a number that is one modulo those of 16 bytes is so again
pub low_again : (n k : ℕ) → n ≡ k % modulus → n % modulus ≡ k % modulus
low_again n k e = ap (λ (x : ℕ). x % modulus) e ∙ mod-mod k modulus

-- ---- as a form

-- a number that is written modulo 256 ^ 16
pub number_written : (n k : ℕ) (ts : List Term) → n ≡ k % modulus → ts ≡ []
    → ◌≡◌ {A = forms.Form} (record { constant = n % modulus; terms = reduced_terms (map term_value ts) }) (record { constant = k % modulus; terms = [] })
number_written n k ts e f =
    ap (λ (x : ℕ). record { constant = x; terms = reduced_terms (map term_value ts) }) (low_again n k e)
    ∙ ap (λ (x : List Term). record { constant = k % modulus; terms = reduced_terms (map term_value x) }) f

-- one that is written as it is
pub number_exact : (n k : ℕ) (ts : List Term) → n ≡ k → ts ≡ []
    → ◌≡◌ {A = forms.Form} (record { constant = k; terms = [] }) (record { constant = n; terms = map term_value ts })
number_exact n k ts e f =
    ap (λ (x : ℕ). record { constant = x; terms = [] }) (sym e) ∙ ap (λ (x : List Term). record { constant = n; terms = map term_value x }) (sym f)
