-- Values of a byte by what an operation bit by bit makes of them.
use Rattle.std.specs.Prelude.{◌≡◌, ℕ, ◌<◌, true, false, ◌==◌}
use Rattle.prove_facts.specs.model_prove.specs.Sets.{Set, is_in}
use Rattle.prove_facts.specs.Sets.{set_of}
use Rattle.prove_digits.specs.declared.bits.Parts.{Parts}

-- the values of a set below a number that do not make zero, those that do, and what the first ones make
pub record AreParts (n : ℕ) (make : ℕ → ℕ) (xs : Set) (p : Parts) : Type 0 where
  pub other_to : (v : ℕ) → is_in v (set_of p.other) ≡ true → (v < n) × (is_in v xs ≡ true) × ((make v == 0) ≡ false)
  pub other_from : (v : ℕ) → v < n → is_in v xs ≡ true → (make v == 0) ≡ false → is_in v (set_of p.other) ≡ true
  pub zero_to : (v : ℕ) → is_in v (set_of p.zero) ≡ true → (v < n) × (is_in v xs ≡ true) × ((make v == 0) ≡ true)
  pub zero_from : (v : ℕ) → v < n → is_in v xs ≡ true → (make v == 0) ≡ true → is_in v (set_of p.zero) ≡ true
  pub results_to : (r : ℕ) → is_in r (set_of p.results) ≡ true → (x : ℕ) × (is_in x (set_of p.other) ≡ true) × (make x ≡ r)
  pub results_from : (x : ℕ) → is_in x (set_of p.other) ≡ true → is_in (make x) (set_of p.results) ≡ true
