-- The rule of each table, from a test that is computed over all its entries.
use Rattle.std.proofs.Common.{◌≡◌, ℕ, inl, inr, ◌+◌, ◌<◌, ◌==◌, ◌||◌, true, [], ◌∷◌, get_or, refl, arith}
use Rattle.std.specs.Prelude.{bytes_eq}
use Rattle.std.proofs.lemmas.Bool.{eqb-true, or_cases}
use Rattle.std.proofs.lemmas.Slice.Eq.{bytes_eq-Decides}
use Rattle.model_machine.proofs.ModesLemmas.{all_below, below_at}
use Rattle.model_machine.specs.Aes.{mul, inverse, sub, sub_back}
use Rattle.mc_aes.specs.State.{word}
use Rattle.mc_aes.specs.declared.tables.TheConstants.{SUBSTITUTES, BYTES_OF_SUBSTITUTES, COLUMNS, COLUMNS_BACK}

substitutes_test : all_below (λ b. get_or SUBSTITUTES b 0 == sub b) 256 ≡ true
unfolding all_below sub
substitutes_test = refl

pub substitutes_at : (b : ℕ) → b < 256 → get_or SUBSTITUTES b 0 ≡ sub b
substitutes_at b h = eqb-true _ _ (below_at (λ b. get_or SUBSTITUTES b 0 == sub b) 256 substitutes_test b h)

back_test : all_below (λ b. get_or BYTES_OF_SUBSTITUTES b 0 == sub_back b) 256 ≡ true
unfolding all_below sub_back
back_test = refl

pub back_at : (b : ℕ) → b < 256 → get_or BYTES_OF_SUBSTITUTES b 0 ≡ sub_back b
back_at b h = eqb-true _ _ (below_at (λ b. get_or BYTES_OF_SUBSTITUTES b 0 == sub_back b) 256 back_test b h)

-- each of the four parts of a table of columns, one for each row of the state

columns0_test : all_below (λ b. bytes_eq (word (get_or COLUMNS b 0)) (mul 2 (sub b) ∷ mul 1 (sub b) ∷ mul 1 (sub b) ∷ mul 3 (sub b) ∷ [])) 256 ≡ true
unfolding all_below sub mul word
columns0_test = refl

pub columns0_at : (b : ℕ) → b < 256 → word (get_or COLUMNS b 0) ≡ mul 2 (sub b) ∷ mul 1 (sub b) ∷ mul 1 (sub b) ∷ mul 3 (sub b) ∷ []
columns0_at b h = (bytes_eq-Decides _ _).0 (below_at (λ b. bytes_eq (word (get_or COLUMNS b 0)) (mul 2 (sub b) ∷ mul 1 (sub b) ∷ mul 1 (sub b) ∷ mul 3 (sub b) ∷ [])) 256 columns0_test b h)

columns1_test : all_below (λ b. bytes_eq (word (get_or COLUMNS (256 + b) 0)) (mul 3 (sub b) ∷ mul 2 (sub b) ∷ mul 1 (sub b) ∷ mul 1 (sub b) ∷ [])) 256 ≡ true
unfolding all_below sub mul word
columns1_test = refl

pub columns1_at : (b : ℕ) → b < 256 → word (get_or COLUMNS (256 + b) 0) ≡ mul 3 (sub b) ∷ mul 2 (sub b) ∷ mul 1 (sub b) ∷ mul 1 (sub b) ∷ []
columns1_at b h = (bytes_eq-Decides _ _).0 (below_at (λ b. bytes_eq (word (get_or COLUMNS (256 + b) 0)) (mul 3 (sub b) ∷ mul 2 (sub b) ∷ mul 1 (sub b) ∷ mul 1 (sub b) ∷ [])) 256 columns1_test b h)

columns2_test : all_below (λ b. bytes_eq (word (get_or COLUMNS (512 + b) 0)) (mul 1 (sub b) ∷ mul 3 (sub b) ∷ mul 2 (sub b) ∷ mul 1 (sub b) ∷ [])) 256 ≡ true
unfolding all_below sub mul word
columns2_test = refl

pub columns2_at : (b : ℕ) → b < 256 → word (get_or COLUMNS (512 + b) 0) ≡ mul 1 (sub b) ∷ mul 3 (sub b) ∷ mul 2 (sub b) ∷ mul 1 (sub b) ∷ []
columns2_at b h = (bytes_eq-Decides _ _).0 (below_at (λ b. bytes_eq (word (get_or COLUMNS (512 + b) 0)) (mul 1 (sub b) ∷ mul 3 (sub b) ∷ mul 2 (sub b) ∷ mul 1 (sub b) ∷ [])) 256 columns2_test b h)

columns3_test : all_below (λ b. bytes_eq (word (get_or COLUMNS (768 + b) 0)) (mul 1 (sub b) ∷ mul 1 (sub b) ∷ mul 3 (sub b) ∷ mul 2 (sub b) ∷ [])) 256 ≡ true
unfolding all_below sub mul word
columns3_test = refl

pub columns3_at : (b : ℕ) → b < 256 → word (get_or COLUMNS (768 + b) 0) ≡ mul 1 (sub b) ∷ mul 1 (sub b) ∷ mul 3 (sub b) ∷ mul 2 (sub b) ∷ []
columns3_at b h = (bytes_eq-Decides _ _).0 (below_at (λ b. bytes_eq (word (get_or COLUMNS (768 + b) 0)) (mul 1 (sub b) ∷ mul 1 (sub b) ∷ mul 3 (sub b) ∷ mul 2 (sub b) ∷ [])) 256 columns3_test b h)

columns_back0_test : all_below (λ b. bytes_eq (word (get_or COLUMNS_BACK b 0)) (mul 14 b ∷ mul 9 b ∷ mul 13 b ∷ mul 11 b ∷ [])) 256 ≡ true
unfolding all_below mul word
columns_back0_test = refl

pub columns_back0_at : (b : ℕ) → b < 256 → word (get_or COLUMNS_BACK b 0) ≡ mul 14 b ∷ mul 9 b ∷ mul 13 b ∷ mul 11 b ∷ []
columns_back0_at b h = (bytes_eq-Decides _ _).0 (below_at (λ b. bytes_eq (word (get_or COLUMNS_BACK b 0)) (mul 14 b ∷ mul 9 b ∷ mul 13 b ∷ mul 11 b ∷ [])) 256 columns_back0_test b h)

columns_back1_test : all_below (λ b. bytes_eq (word (get_or COLUMNS_BACK (256 + b) 0)) (mul 11 b ∷ mul 14 b ∷ mul 9 b ∷ mul 13 b ∷ [])) 256 ≡ true
unfolding all_below mul word
columns_back1_test = refl

pub columns_back1_at : (b : ℕ) → b < 256 → word (get_or COLUMNS_BACK (256 + b) 0) ≡ mul 11 b ∷ mul 14 b ∷ mul 9 b ∷ mul 13 b ∷ []
columns_back1_at b h = (bytes_eq-Decides _ _).0 (below_at (λ b. bytes_eq (word (get_or COLUMNS_BACK (256 + b) 0)) (mul 11 b ∷ mul 14 b ∷ mul 9 b ∷ mul 13 b ∷ [])) 256 columns_back1_test b h)

columns_back2_test : all_below (λ b. bytes_eq (word (get_or COLUMNS_BACK (512 + b) 0)) (mul 13 b ∷ mul 11 b ∷ mul 14 b ∷ mul 9 b ∷ [])) 256 ≡ true
unfolding all_below mul word
columns_back2_test = refl

pub columns_back2_at : (b : ℕ) → b < 256 → word (get_or COLUMNS_BACK (512 + b) 0) ≡ mul 13 b ∷ mul 11 b ∷ mul 14 b ∷ mul 9 b ∷ []
columns_back2_at b h = (bytes_eq-Decides _ _).0 (below_at (λ b. bytes_eq (word (get_or COLUMNS_BACK (512 + b) 0)) (mul 13 b ∷ mul 11 b ∷ mul 14 b ∷ mul 9 b ∷ [])) 256 columns_back2_test b h)

columns_back3_test : all_below (λ b. bytes_eq (word (get_or COLUMNS_BACK (768 + b) 0)) (mul 9 b ∷ mul 13 b ∷ mul 11 b ∷ mul 14 b ∷ [])) 256 ≡ true
unfolding all_below mul word
columns_back3_test = refl

pub columns_back3_at : (b : ℕ) → b < 256 → word (get_or COLUMNS_BACK (768 + b) 0) ≡ mul 9 b ∷ mul 13 b ∷ mul 11 b ∷ mul 14 b ∷ []
columns_back3_at b h = (bytes_eq-Decides _ _).0 (below_at (λ b. bytes_eq (word (get_or COLUMNS_BACK (768 + b) 0)) (mul 9 b ∷ mul 13 b ∷ mul 11 b ∷ mul 14 b ∷ [])) 256 columns_back3_test b h)

inverse_test : all_below (λ b. (b == 0) || (mul b (inverse b) == 1)) 256 ≡ true
unfolding all_below mul inverse
inverse_test = refl

pub inverse_at : (b : ℕ) → 0 < b → b < 256 → mul b (inverse b) ≡ 1
inverse_at b some h =
    elim (or_cases _ _ (below_at (λ b. (b == 0) || (mul b (inverse b) == 1)) 256 inverse_test b h)) [
      | inl none ↦ let zero : b ≡ 0 = eqb-true b 0 none in absurd (omega arith)
      | inr one ↦ eqb-true _ _ one
    ]
