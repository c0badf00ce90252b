-- The rule of each table, from a test that is computed over all its entries.
use Rattle.std.proofs.Common.{◌≡◌, ℕ, ◌+◌, ◌*◌, ◌<◌, true, List, get_or, refl}
use Rattle.std.specs.Prelude.{bytes_eq}
use Rattle.std.proofs.lemmas.Slice.Eq.{bytes_eq-Decides}
use Rattle.model_machine.proofs.ModesLemmas.{all_below, below_at}
use Rattle.model_machine.specs.Des.{bits, pick, initial, final, choice1, choice2, permutation, boxes, box_at}
use Rattle.mc_des.specs.Words.{alone, key_bits, box_alone}
use Rattle.mc_des.specs.declared.tables.TheConstants.{INITIAL, FINAL}
use Rattle.mc_des.specs.declared.key_tables.TheConstants.{CHOICE1, CHOICE2}
use Rattle.mc_des.specs.declared.box_table.TheConstants.{BOXES}

-- a rule at each entry of a table of rows, from the test over all entries
module _ (width : ℕ) (left right : ℕ → ℕ → List ℕ) (count : ℕ)
    (test : all_below (λ i. all_below (λ v. bytes_eq (left i v) (right i v)) width) count ≡ true) where
  rule_at : (i v : ℕ) → i < count → v < width → left i v ≡ right i v
  rule_at i v hi hv =
      (bytes_eq-Decides (left i v) (right i v)).0
      (below_at (λ v. bytes_eq (left i v) (right i v)) width
      (below_at (λ i. all_below (λ v. bytes_eq (left i v) (right i v)) width) count test i hi) v hv)

initial_test : all_below (λ i. all_below (λ v. bytes_eq (bits 64 (get_or INITIAL (16 * i + v) 0)) (pick initial (alone 16 i v))) 16) 16 ≡ true
unfolding all_below bits pick initial
initial_test = refl

pub initial_at : (i v : ℕ) → i < 16 → v < 16 → bits 64 (get_or INITIAL (16 * i + v) 0) ≡ pick initial (alone 16 i v)
initial_at = rule_at 16 (λ i v. bits 64 (get_or INITIAL (16 * i + v) 0)) (λ i v. pick initial (alone 16 i v)) 16 initial_test

final_test : all_below (λ i. all_below (λ v. bytes_eq (bits 64 (get_or FINAL (16 * i + v) 0)) (pick final (alone 16 i v))) 16) 16 ≡ true
unfolding all_below bits pick final
final_test = refl

pub final_at : (i v : ℕ) → i < 16 → v < 16 → bits 64 (get_or FINAL (16 * i + v) 0) ≡ pick final (alone 16 i v)
final_at = rule_at 16 (λ i v. bits 64 (get_or FINAL (16 * i + v) 0)) (λ i v. pick final (alone 16 i v)) 16 final_test

choice1_test : all_below (λ i. all_below (λ v. bytes_eq (bits 56 (get_or CHOICE1 (16 * i + v) 0)) (pick choice1 (alone 16 i v))) 16) 16 ≡ true
unfolding all_below bits pick choice1
choice1_test = refl

pub choice1_at : (i v : ℕ) → i < 16 → v < 16 → bits 56 (get_or CHOICE1 (16 * i + v) 0) ≡ pick choice1 (alone 16 i v)
choice1_at = rule_at 16 (λ i v. bits 56 (get_or CHOICE1 (16 * i + v) 0)) (λ i v. pick choice1 (alone 16 i v)) 16 choice1_test

choice2_test : all_below (λ i. all_below (λ v. bytes_eq (key_bits (get_or CHOICE2 (16 * i + v) 0)) (pick choice2 (alone 14 i v))) 16) 14 ≡ true
unfolding all_below bits pick choice2 key_bits
choice2_test = refl

pub choice2_at : (i v : ℕ) → i < 14 → v < 16 → key_bits (get_or CHOICE2 (16 * i + v) 0) ≡ pick choice2 (alone 14 i v)
choice2_at = rule_at 16 (λ i v. key_bits (get_or CHOICE2 (16 * i + v) 0)) (λ i v. pick choice2 (alone 14 i v)) 14 choice2_test

boxes_test : all_below (λ i. all_below (λ v. bytes_eq (bits 32 (get_or BOXES (64 * i + v) 0)) (pick permutation (box_alone i v))) 64) 8 ≡ true
unfolding all_below bits pick permutation boxes box_at
boxes_test = refl

pub boxes_at : (i v : ℕ) → i < 8 → v < 64 → bits 32 (get_or BOXES (64 * i + v) 0) ≡ pick permutation (box_alone i v)
boxes_at = rule_at 64 (λ i v. bits 32 (get_or BOXES (64 * i + v) 0)) (λ i v. pick permutation (box_alone i v)) 8 boxes_test
