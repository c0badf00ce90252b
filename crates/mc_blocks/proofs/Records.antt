-- The words of a record.
use Rattle.std.proofs.Common.{◌≡◌, ℕ, ◌+◌, ◌≤◌, List, [], ◌∷◌, length, take, drop, refl, sym, ◌∙◌, ap, arith, subst, length-drop, Bool, true, false, ◌&&◌}
use Rattle.std.specs.Prelude.{nat_le, ◌==◌, slice_index, bytes_eq}
use Rattle.mc_words.specs.model_device.specs.Bytes.{be2, zeros}
use Rattle.mc_words.specs.model_device.specs.Card.{words_of_lengths, word, record_at}
use Rattle.mc_words.specs.model_device.specs.Layout.{is_record}
use Rattle.mc_blocks.specs.Records.{has_valid_name, has_valid_lengths, has_valid_access}
use Rattle.std.specs.List.{flat_map}
use Rattle.std.proofs.lemmas.List.{drop_more, take_all}
use Rattle.std.proofs.lemmas.Bool.{le-leb}
use Rattle.std.proofs.lemmas.List.Concat.{concat_is}

-- the four words after a header
four : (m : List (List ℕ)) (p : ℕ) → p + 5 ≤ length m → take 4 (drop (p + 1) m) ≡ word m (p + 1) ∷ word m (p + 2) ∷ word m (p + 3) ∷ word m (p + 4) ∷ []
four m p h = grind (arith, drop_more)

pub record_is : (m : List (List ℕ)) (p : ℕ) → p + 5 ≤ length m
    → record_at m p ≡ flat_map (λ x. x) (word m (p + 1) ∷ word m (p + 2) ∷ word m (p + 3) ∷ word m (p + 4) ∷ [])
record_is m p h = concat_is (take 4 (drop (p + 1) m)) ∙ ap (λ (l : List (List ℕ)). flat_map (λ x. x) l) (four m p h)

pub record_words : (m : List (List ℕ)) (p : ℕ) (ws : List (List ℕ)) (r : List ℕ) → p + 5 ≤ length m
    → ws ≡ word m (p + 1) ∷ word m (p + 2) ∷ word m (p + 3) ∷ word m (p + 4) ∷ [] → r ≡ flat_map (λ x. x) ws → r ≡ record_at m p
record_words m p ws r h e f = f ∙ ap (λ (l : List (List ℕ)). flat_map (λ x. x) l) e ∙ sym (record_is m p h)

-- a conjunction, grouped
and_three : (x a b c : Bool) → (x && (a && b && c)) ≡ (x && a && b && c)
and_three true a b c = refl
and_three false a b c = refl

and_six : (x a b c d e f : Bool) → (x && (a && b && c && d && e && f)) ≡ (x && a && b && c && d && e && f)
and_six true a b c d e f = refl
and_six false a b c d e f = refl

-- the test of a record is that of its three parts and of its number of words
pub record_parts : (r : List ℕ) (w : ℕ) → (has_valid_name r && has_valid_lengths r && has_valid_access r && w == words_of_lengths (be2 r 20) (be2 r 22) (slice_index r 17) (slice_index r 18)) ≡ is_record r w
record_parts r w = grind (arith, and_three, and_six)

four_left : (r : List ℕ) → length r ≡ 32 → take 4 (drop 28 r) ≡ drop 28 r
four_left r h = let few : length (drop 28 r) ≤ 4 = omega (arith, length-drop 28 r) in take_all 4 (drop 28 r) few

-- the last part of the test, if the others hold
pub allowed_end : (r : List ℕ) (s d : ℕ) (b : Bool) → length r ≡ 32 → s ≡ be2 r 24 → d ≡ be2 r 26 → (s ≤ 256) × (d ≤ 15)
    → b ≡ bytes_eq (take 4 (drop 28 r)) (zeros (length (take 4 (drop 28 r)))) → b ≡ has_valid_access r
allowed_end r s d b size session deny within zero =
    let first : nat_le (be2 r 24) 256 ≡ true = subst (λ (n : ℕ). nat_le n 256 ≡ true) session (le-leb s 256 within.0) in
    let second : nat_le (be2 r 26) 15 ≡ true = subst (λ (n : ℕ). nat_le n 15 ≡ true) deny (le-leb d 15 within.1) in
    let left : length (drop 28 r) ≡ 4 = omega (arith, length-drop 28 r) in
    zero
    ∙ ap (λ (l : List ℕ). bytes_eq l (zeros (length l))) (four_left r size)
    ∙ ap (λ (n : ℕ). bytes_eq (drop 28 r) (zeros n)) left
    ∙ sym (ap (λ (t : Bool). t && nat_le (be2 r 26) 15 && bytes_eq (drop 28 r) (zeros 4)) first ∙ ap (λ (t : Bool). t && bytes_eq (drop 28 r) (zeros 4)) second)
