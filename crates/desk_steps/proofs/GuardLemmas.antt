-- Words that wait are kept where they belong.
use Rattle.std.proofs.Common.{◌≡◌, ℕ, zero, suc, ◌+◌, ◌-◌, ◌<◌, ◌≤◌, Bool, true, false, cond, List, [], ◌∷◌, length, Option, Some, None, refl, sym, ap, ◌∙◌, arith}
use Rattle.std.specs.Prelude.{◌==◌, get_or, insert, nat_le, nat_lt, not, option_map, position}
use Rattle.std.specs.List.{position_or_len}
use Rattle.std.proofs.lemmas.Bool.Decides.{nat_tests}
use Rattle.mc_words.specs.model_device.specs.Pieces.{with_number}
use Rattle.law_steps.specs.Writes.{with_wait, with_waits}
use Rattle.desk_steps.specs.Guards.{placed}

placed_later : (n k : ℕ) (ws : List ℕ) (o : Option ℕ) → placed n (k ∷ ws) (option_map suc o) ≡ k ∷ placed n ws o
placed_later n k ws None = refl
placed_later n k ws (Some i) = by (get_or ws i 0 == n)
  where
    by : (b : Bool) → cond b (k ∷ ws) (k ∷ insert ws i n) ≡ k ∷ cond b ws (insert ws i n)
    by true = refl
    by false = refl

number_here : (n k : ℕ) (ws : List ℕ) (b : Bool) → nat_le n k ≡ b → with_number n ws ≡ placed n ws (position (λ w. nat_le n w) ws) → with_number n (k ∷ ws) ≡ placed n (k ∷ ws) (cond b (Some 0) (option_map suc (position (λ w. nat_le n w) ws)))
number_here n k ws true e rest = grind (arith, nat_tests, e)
number_here n k ws false e rest =
    let later : with_number n (k ∷ ws) ≡ k ∷ with_number n ws = grind (arith, nat_tests, e) in
    later ∙ ap (λ (t : List ℕ). k ∷ t) rest ∙ sym (placed_later n k ws (position (λ w. nat_le n w) ws))

less_next : (q m : ℕ) → nat_lt (1 + q) (suc m) ≡ nat_lt q m
less_next q m = grind (arith, nat_tests)

next_place : (c : Bool) (q : ℕ) → cond c (Some (1 + q)) None ≡ option_map suc (cond c (Some q) None)
next_place true q = let same : 1 + q ≡ suc q = omega arith in ap (λ (i : ℕ). Some i) same
next_place false q = refl

-- the first of some numbers that is not below one
position_next : (n k : ℕ) (ws : List ℕ) → position (λ w. nat_le n w) (k ∷ ws) ≡ cond (nat_le n k) (Some 0) (option_map suc (position (λ w. nat_le n w) ws))
position_next n k ws = by (nat_le n k)
  where
    by : (b : Bool) → (let q = position_or_len (λ w. nat_le n w) ws in let r = cond (not b) (1 + q) 0 in cond (nat_lt r (suc (length ws))) (Some r) None ≡ cond b (Some 0) (option_map suc (cond (nat_lt q (length ws)) (Some q) None)))
    by true = let first : nat_lt 0 (suc (length ws)) ≡ true = grind (arith, nat_tests) in ap (λ (c : Bool). cond c (Some 0) None) first
    by false =
        let q : ℕ = position_or_len (λ w. nat_le n w) ws in
        let same : nat_lt (1 + q) (suc (length ws)) ≡ nat_lt q (length ws) = less_next q (length ws) in
        ap (λ (c : Bool). cond c (Some (1 + q)) None) same ∙ next_place (nat_lt q (length ws)) q

-- where a number goes among others
pub number_is : (n : ℕ) (ws : List ℕ) → with_number n ws ≡ placed n ws (position (λ w. nat_le n w) ws)
number_is n [] = refl
number_is n (k ∷ ws) = number_here n k ws (nat_le n k) refl (number_is n ws) ∙ ap (λ (o : Option ℕ). placed n (k ∷ ws) o) (sym (position_next n k ws))

-- while there is room
pub number_placed : (n : ℕ) (ws : List ℕ) (o : Option ℕ) → o ≡ position (λ w. nat_le n w) ws → length ws < 128 → placed n ws o ≡ with_wait n ws
number_placed n ws o is room =
    let there : nat_lt (length ws) 128 ≡ true = grind (arith, nat_tests, room) in
    ap (λ (p : Option ℕ). placed n ws p) is ∙ sym (number_is n ws) ∙ sym (ap (λ (b : Bool). cond b (with_number n ws) ws) there)

-- words that are left, kept after one more
pub waits_next : (n end : ℕ) (ws vs : List ℕ) → n < end → vs ≡ with_wait n ws → with_waits (n + 1) (end - (n + 1)) vs ≡ with_waits n (end - n) ws
waits_next n end ws vs less is =
    let count : end - n ≡ suc (end - (n + 1)) = omega (arith, less) in
    ap (λ (us : List ℕ). with_waits (n + 1) (end - (n + 1)) us) is ∙ sym (ap (λ (k : ℕ). with_waits n k ws) count)

-- none is left
pub waits_end : (n end : ℕ) (ws all : List ℕ) → end ≤ n → with_waits n (end - n) ws ≡ all → ws ≡ all
waits_end n end ws all most is =
    let count : end - n ≡ zero = omega (arith, most) in
    sym (ap (λ (k : ℕ). with_waits n k ws) count) ∙ is

-- from the first on
pub waits_begin : (first count : ℕ) (ws : List ℕ) → with_waits first (first + count - first) ws ≡ with_waits first count ws
waits_begin first count ws = let same : first + count - first ≡ count = omega arith in ap (λ (k : ℕ). with_waits first k ws) same
