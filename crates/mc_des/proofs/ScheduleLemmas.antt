-- The key schedule on words.
use Rattle.std.proofs.Common.{◌≡◌, ◌⊎◌, inl, inr, ℕ, suc, ◌+◌, ◌-◌, ◌*◌, ◌/◌, ◌%◌, ◌^◌, ◌<◌, ◌≤◌, ◌==◌, ◌||◌, true, List, [], ◌∷◌, ◌++◌, length, get_or, set, take, drop, map, refl, sym, ap, ◌∙◌, arith, add-one, drop-cons, append_assoc, subst}
use Rattle.std.specs.Prelude.{bit_or, bit_and, slice_index}
use Rattle.std.specs.Int.{w64, to_be_bytes}
use Rattle.std.proofs.Math.Seq.{take-suc-set}
use Rattle.std.proofs.lemmas.Nat.{and_mask}
use Rattle.std.proofs.lemmas.Bool.{eqb-true, or_cases}
use Rattle.std.proofs.lemmas.List.{take_at, drop_at, drop_all, take_all, map-append, append-nil}
use Rattle.model_machine.proofs.ModesLemmas.{all_below, below_at}
use Rattle.model_machine.specs.Des.{bits, bits_of, pick, turn, choice1, choice2, shifts, schedule, round_keys}
use Rattle.mc_des.specs.Words.{key_bits}
use Rattle.mc_des.specs.declared.keys.TheConstants.{SHIFTS}
use Rattle.mc_des.proofs.BitsLemmas.{bits_cat, length_bits}
use Rattle.mc_des.proofs.BlockLemmas.{bits_mod, bits_of_bytes}
use Rattle.mc_des.proofs.CipherFunction.{or_parts}

-- ---- the shifts

pub shifts_at : (i : ℕ) → i < 16 → get_or SHIFTS i 0 ≡ slice_index shifts i
unfolding shifts
shifts_at i h = refl

size_test : all_below (λ i. (get_or SHIFTS i 0 == 1) || (get_or SHIFTS i 0 == 2)) 16 ≡ true
unfolding all_below
size_test = refl

pub shift_size : (i : ℕ) → i < 16 → (get_or SHIFTS i 0 ≡ 1) ⊎ (get_or SHIFTS i 0 ≡ 2)
shift_size i h =
    elim (or_cases _ _ (below_at (λ i. (get_or SHIFTS i 0 == 1) || (get_or SHIFTS i 0 == 2)) 16 size_test i h)) [
      | inl one ↦ inl (eqb-true _ _ one)
      | inr two ↦ inr (eqb-true _ _ two)
    ]

-- ---- a rotated half

turn_open : (k : ℕ) (l : List ℕ) → turn k l ≡ drop k l ++ take k l
unfolding turn
turn_open k l = refl

turn_parts : (xs ys : List ℕ) (s : ℕ) → length xs ≡ s → turn s (xs ++ ys) ≡ ys ++ xs
turn_parts xs ys s h =
    turn_open s (xs ++ ys) ∙ ap (λ (l : List ℕ). l ++ take s (xs ++ ys)) (drop_at xs ys s h) ∙ ap (λ (l : List ℕ). ys ++ l) (take_at xs ys s h)

turned_bits : (s t x half : ℕ) → x / 2 ^ s ≡ half % 2 ^ t → x % 2 ^ s ≡ half / 2 ^ t → bits (t + s) x ≡ turn s (bits (s + t) half)
turned_bits s t x half high low =
    bits_cat t s x ∙ ap (λ (k : ℕ). bits t k ++ bits s x) high ∙ ap (λ (l : List ℕ). l ++ bits s x) (bits_mod t t half (omega arith))
    ∙ ap (λ (l : List ℕ). bits t half ++ l) (sym (bits_mod s s x (omega arith)) ∙ ap (bits s) low)
    ∙ sym (ap (turn s) (bits_cat s t half) ∙ turn_parts (bits s (half / 2 ^ t)) (bits t half) s (length_bits s (half / 2 ^ t)))

record HalfTurned (s half x : ℕ) : Type 0 where
  pub low : x < 2 ^ 28
  pub value : bits 28 x ≡ turn s (bits 28 half)

by_one : (half : ℕ) → half < 2 ^ 28 → HalfTurned 1 half (bit_or (bit_and (half * 2 ^ 1 % 2 ^ 32) (2 ^ 28 - 1)) (half / 2 ^ (28 - 1)))
by_one half h =
    let x : ℕ = (half % 2 ^ 27) * 2 ^ 1 + half / 2 ^ 27 in
    let front : half * 2 ^ 1 % 2 ^ 32 % 2 ^ 28 ≡ (half % 2 ^ 27) * 2 ^ 1 = omega arith in
    let is : bit_or (bit_and (half * 2 ^ 1 % 2 ^ 32) (2 ^ 28 - 1)) (half / 2 ^ 27) ≡ x =
    ap (λ (k : ℕ). bit_or k (half / 2 ^ 27)) (and_mask (half * 2 ^ 1 % 2 ^ 32) 28 ∙ front) ∙ or_parts 1 (half % 2 ^ 27) (half / 2 ^ 27) (omega arith) in
    record {
      low = rw is (omega arith);
      value = ap (bits 28) is ∙ turned_bits 1 27 x half (omega arith) (omega arith);
    }

by_two : (half : ℕ) → half < 2 ^ 28 → HalfTurned 2 half (bit_or (bit_and (half * 2 ^ 2 % 2 ^ 32) (2 ^ 28 - 1)) (half / 2 ^ (28 - 2)))
by_two half h =
    let x : ℕ = (half % 2 ^ 26) * 2 ^ 2 + half / 2 ^ 26 in
    let front : half * 2 ^ 2 % 2 ^ 32 % 2 ^ 28 ≡ (half % 2 ^ 26) * 2 ^ 2 = omega arith in
    let is : bit_or (bit_and (half * 2 ^ 2 % 2 ^ 32) (2 ^ 28 - 1)) (half / 2 ^ 26) ≡ x =
    ap (λ (k : ℕ). bit_or k (half / 2 ^ 26)) (and_mask (half * 2 ^ 2 % 2 ^ 32) 28 ∙ front) ∙ or_parts 2 (half % 2 ^ 26) (half / 2 ^ 26) (omega arith) in
    record {
      low = rw is (omega arith);
      value = ap (bits 28) is ∙ turned_bits 2 26 x half (omega arith) (omega arith);
    }

turned : (half by : ℕ) → half < 2 ^ 28 → (by ≡ 1) ⊎ (by ≡ 2) → HalfTurned by half (bit_or (bit_and (half * 2 ^ by % 2 ^ 32) (2 ^ 28 - 1)) (half / 2 ^ (28 - by)))
turned half by h size =
    elim size [
      | inl one ↦ subst (λ (k : ℕ). HalfTurned k half (bit_or (bit_and (half * 2 ^ k % 2 ^ 32) (2 ^ 28 - 1)) (half / 2 ^ (28 - k)))) (sym one) (by_one half h)
      | inr two ↦ subst (λ (k : ℕ). HalfTurned k half (bit_or (bit_and (half * 2 ^ k % 2 ^ 32) (2 ^ 28 - 1)) (half / 2 ^ (28 - k)))) (sym two) (by_two half h)
    ]

pub turned_low : (half by : ℕ) → half < 2 ^ 28 → (by ≡ 1) ⊎ (by ≡ 2) → bit_or (bit_and (half * 2 ^ by % 2 ^ 32) (2 ^ 28 - 1)) (half / 2 ^ (28 - by)) < 2 ^ 28
turned_low half by h size = (turned half by h size).low

pub turned_value : (half by : ℕ) → half < 2 ^ 28 → (by ≡ 1) ⊎ (by ≡ 2) → bits 28 (bit_or (bit_and (half * 2 ^ by % 2 ^ 32) (2 ^ 28 - 1)) (half / 2 ^ (28 - by))) ≡ turn by (bits 28 half)
turned_value half by h size = (turned half by h size).value

-- ---- the schedule

schedule_cons : (s : ℕ) (ss c d : List ℕ) → schedule (s ∷ ss) c d ≡ pick choice2 (turn s c ++ turn s d) ∷ schedule ss (turn s c) (turn s d)
unfolding schedule
schedule_cons s ss c d = refl

schedule_none : (c d : List ℕ) → schedule [] c d ≡ []
unfolding schedule
schedule_none c d = refl

round_keys_open : (key : List ℕ) → round_keys key ≡ schedule shifts (take 28 (pick choice1 (bits_of key))) (drop 28 (pick choice1 (bits_of key)))
unfolding round_keys
round_keys_open key = refl

length_shifts : length shifts ≡ 16
unfolding shifts
length_shifts = refl

joined : (high low : ℕ) → high < 2 ^ 28 → low < 2 ^ 28 → bits 56 (bit_or (high * 2 ^ 28 % 2 ^ 64) low) ≡ bits 28 high ++ bits 28 low
joined high low h l =
    let v : ℕ = high * 2 ^ 28 + low in
    let fits : high * 2 ^ 28 % 2 ^ 64 ≡ high * 2 ^ 28 = omega arith in
    let top : v / 2 ^ 28 ≡ high = omega arith in
    let bottom : v % 2 ^ 28 ≡ low = omega arith in
    ap (λ (k : ℕ). bits 56 (bit_or k low)) fits ∙ ap (bits 56) (or_parts 28 high low l) ∙ bits_cat 28 28 v
    ∙ ap (λ (k : ℕ). bits 28 k ++ bits 28 v) top ∙ ap (λ (x : List ℕ). bits 28 high ++ x) (sym (bits_mod 28 28 v (omega arith)) ∙ ap (bits 28) bottom)

pub schedule_init : (key start left right : ℕ) (none : List ℕ) → bits 56 start ≡ pick choice1 (bits 64 key) → left ≡ bit_and (start / 2 ^ 28) (2 ^ 28 - 1) → right ≡ bit_and start (2 ^ 28 - 1)
    → schedule shifts (bits 28 left) (bits 28 right) ≡ round_keys (to_be_bytes w64 key)
schedule_init key start left right none e el er =
    let cut : bits 56 start ≡ bits 28 (start / 2 ^ 28) ++ bits 28 start = bits_cat 28 28 start in
    let size : length (bits 28 (start / 2 ^ 28)) ≡ 28 = length_bits 28 (start / 2 ^ 28) in
    let whole : bits 56 start ≡ pick choice1 (bits_of (to_be_bytes w64 key)) = e ∙ ap (pick choice1) (sym (bits_of_bytes key)) in
    let l : bits 28 left ≡ take 28 (pick choice1 (bits_of (to_be_bytes w64 key))) =
    ap (bits 28) (el ∙ and_mask (start / 2 ^ 28) 28) ∙ bits_mod 28 28 (start / 2 ^ 28) (omega arith)
    ∙ sym (ap (take 28) cut ∙ take_at (bits 28 (start / 2 ^ 28)) (bits 28 start) 28 size) ∙ ap (take 28) whole in
    let r : bits 28 right ≡ drop 28 (pick choice1 (bits_of (to_be_bytes w64 key))) =
    ap (bits 28) (er ∙ and_mask start 28) ∙ bits_mod 28 28 start (omega arith)
    ∙ sym (ap (drop 28) cut ∙ drop_at (bits 28 (start / 2 ^ 28)) (bits 28 start) 28 size) ∙ ap (drop 28) whole in
    ap (λ (x : List ℕ). schedule shifts x (bits 28 right)) l ∙ ap (schedule shifts (take 28 (pick choice1 (bits_of (to_be_bytes w64 key))))) r ∙ sym (round_keys_open (to_be_bytes w64 key))

pub half_low : (x : ℕ) → bit_and x (2 ^ 28 - 1) < 2 ^ 28
half_low x = rw (and_mask x 28) (omega arith)

pub schedule_step : (i by left right next_left next_right word key : ℕ) (keys : List ℕ) (e : List (List ℕ)) → i < 16 → length keys ≡ 16
    → by ≡ slice_index shifts i
    → map key_bits (take i keys) ++ schedule (drop i shifts) (bits 28 left) (bits 28 right) ≡ e
    → next_left < 2 ^ 28 → bits 28 next_left ≡ turn by (bits 28 left) → next_right < 2 ^ 28 → bits 28 next_right ≡ turn by (bits 28 right)
    → word ≡ bit_or (next_left * 2 ^ 28 % 2 ^ 64) next_right → key_bits key ≡ pick choice2 (bits 56 word)
    → map key_bits (take (i + 1) (set keys i key)) ++ schedule (drop (i + 1) shifts) (bits 28 next_left) (bits 28 next_right) ≡ e
schedule_step i by left right next_left next_right word key keys e h size eb same hl el hr er ew ek =
    let count : length shifts ≡ 16 = length_shifts in
    let s : ℕ = slice_index shifts i in
    let l : bits 28 next_left ≡ turn s (bits 28 left) = el ∙ ap (λ (k : ℕ). turn k (bits 28 left)) eb in
    let r : bits 28 next_right ≡ turn s (bits 28 right) = er ∙ ap (λ (k : ℕ). turn k (bits 28 right)) eb in
    let this : key_bits key ≡ pick choice2 (turn s (bits 28 left) ++ turn s (bits 28 right)) =
    ek ∙ ap (pick choice2) (ap (bits 56) ew ∙ joined next_left next_right hl hr ∙ ap (λ (x : List ℕ). x ++ bits 28 next_right) l ∙ ap (λ (x : List ℕ). turn s (bits 28 left) ++ x) r) in
    let rest : List (List ℕ) = schedule (drop (suc i) shifts) (turn s (bits 28 left)) (turn s (bits 28 right)) in
    let old : List (List ℕ) = map key_bits (take i keys) in
    let opened : old ++ (key_bits key ∷ rest) ≡ e =
    ap (λ (x : List ℕ). old ++ (x ∷ rest)) this
    ∙ ap (λ (x : List (List ℕ)). old ++ x) (sym (ap (λ (x : List ℕ). schedule x (bits 28 left) (bits 28 right)) (drop-cons shifts i 0 (omega arith)) ∙ schedule_cons s (drop (suc i) shifts) (bits 28 left) (bits 28 right)))
    ∙ same in
    let grown : map key_bits (take (suc i) (set keys i key)) ≡ old ++ (key_bits key ∷ []) =
    ap (map key_bits) (take-suc-set keys i key (omega arith)) ∙ map-append key_bits (take i keys) (key ∷ []) in
    ap (λ (k : ℕ). map key_bits (take k (set keys i key)) ++ schedule (drop k shifts) (bits 28 next_left) (bits 28 next_right)) (add-one i)
    ∙ ap (λ (x : List (List ℕ)). x ++ schedule (drop (suc i) shifts) (bits 28 next_left) (bits 28 next_right)) grown
    ∙ append_assoc old (key_bits key ∷ []) (schedule (drop (suc i) shifts) (bits 28 next_left) (bits 28 next_right))
    ∙ ap (λ (x : List ℕ). old ++ (key_bits key ∷ schedule (drop (suc i) shifts) x (bits 28 next_right))) l
    ∙ ap (λ (x : List ℕ). old ++ (key_bits key ∷ schedule (drop (suc i) shifts) (turn s (bits 28 left)) x)) r
    ∙ opened

pub schedule_end : (i left right : ℕ) (keys : List ℕ) (e : List (List ℕ)) → 16 ≤ i → length keys ≡ 16
    → map key_bits (take i keys) ++ schedule (drop i shifts) (bits 28 left) (bits 28 right) ≡ e → map key_bits keys ≡ e
schedule_end i left right keys e h size same =
    let count : length shifts ≡ 16 = length_shifts in
    let old : List (List ℕ) = map key_bits (take i keys) in
    ap (map key_bits) (sym (take_all i keys (omega arith)))
    ∙ sym (append-nil old) ∙ ap (λ (x : List (List ℕ)). old ++ x) (sym (ap (λ (x : List ℕ). schedule x (bits 28 left) (bits 28 right)) (drop_all i shifts (omega arith)) ∙ schedule_none (bits 28 left) (bits 28 right)))
    ∙ same
