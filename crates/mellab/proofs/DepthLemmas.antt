-- Numbers of a few digits.
use Rattle.std.proofs.Common.{◌≡◌, ◌≤◌, ◌+◌, ◌*◌, ◌-◌, ℕ, zero, suc, List, [], ◌∷◌, Bool, true, false, cond, length, map, Option, Some, None, refl, ap, subst, sym, arith}
use Rattle.std.specs.Prelude.{◌&&◌, not, option_map, IfSome}
use Rattle.mc_text.specs.model_text.specs.Text.{decimal_number, digits_onto, every, is_digit, is_empty}
use Rattle.mc_words.specs.model_device.proofs.BoolLemmas.{and_first, and_second}
use Rattle.mc_text.specs.Reading.{capped_number}

-- the greatest number that n and k more digits spell
abbrev most : ℕ → ℕ → ℕ
most zero n = n
most (suc k) n = most k (n * 10 + 9)

most_grows : (k a b : ℕ) → a ≤ b → most k a ≤ most k b
most_grows zero a b h = h
most_grows (suc k) a b h = most_grows k (a * 10 + 9) (b * 10 + 9) (omega (arith, h))

at_least : (k n : ℕ) → n ≤ most k n
at_least zero n = omega arith
at_least (suc k) n = omega (arith, at_least k (n * 10 + 9))

most_longer : (k l n : ℕ) → k ≤ l → most k n ≤ most l n
most_longer zero l n h = at_least l n
most_longer (suc k) zero n h = omega (arith, h)
most_longer (suc k) (suc l) n h = most_longer k l (n * 10 + 9) (omega (arith, h))

digit_small : (c : ℕ) → is_digit c ≡ true → c - 48 ≤ 9
digit_small c h = grind (arith, h)

digits_most : (n : ℕ) (t : List ℕ) → every is_digit t ≡ true → digits_onto 10 n (map (λ c. c - 48) t) ≤ most (length t) n
digits_most n [] h = omega arith
digits_most n (c ∷ t) h =
    let small : c - 48 ≤ 9 = digit_small c (and_first (is_digit c) (every is_digit t) h) in
    omega (arith, digits_most (n * 10 + (c - 48)) t (and_second (is_digit c) (every is_digit t) h), most_grows (length t) (n * 10 + (c - 48)) (n * 10 + 9) (omega (arith, small)))

eight_digits : (t : List ℕ) → length t ≤ 8 → every is_digit t ≡ true → digits_onto 10 0 (map (λ c. c - 48) t) ≤ 99999999
eight_digits t few h = omega (arith, digits_most 0 t h, most_longer (length t) 8 0 few)

-- a number of at most eight digits
record Few (t : List ℕ) (o : Option ℕ) : Type 0 where
  value : option_map capped_number o ≡ o
  bound : IfSome o (λ n. n ≤ 99999999)

few_by : (b : Bool) (t : List ℕ) → (not (is_empty t) && every is_digit t) ≡ b → length t ≤ 8 → Few t (cond b (Some (digits_onto 10 0 (map (λ c. c - 48) t))) None)
few_by false t e few = record { value = refl; bound = grind arith }
few_by true t e few =
    let n : ℕ = digits_onto 10 0 (map (λ c. c - 48) t) in
    let small : n ≤ 99999999 = eight_digits t few (and_second (not (is_empty t)) (every is_digit t) e) in
    let same : capped_number n ≡ n = grind (arith, small) in
    record { value = ap Some same; bound = small }

few : (t : List ℕ) → length t ≤ 8 → Few t (decimal_number t)
few t h = few_by _ t refl h

pub few_value : (t : List ℕ) → length t ≤ 8 → option_map capped_number (decimal_number t) ≡ decimal_number t
few_value t h = (few t h).value

pub few_bound : (t : List ℕ) (o : Option ℕ) → o ≡ option_map capped_number (decimal_number t) → length t ≤ 8 → IfSome o (λ n. n ≤ 99999999)
few_bound t o e h = subst (λ (x : Option ℕ). IfSome x (λ n. n ≤ 99999999)) (sym e) (subst (λ (x : Option ℕ). IfSome x (λ n. n ≤ 99999999)) (sym (few t h).value) (few t h).bound)
