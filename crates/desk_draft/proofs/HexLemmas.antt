-- Hexadecimal digits, and the number of bytes that they spell.
use Rattle.std.proofs.Common.{◌≡◌, ◌≢◌, ℕ, suc, ◌+◌, ◌*◌, ◌/◌, ◌%◌, Bool, true, false, List, [], ◌∷◌, length, Option, Some, None, refl, sym, ap, subst, ◌∙◌, arith}
use Rattle.std.specs.Prelude.{option_map, option_and_then, ◌&&◌}
use Rattle.mc_text.specs.model_text.specs.Text.{every, hex_value, hex_values, before_values, hex_bytes, bytes_of_digits}
use Rattle.desk_draft.specs.Views.{is_hex, is_there}

values_by : (o : Option ℕ) (r : Option (List ℕ)) (b : Bool) (n : ℕ) → is_there o && b ≡ true → (b ≡ true → option_map length r ≡ Some n) → option_map length (before_values o r) ≡ Some (suc n)
values_by None r b n h f = absurd (cc h)
values_by (Some v) None b n h f = absurd (cc (f h))
values_by (Some v) (Some vs) b n h f = ap (option_map suc) (f h)

-- digits have a value each
values_of : (t : List ℕ) → every is_hex t ≡ true → option_map length (hex_values t) ≡ Some (length t)
values_of [] h = refl
values_of (c ∷ t) h = values_by (hex_value c) (hex_values t) (every is_hex t) (length t) h (λ e. values_of t e)

bad_by : (o : Option ℕ) (r : Option (List ℕ)) (b : Bool) → is_there o && b ≡ false → (b ≡ false → r ≡ None) → before_values o r ≡ None
bad_by None r b h f = refl
bad_by (Some v) r b h f = ap (before_values (Some v)) (f h)

-- another character has none
no_values : (t : List ℕ) → every is_hex t ≡ false → hex_values t ≡ None
no_values [] h = absurd (cc h)
no_values (c ∷ t) h = bad_by (hex_value c) (hex_values t) (every is_hex t) h (λ e. no_values t e)

paired_even : (vs : List ℕ) → length vs % 2 ≡ 0 → option_map length (bytes_of_digits vs) ≡ Some (length vs / 2)
paired_even [] h = refl
paired_even (a ∷ []) h = absurd (omega (arith, h))
paired_even (a ∷ b ∷ vs) h =
    let e : length (a ∷ b ∷ vs) / 2 ≡ suc (length vs / 2) = omega arith in
    one_more a b (bytes_of_digits vs) (length vs / 2) (paired_even vs (omega (arith, h))) ∙ ap Some (sym e)
  where
    one_more : (a b : ℕ) (o : Option (List ℕ)) (n : ℕ) → option_map length o ≡ Some n → option_map length (option_map (λ bs. (a * 16 + b) ∷ bs) o) ≡ Some (suc n)
    one_more a b None n h = absurd (cc h)
    one_more a b (Some bs) n h = ap (option_map suc) h

paired_odd : (vs : List ℕ) → length vs % 2 ≢ 0 → option_map length (bytes_of_digits vs) ≡ None
paired_odd [] h = absurd (h refl)
paired_odd (a ∷ []) h = refl
paired_odd (a ∷ b ∷ vs) h = none_more a b (bytes_of_digits vs) (paired_odd vs (λ e. h (omega (arith, e))))
  where
    none_more : (a b : ℕ) (o : Option (List ℕ)) → option_map length o ≡ None → option_map length (option_map (λ bs. (a * 16 + b) ∷ bs) o) ≡ None
    none_more a b None h = refl
    none_more a b (Some bs) h = absurd (cc h)

whole_by : (o : Option (List ℕ)) (n : ℕ) → option_map length o ≡ Some n → n % 2 ≡ 0 → option_map length (option_and_then bytes_of_digits o) ≡ Some (n / 2)
whole_by None n h e = absurd (cc h)
whole_by (Some vs) n h e =
    let i : length vs ≡ n = grind (arith, h) in
    subst (λ (k : ℕ). option_map length (bytes_of_digits vs) ≡ Some (k / 2)) i (paired_even vs (subst (λ (k : ℕ). k % 2 ≡ 0) (sym i) e))

odd_by : (o : Option (List ℕ)) (n : ℕ) → option_map length o ≡ Some n → n % 2 ≢ 0 → option_map length (option_and_then bytes_of_digits o) ≡ None
odd_by None n h e = absurd (cc h)
odd_by (Some vs) n h e =
    let i : length vs ≡ n = grind (arith, h) in
    paired_odd vs (λ f. e (subst (λ (k : ℕ). k % 2 ≡ 0) i f))

-- whole bytes, an odd number of digits, and what is no digit
pub count_whole : (t : List ℕ) → every is_hex t ≡ true → length t % 2 ≡ 0 → Some (length t / 2) ≡ option_map length (hex_bytes t)
count_whole t h e = sym (whole_by (hex_values t) (length t) (values_of t h) e)

pub count_odd : (t : List ℕ) → every is_hex t ≡ true → length t % 2 ≢ 0 → None ≡ option_map length (hex_bytes t)
count_odd t h e = sym (odd_by (hex_values t) (length t) (values_of t h) e)

pub count_bad : (t : List ℕ) → every is_hex t ≡ false → None ≡ option_map length (hex_bytes t)
count_bad t h = rw (no_values t h) refl
