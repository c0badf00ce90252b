-- The digits of a byte in small letters, and the values of a set in their order.
use Rattle.std.proofs.Common.{◌≡◌, ◌∙◌, ℕ, suc, ◌-◌, ◌/◌, ◌%◌, ◌<◌, ◌≤◌, Bool, true, false, cond, List, [], ◌∷◌, get_or, drop, ap, sym, subst, refl, inl, inr, arith, drop-cons}
use Rattle.std.specs.Prelude.{not, ◌&&◌, ◌==◌, map, filter}
use Rattle.std.proofs.lemmas.Bool.{and_parts, or_cases, eqb-true}
use Rattle.prove_facts.specs.model_text.specs.Text.{is_blank}
use Rattle.prove_facts.specs.model_text.specs.Listing.{hex_digit, hex_text}
use Rattle.lab_app_rules.specs.model_events.specs.Patterns.{without_blanks}
use Rattle.lab_app_rules.specs.model_events.specs.Matching.{small, plain}
use Rattle.prove_facts.specs.model_prove.specs.Sets.{Set, is_in, numbers_from}
use Rattle.prove_facts.specs.model_prove.specs.Texts.{Opens, hex_digits, after_text, all_after, with_opens, after_bytes, after_each, after_character}
use Rattle.prove_facts.specs.model_prove.proofs.SetLemmas.{is_between}
use Rattle.prove_facts.specs.Sets.{has_bit, values_of}
use Rattle.prove_patterns.specs.Ways.{digit_sign, byte_digits, values_from}

-- ---- digits

-- whether a digit is the sign at its place, and what the capital digit is in small letters, and no blank
abbrev is_sign : ℕ → Bool
is_sign d = (get_or hex_digits d 0 == digit_sign d) && ((small (hex_digit d) == digit_sign d) && not (is_blank (hex_digit d)))

abbrev are_signs : List ℕ → Bool
are_signs [] = true
are_signs (n ∷ ns) = is_sign n && are_signs ns

sign_among : (n : ℕ) (ns : List ℕ) → is_in n ns ≡ true → are_signs ns ≡ true → is_sign n ≡ true
sign_among n [] h e = absurd (cc h)
sign_among n (m ∷ ns) h e =
    let p = and_parts (is_sign m) (are_signs ns) e in
    elim (or_cases (m == n) (is_in n ns) h) [
      | inl same ↦ subst (λ (z : ℕ). is_sign z ≡ true) (eqb-true m n same) p.0
      | inr more ↦ sign_among n ns more p.1
    ]

sign_is : (n : ℕ) → n < 16 → is_sign n ≡ true
sign_is n h = sign_among n (numbers_from 0 16) (is_between n 0 16 (omega arith) h) refl

-- the digits from one on
pub digits_turn : (d : ℕ) → d < 16 → drop d hex_digits ≡ digit_sign d ∷ drop (suc d) hex_digits
digits_turn d h =
    let p = and_parts (get_or hex_digits d 0 == digit_sign d) ((small (hex_digit d) == digit_sign d) && not (is_blank (hex_digit d))) (sign_is d h) in
    drop-cons hex_digits d 0 h ∙ ap (λ (c : ℕ). c ∷ drop (suc d) hex_digits) (eqb-true (get_or hex_digits d 0) (digit_sign d) p.0)

-- one place back from the last digit
pub digits_step : (e : ℕ) (o : Opens) (old new : List Opens) → 0 < e → e ≤ 16 → old ≡ after_each (drop e hex_digits) o
    → new ≡ with_opens (map (after_character (digit_sign (e - 1))) o) old → new ≡ after_each (drop (e - 1) hex_digits) o
digits_step e o old new some within i n =
    let back : e ≡ suc (e - 1) = omega arith in
    let j : old ≡ after_each (drop (suc (e - 1)) hex_digits) o = subst (λ (k : ℕ). old ≡ after_each (drop k hex_digits) o) back i in
    n ∙ ap (λ (os : List Opens). with_opens (map (after_character (digit_sign (e - 1))) o) os) j
    ∙ sym (ap (λ (cs : List ℕ). after_each cs o) (digits_turn (e - 1) (omega arith)))

plain_by : (b : Bool) (c : ℕ) (t u : List ℕ) → map small t ≡ u → map small (cond (not b) (c ∷ t) t) ≡ cond (not b) (small c ∷ u) u
plain_by true c t u e = e
plain_by false c t u e = ap (λ (x : List ℕ). small c ∷ x) e

plain_first : (c : ℕ) (t : List ℕ) → plain (c ∷ t) ≡ cond (not (is_blank c)) (small c ∷ plain t) (plain t)
plain_first c t = plain_by (is_blank c) c (without_blanks t) (plain t) refl

plain_digit : (n : ℕ) (t : List ℕ) → n < 16 → plain (hex_digit n ∷ t) ≡ digit_sign n ∷ plain t
plain_digit n t h =
    let p = and_parts (get_or hex_digits n 0 == digit_sign n) ((small (hex_digit n) == digit_sign n) && not (is_blank (hex_digit n))) (sign_is n h) in
    let q = and_parts (small (hex_digit n) == digit_sign n) (not (is_blank (hex_digit n))) p.1 in
    plain_first (hex_digit n) t ∙ ap (λ (b : Bool). cond b (small (hex_digit n) ∷ plain t) (plain t)) q.1
    ∙ ap (λ (c : ℕ). c ∷ plain t) (eqb-true (small (hex_digit n)) (digit_sign n) q.0)

-- the two digits of a byte
two_digits : (b : ℕ) → b < 256 → plain (hex_text (b ∷ [])) ≡ byte_digits b
two_digits b h =
    let high : b / 16 % 16 ≡ b / 16 = omega arith in
    plain_digit (b / 16 % 16) (hex_digit (b % 16) ∷ []) (omega arith)
    ∙ ap (λ (t : List ℕ). digit_sign (b / 16 % 16) ∷ t) (plain_digit (b % 16) [] (omega arith))
    ∙ ap (λ (d : ℕ). digit_sign d ∷ digit_sign (b % 16) ∷ []) high

-- what is left after them
pub after_two : (b : ℕ) (o : Opens) → b < 256 → all_after (hex_text (b ∷ [])) o ≡ map (after_text (byte_digits b)) o
after_two b o h = ap (λ (t : List ℕ). map (after_text t) o) (two_digits b h)

-- ---- values

numbers_turn : (v : ℕ) → v < 256 → numbers_from v (256 - v) ≡ v ∷ numbers_from (suc v) (256 - suc v)
numbers_turn v h =
    let e : 256 - v ≡ suc (256 - suc v) = omega arith in
    ap (λ (n : ℕ). numbers_from v n) e

pub values_with : (ws : List ℕ) (v : ℕ) → v < 256 → has_bit ws v ≡ true → values_from ws v ≡ v ∷ values_from ws (suc v)
unfolding values_from
values_with ws v h b =
    let rest = filter (has_bit ws) (numbers_from (suc v) (256 - suc v)) in
    ap (λ (ns : List ℕ). filter (has_bit ws) ns) (numbers_turn v h) ∙ ap (λ (c : Bool). cond c (v ∷ rest) rest) b

pub values_without : (ws : List ℕ) (v : ℕ) → v < 256 → has_bit ws v ≡ false → values_from ws v ≡ values_from ws (suc v)
unfolding values_from
values_without ws v h b =
    let rest = filter (has_bit ws) (numbers_from (suc v) (256 - suc v)) in
    ap (λ (ns : List ℕ). filter (has_bit ws) ns) (numbers_turn v h) ∙ ap (λ (c : Bool). cond c (v ∷ rest) rest) b

pub values_none : (ws : List ℕ) → values_from ws 256 ≡ []
unfolding values_from
values_none ws = refl

pub values_all : (ws : List ℕ) → values_from ws 0 ≡ values_of ws
unfolding values_from values_of
values_all ws = refl

-- one place back from the last value
pub bytes_with : (ws : List ℕ) (e : ℕ) (o : Opens) (old new : List Opens) → 0 < e → e ≤ 256 → has_bit ws (e - 1) ≡ true → old ≡ after_bytes (values_from ws e) o
    → new ≡ with_opens (all_after (hex_text ((e - 1) ∷ [])) o) old → new ≡ after_bytes (values_from ws (e - 1)) o
bytes_with ws e o old new some within b i n =
    let back : e ≡ suc (e - 1) = omega arith in
    let j : old ≡ after_bytes (values_from ws (suc (e - 1))) o = subst (λ (k : ℕ). old ≡ after_bytes (values_from ws k) o) back i in
    n ∙ ap (λ (os : List Opens). with_opens (all_after (hex_text ((e - 1) ∷ [])) o) os) j
    ∙ sym (ap (λ (s : Set). after_bytes s o) (values_with ws (e - 1) (omega arith) b))

pub bytes_without : (ws : List ℕ) (e : ℕ) (o : Opens) (old : List Opens) → 0 < e → e ≤ 256 → has_bit ws (e - 1) ≡ false → old ≡ after_bytes (values_from ws e) o
    → old ≡ after_bytes (values_from ws (e - 1)) o
bytes_without ws e o old some within b i =
    let back : e ≡ suc (e - 1) = omega arith in
    let j : old ≡ after_bytes (values_from ws (suc (e - 1))) o = subst (λ (k : ℕ). old ≡ after_bytes (values_from ws k) o) back i in
    j ∙ sym (ap (λ (s : Set). after_bytes s o) (values_without ws (e - 1) (omega arith) b))
