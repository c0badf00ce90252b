-- What is left of several patterns after bytes in hexadecimal: after a header, and after any bytes that follow it.
use Rattle.std.proofs.Common.{◌≡◌, inl, inr, ℕ, zero, suc, ◌/◌, ◌%◌, ◌<◌, ◌≤◌, Bool, true, false, cond, List, [], ◌∷◌, ◌++◌, length, refl, sym, ap, subst, ◌∙◌, arith}
use Rattle.std.specs.Prelude.{not, ◌&&◌, ◌==◌, map, bytes_eq}
use Rattle.std.proofs.lemmas.Bool.{and_parts, or_cases, eqb-true}
use Rattle.law_prove.specs.model_device.proofs.MapLemmas.{same_name}
use Rattle.law_prove.specs.model_text.specs.Text.{is_blank}
use Rattle.law_prove.specs.model_text.specs.Listing.{hex_digit, hex_text}
use Rattle.law_prove.specs.model_rules.specs.model_events.specs.Patterns.{without_blanks}
use Rattle.law_prove.specs.model_rules.specs.model_events.specs.Matching.{small, plain, fits}
use Rattle.law_prove.specs.model_prove.specs.Sets.{is_in, numbers_from}
use Rattle.law_prove.specs.model_prove.specs.Keys.{same_lists}
use Rattle.law_prove.specs.model_prove.specs.Texts.{Open, Opens, opened, after_character, after_text, all_after, same_opens, is_among, with_opens, both_opens, hex_digits, after_each, after_digit, any_unless, after_any, matches_of}
use Rattle.law_prove.specs.model_prove.specs.Laws.{Among}
use Rattle.law_prove.specs.model_prove.proofs.SetLemmas.{is_between}
use Rattle.law_prove.proofs.Keys.{lists_are}
use Rattle.law_prove_closed.proofs.Ways.{left_is_fit}

-- ---- plain texts

plain_by : (b : Bool) (c : ℕ) (t u : List ℕ) → map small t ≡ u → map small (cond (not b) (c ∷ t) t) ≡ cond (not b) (small c ∷ u) u
plain_by true c t u e = e
plain_by false c t u e = ap (λ (x : List ℕ). small c ∷ x) e

plain_first : (c : ℕ) (t : List ℕ) → plain (c ∷ t) ≡ cond (not (is_blank c)) (small c ∷ plain t) (plain t)
plain_first c t = plain_by (is_blank c) c (without_blanks t) (plain t) refl

moved_in : (b : Bool) (c : ℕ) (t u : List ℕ) → cond (not b) (c ∷ (t ++ u)) (t ++ u) ≡ cond (not b) (c ∷ t) t ++ u
moved_in true c t u = refl
moved_in false c t u = refl

plain_append : (t u : List ℕ) → plain (t ++ u) ≡ plain t ++ plain u
plain_append [] u = refl
plain_append (c ∷ t) u =
    plain_first c (t ++ u)
    ∙ (ap (λ (x : List ℕ). cond (not (is_blank c)) (small c ∷ x) x) (plain_append t u)
    ∙ (moved_in (is_blank c) (small c) (plain t) (plain u) ∙ ap (λ (x : List ℕ). x ++ plain u) (sym (plain_first c t))))

-- ---- texts one after the other

text_append : (t u : List ℕ) (ps : Open) → after_text (t ++ u) ps ≡ after_text u (after_text t ps)
text_append [] u ps = refl
text_append (c ∷ t) u ps = text_append t u (after_character c ps)

texts_append : (t u : List ℕ) (os : Opens) → map (after_text (t ++ u)) os ≡ map (after_text u) (map (after_text t) os)
texts_append t u [] = refl
texts_append t u (o ∷ os) =
    ap (λ (x : Open). x ∷ map (after_text (t ++ u)) os) (text_append t u o) ∙ ap (λ (xs : Opens). after_text u (after_text t o) ∷ xs) (texts_append t u os)

-- what is left after two texts is left after the second of what the first left
pub all_append : (t u : List ℕ) (os : Opens) → all_after (t ++ u) os ≡ all_after u (all_after t os)
all_append t u os = ap (λ (x : List ℕ). map (after_text x) os) (plain_append t u) ∙ texts_append (plain t) (plain u) os

-- an empty text leaves what was open
pub all_none : (os : Opens) → all_after [] os ≡ os
all_none [] = refl
all_none (o ∷ os) = ap (λ (xs : Opens). o ∷ xs) (all_none os)

-- the patterns that match a whole text are those that fit it
pub matches_are : (t : List ℕ) (ps : List (List ℕ)) → matches_of (all_after t (map opened ps)) ≡ map (λ p. fits p t) ps
matches_are t [] = refl
matches_are t (p ∷ ps) = ap (λ (b : Bool). b ∷ matches_of (all_after t (map opened ps))) (left_is_fit p t) ∙ ap (λ (bs : List Bool). fits p t ∷ bs) (matches_are t ps)

-- ---- lists of what is left

-- what the test finds to leave as much open is equal
pub opens_are : (o p : Opens) → same_opens o p ≡ true → o ≡ p
opens_are o p e =
    lists_are (same_lists bytes_eq) (λ x y f. lists_are bytes_eq same_name x y f) o p e

there : (o : Opens) (os : List Opens) → is_among o os ≡ true → Among o os
there o [] e = absurd (cc e)
there o (p ∷ ps) e =
    elim (or_cases (same_opens o p) (is_among o ps) e) [
      | inl same ↦ inl (sym (opens_are o p same))
      | inr more ↦ inr (there o ps more)
    ]

first_there : (b : Bool) (o : Opens) (os : List Opens) → is_among o os ≡ b → Among o (cond b os (o ∷ os))
first_there true o os e = there o os e
first_there false o os e = inl refl

later_there : (b : Bool) (o p : Opens) (os : List Opens) → Among p os → Among p (cond b os (o ∷ os))
later_there true o p os h = h
later_there false o p os h = inr h

-- what is added to what is left is among it
pub with_first : (o : Opens) (os : List Opens) → Among o (with_opens o os)
with_first o os = first_there (is_among o os) o os refl

-- what was left before stays among it
pub with_later : (o p : Opens) (os : List Opens) → Among p os → Among p (with_opens o os)
with_later o p os h = later_there (is_among o os) o p os h

both_first : (o : Opens) (ps qs : List Opens) → Among o ps → Among o (both_opens ps qs)
both_first o [] qs h = absurd h
both_first o (p ∷ ps) qs h =
    elim h [
      | inl e ↦ subst (λ (z : Opens). Among z (with_opens p (both_opens ps qs))) e (with_first p (both_opens ps qs))
      | inr more ↦ with_later p o (both_opens ps qs) (both_first o ps qs more)
    ]

both_second : (o : Opens) (ps qs : List Opens) → Among o qs → Among o (both_opens ps qs)
both_second o [] qs h = h
both_second o (p ∷ ps) qs h = with_later p o (both_opens ps qs) (both_second o ps qs h)

-- ---- digits

-- a digit of a byte in small letters, and that it is no blank
abbrev is_digit : ℕ → Bool
is_digit n = is_in (small (hex_digit n)) hex_digits && not (is_blank (hex_digit n))

abbrev all_digits : List ℕ → Bool
all_digits [] = true
all_digits (n ∷ ns) = is_digit n && all_digits ns

digit_among : (n : ℕ) (ns : List ℕ) → is_in n ns ≡ true → all_digits ns ≡ true → is_digit n ≡ true
digit_among n [] h e = absurd (cc h)
digit_among n (m ∷ ns) h e =
    let p = and_parts (is_digit m) (all_digits ns) e in
    elim (or_cases (m == n) (is_in n ns) h) [
      | inl same ↦ subst (λ (z : ℕ). is_digit z ≡ true) (eqb-true m n same) p.0
      | inr more ↦ digit_among n ns more p.1
    ]

digit_is : (n : ℕ) → n < 16 → is_digit n ≡ true
digit_is n h = digit_among n (numbers_from 0 16) (is_between n 0 16 (omega arith) h) refl

each_first : (c : ℕ) (cs : List ℕ) (o : Opens) → is_in c cs ≡ true → Among (map (after_character c) o) (after_each cs o)
each_first c [] o h = absurd (cc h)
each_first c (d ∷ cs) o h =
    elim (or_cases (d == c) (is_in c cs) h) [
      | inl same ↦ subst (λ (z : ℕ). Among (map (after_character z) o) (with_opens (map (after_character d) o) (after_each cs o))) (eqb-true d c same) (with_first (map (after_character d) o) (after_each cs o))
      | inr more ↦ with_later (map (after_character d) o) (map (after_character c) o) (after_each cs o) (each_first c cs o more)
    ]

digit_after : (c : ℕ) (o : Opens) (os : List Opens) → is_in c hex_digits ≡ true → Among o os → Among (map (after_character c) o) (after_digit os)
digit_after c o [] h a = absurd a
digit_after c o (p ∷ os) h a =
    elim a [
      | inl e ↦ both_first (map (after_character c) o) (after_each hex_digits p) (after_digit os) (subst (λ (z : Opens). Among (map (after_character c) z) (after_each hex_digits p)) e (each_first c hex_digits p h))
      | inr more ↦ both_second (map (after_character c) o) (after_each hex_digits p) (after_digit os) (digit_after c o os h more)
    ]

-- the two digits of a byte
plain_digit : (n : ℕ) (t : List ℕ) → n < 16 → plain (hex_digit n ∷ t) ≡ small (hex_digit n) ∷ plain t
plain_digit n t h = grind (arith, and_parts, digit_is, plain_first)

below_16 : (n : ℕ) → n % 16 < 16
below_16 n = omega arith

two_digits : (b : ℕ) → plain (hex_text (b ∷ [])) ≡ small (hex_digit (b / 16 % 16)) ∷ small (hex_digit (b % 16)) ∷ []
two_digits b =
    plain_digit (b / 16 % 16) (hex_digit (b % 16) ∷ []) (below_16 (b / 16)) ∙ ap (λ (t : List ℕ). small (hex_digit (b / 16 % 16)) ∷ t) (plain_digit (b % 16) [] (below_16 b))

two_after : (c d : ℕ) (o : Opens) → map (after_text (c ∷ d ∷ [])) o ≡ map (after_character d) (map (after_character c) o)
two_after c d [] = refl
two_after c d (x ∷ o) = ap (λ (xs : Opens). after_character d (after_character c x) ∷ xs) (two_after c d o)

-- what is left after a byte is among what is left after two digits
byte_after : (b : ℕ) (o : Opens) (os : List Opens) → Among o os → Among (all_after (hex_text (b ∷ [])) o) (after_digit (after_digit os))
byte_after b o os a =
    let x = b / 16 % 16 in
    let y = b % 16 in
    let p = and_parts (is_in (small (hex_digit x)) hex_digits) (not (is_blank (hex_digit x))) (digit_is x (below_16 (b / 16))) in
    let q = and_parts (is_in (small (hex_digit y)) hex_digits) (not (is_blank (hex_digit y))) (digit_is y (below_16 b)) in
    let is : all_after (hex_text (b ∷ [])) o ≡ map (after_character (small (hex_digit y))) (map (after_character (small (hex_digit x))) o) =
    grind (arith, two_digits, two_after) in
    subst (λ (z : Opens). Among z (after_digit (after_digit os))) (sym is)
    (digit_after (small (hex_digit y)) (map (after_character (small (hex_digit x))) o) (after_digit os) q.0 (digit_after (small (hex_digit x)) o os p.0 a))

-- ---- any bytes

-- bytes in hexadecimal are one after the other
pub hex_first : (b : ℕ) (bs : List ℕ) (os : Opens) → all_after (hex_text (b ∷ bs)) os ≡ all_after (hex_text bs) (all_after (hex_text (b ∷ [])) os)
hex_first b bs os = all_append (hex_text (b ∷ [])) (hex_text bs) os

with_length : (b : Bool) (o : Opens) (os : List Opens) → length os ≤ length (cond b os (o ∷ os))
with_length true o os = omega arith
with_length false o os = omega arith

both_length : (ps qs : List Opens) → length qs ≤ length (both_opens ps qs)
both_length [] qs = omega arith
both_length (p ∷ ps) qs =
    let low = both_length ps qs in
    let more = with_length (is_among p (both_opens ps qs)) p (both_opens ps qs) in
    omega (arith, low, more)

-- if nothing comes to a list, all that was put to it was there
was_there : (ps qs : List Opens) (o : Opens) → length (both_opens ps qs) ≡ length qs → Among o (both_opens ps qs) → Among o qs
was_there [] qs o same a = a
was_there (p ∷ ps) qs o same a = by (is_among p (both_opens ps qs)) refl same a (λ same a. was_there ps qs o same a)
  where
    by : (b : Bool) → is_among p (both_opens ps qs) ≡ b → length (cond b (both_opens ps qs) (p ∷ both_opens ps qs)) ≡ length qs → Among o (cond b (both_opens ps qs) (p ∷ both_opens ps qs))
        → (length (both_opens ps qs) ≡ length qs → Among o (both_opens ps qs) → Among o qs) → Among o qs
    by true e same a again = again same a
    by false e same a again = let low = both_length ps qs in absurd (omega (arith, same, low))

-- a list to which no byte brings anything has what is left after any bytes
closed_after : (os : List Opens) → length (both_opens (after_digit (after_digit os)) os) ≡ length os → (bs : List ℕ) (o : Opens) → Among o os → Among (all_after (hex_text bs) o) os
closed_after os same [] o a = subst (λ (z : Opens). Among z os) (sym (all_none o)) a
closed_after os same (b ∷ bs) o a =
    let one = all_after (hex_text (b ∷ [])) o in
    let here : Among one os = was_there (after_digit (after_digit os)) os one same (both_first one (after_digit (after_digit os)) os (byte_after b o os a)) in
    subst (λ (z : Opens). Among z os) (sym (hex_first b bs o)) (closed_after os same bs one here)

-- what is left after some bytes, no more than the fuel, is among what is left after any
next_after : (n : ℕ) (bs : List ℕ) (o : Opens) (os : List Opens) → length bs ≤ suc n → Among o os → ((bs : List ℕ) (p : Opens) → length bs ≤ n → Among p (both_opens (after_digit (after_digit os)) os) → Among (all_after (hex_text bs) p) (after_any n (both_opens (after_digit (after_digit os)) os)))
    → Among (all_after (hex_text bs) o) (after_any n (both_opens (after_digit (after_digit os)) os))
next_after n [] o os h a again = again [] o (omega arith) (both_second o (after_digit (after_digit os)) os a)
next_after n (b ∷ bs) o os h a again =
    let one = all_after (hex_text (b ∷ [])) o in
    let all = both_opens (after_digit (after_digit os)) os in
    subst (λ (z : Opens). Among z (after_any n all)) (sym (hex_first b bs o)) (again bs one (omega (arith, h)) (both_first one (after_digit (after_digit os)) os (byte_after b o os a)))

any_by : (c : Bool) (n : ℕ) (bs : List ℕ) (o : Opens) (os : List Opens) → (length (both_opens (after_digit (after_digit os)) os) == length os) ≡ c → Among o os → Among (all_after (hex_text bs) o) (after_any n (both_opens (after_digit (after_digit os)) os))
    → Among (all_after (hex_text bs) o) (any_unless c os (after_any n (both_opens (after_digit (after_digit os)) os)))
any_by true n bs o os e a more = closed_after os (eqb-true (length (both_opens (after_digit (after_digit os)) os)) (length os) e) bs o a
any_by false n bs o os e a more = more

-- what is left after at most n bytes is among what n bytes of any value leave
pub any_after : (n : ℕ) (bs : List ℕ) (o : Opens) (os : List Opens) → length bs ≤ n → Among o os → Among (all_after (hex_text bs) o) (after_any n os)
any_after zero [] o os h a = subst (λ (z : Opens). Among z os) (sym (all_none o)) a
any_after zero (b ∷ bs) o os h a = absurd (omega (arith, h))
any_after (suc n) bs o os h a =
    any_by (length (both_opens (after_digit (after_digit os)) os) == length os) n bs o os refl a
    (next_after n bs o os h a (λ bs p low b. any_after n bs p (both_opens (after_digit (after_digit os)) os) low b))
