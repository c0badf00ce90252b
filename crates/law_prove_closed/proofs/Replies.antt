-- Each reply that La and SW allow is among the combinations of lines that match.
use Rattle.std.proofs.Common.{◌≡◌, ◌⊎◌, inl, inr, ℕ, ◌+◌, ◌*◌, ◌/◌, ◌%◌, ◌<◌, ◌≤◌, Bool, true, false, cond, List, [], ◌∷◌, ◌++◌, length, refl, sym, ap, subst, ◌∙◌, arith}
use Rattle.std.specs.Prelude.{◌==◌, map, flat_map}
use Rattle.std.proofs.lemmas.Bool.{or_cases, or_left, or_right, and_from, eqb-true, lt-ltb, ltb-false}
use Rattle.law_prove.specs.model_text.specs.Listing.{hex_digit, hex_text}
use Rattle.law_prove.specs.model_rules.specs.model_events.specs.Matching.{fits}
use Rattle.law_prove.specs.model_prove.specs.Sets.{Set, is_in}
use Rattle.law_prove.specs.model_prove.specs.Facts.{values_at}
use Rattle.law_prove.specs.model_prove.specs.Digits.{same}
use Rattle.law_prove.specs.model_prove.specs.Keys.{Known, same_lists}
use Rattle.law_prove.specs.model_prove.specs.Texts.{Opens, opened, all_after, after_bytes, with_opens, any_count, matches_of}
use Rattle.law_prove.specs.model_prove.specs.Laws.{Among}
use Rattle.law_prove.specs.model_prove.specs.Arrivals.{Setting, Lengths, some_value, lengths_of, la_at, bodies, has_combination, distinct, result_patterns, replies}
use Rattle.law_prove.proofs.Keys.{same_is, lists_are}
use Rattle.law_prove_closed.proofs.Opens.{all_append, all_none, with_first, with_later, any_after, matches_are}
use Rattle.law_prove.proofs.Blocks.{among_left, among_right}

-- ---- lists

-- ---- bytes of a reply

byte_left : (v : ℕ) (vs : Set) (o : Opens) → is_in v vs ≡ true → Among (all_after (hex_text (v ∷ [])) o) (after_bytes vs o)
byte_left v [] o h = absurd (cc h)
byte_left v (w ∷ vs) o h =
    let one = all_after (hex_text (w ∷ [])) o in
    elim (or_cases (w == v) (is_in v vs) h) [
      | inl is ↦ subst (λ (z : ℕ). Among (all_after (hex_text (z ∷ [])) o) (with_opens one (after_bytes vs o))) (eqb-true w v is) (with_first one (after_bytes vs o))
      | inr more ↦ with_later one (all_after (hex_text (v ∷ [])) o) (after_bytes vs o) (byte_left v vs o more)
    ]

each_left : (v : ℕ) (vs : Set) (o : Opens) (os : List Opens) → is_in v vs ≡ true → Among o os → Among (all_after (hex_text (v ∷ [])) o) (flat_map (after_bytes vs) os)
each_left v vs o [] h a = absurd a
each_left v vs o (p ∷ os) h a =
    let left = all_after (hex_text (v ∷ [])) o in
    elim a [
      | inl e ↦ among_left left (after_bytes vs p) (flat_map (after_bytes vs) os) (subst (λ (z : Opens). Among (all_after (hex_text (v ∷ [])) z) (after_bytes vs p)) e (byte_left v vs p h))
      | inr more ↦ among_right left (after_bytes vs p) (flat_map (after_bytes vs) os) (each_left v vs o os h more)
    ]

body_left : (b : Bool) (body : List ℕ) (o : Opens) → (b ≡ false → body ≡ []) → length body ≤ any_count → Among (all_after (hex_text body) o) (bodies b o)
body_left true body o none low = any_after any_count body o (o ∷ []) low (inl refl)
body_left false body o none low = inl (sym (ap (λ (l : List ℕ). all_after (hex_text l) o) (none refl) ∙ all_none o))

hex_append : (xs ys : List ℕ) → hex_text (xs ++ ys) ≡ hex_text xs ++ hex_text ys
hex_append [] ys = refl
hex_append (x ∷ xs) ys = ap (λ (t : List ℕ). hex_digit (x / 16 % 16) ∷ hex_digit (x % 16) ∷ t) (hex_append xs ys)

-- ---- combinations

matches_left : (o : Opens) (os : List Opens) → Among o os → Among (matches_of o) (map matches_of os)
matches_left o [] a = absurd a
matches_left o (p ∷ os) a =
    elim a [
      | inl e ↦ inl (ap matches_of e)
      | inr more ↦ inr (matches_left o os more)
    ]

combination_is : (m : List Bool) (ms : List (List Bool)) → has_combination m ms ≡ true → Among m ms
combination_is m [] e = absurd (cc e)
combination_is m (n ∷ ms) e =
    elim (or_cases (same_lists same m n) (has_combination m ms) e) [
      | inl is ↦ inl (sym (lists_are same same_is m n is))
      | inr more ↦ inr (combination_is m ms more)
    ]

put_once : (b : Bool) (m n : List Bool) (ms : List (List Bool)) → has_combination n ms ≡ b → (n ≡ m) ⊎ Among m ms → Among m (cond b ms (n ∷ ms))
put_once b m n ms e h = grind (arith, combination_is)

distinct_has : (m : List Bool) (ms : List (List Bool)) → Among m ms → Among m (distinct ms)
distinct_has m [] h = absurd h
distinct_has m (n ∷ ms) h =
    put_once (has_combination n (distinct ms)) m n (distinct ms) refl (elim h [
      | inl is ↦ inl is
      | inr more ↦ inr (distinct_has m ms more)
    ])

-- ---- replies

-- the lines that match a reply are one of the combinations of what is known of La and SW
pub reply_among : (s : Setting) (k : Known) (body : List ℕ) (x y : ℕ)
    → ((lengths_of (values_at k.bytes la_at) (values_at k.bytes (la_at + 1))).some ≡ false → body ≡ []) → length body ≤ any_count → is_in x (values_at k.bytes (la_at + 2)) ≡ true → is_in y (values_at k.bytes (la_at + 3)) ≡ true
    → Among (map (λ q. fits q (hex_text (body ++ x ∷ y ∷ []))) (result_patterns s.rules.ons)) (replies s k)
reply_among s k body x y none low first second =
    let la : Lengths = lengths_of (values_at k.bytes la_at) (values_at k.bytes (la_at + 1)) in
    let o : Opens = map opened (result_patterns s.rules.ons) in
    let one = all_after (hex_text body) o in
    let two = all_after (hex_text (x ∷ [])) one in
    let three = all_after (hex_text (y ∷ [])) two in
    let starts = bodies la.some o in
    let highs = flat_map (after_bytes (values_at k.bytes (la_at + 2))) starts in
    let lows = flat_map (after_bytes (values_at k.bytes (la_at + 3))) highs in
    let there : Among three lows = each_left y (values_at k.bytes (la_at + 3)) two highs second (each_left x (values_at k.bytes (la_at + 2)) one starts first (body_left la.some body o none low)) in
    let text : all_after (hex_text (body ++ x ∷ y ∷ [])) o ≡ three =
    ap (λ (t : List ℕ). all_after t o) (hex_append body (x ∷ y ∷ [])) ∙ (all_append (hex_text body) (hex_text (x ∷ y ∷ [])) o ∙ all_append (hex_text (x ∷ [])) (hex_text (y ∷ [])) one)
    in
    let is : matches_of three ≡ map (λ q. fits q (hex_text (body ++ x ∷ y ∷ []))) (result_patterns s.rules.ons) = sym (ap matches_of text) ∙ matches_are (hex_text (body ++ x ∷ y ∷ [])) (result_patterns s.rules.ons) in
    subst (λ (m : List Bool). Among m (replies s k)) is (distinct_has (matches_of three) (map matches_of lows) (matches_left three lows there))

-- ---- lengths

some_is : (test : ℕ → Bool) (v : ℕ) (s : Set) → is_in v s ≡ true → test v ≡ true → some_value test s ≡ true
some_is test v [] h e = absurd (cc h)
some_is test v (w ∷ s) h e =
    elim (or_cases (w == v) (is_in v s) h) [
      | inl is ↦ or_left (test w) (some_value test s) (subst (λ (z : ℕ). test z ≡ true) (sym (eqb-true w v is)) e)
      | inr more ↦ or_right (test w) (some_value test s) (some_is test v s more e)
    ]

module _ (high low : Set) (h l : ℕ) (in_high : is_in h high ≡ true) (in_low : is_in l low ≡ true) where
  -- a reply that may not be long may have no bytes alone
  pub no_length : (lengths_of high low).some ≡ false → 256 * h + l ≡ 0
  no_length none = grind (arith, or_left, some_is, or_right, ltb-false)

  -- a reply of at most 1,024 bytes may fit
  pub may_fit : 256 * h + l ≤ 1024 → (lengths_of high low).fitting ≡ true
  may_fit few = grind (arith, or_left, some_is, ltb-false, or_right, and_from)

  -- one of more may be too long
  pub may_be_long : l < 256 → 1024 < 256 * h + l → (lengths_of high low).too_long ≡ true
  may_be_long byte many = grind (arith, or_left, some_is, ltb-false, or_right, and_from, lt-ltb)
