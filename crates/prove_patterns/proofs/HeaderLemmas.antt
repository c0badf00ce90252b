-- Groups of values that leave the same, and the headers of a definition's bytes.
use Rattle.std.proofs.Common.{◌≡◌, ◌∙◌, ℕ, zero, suc, ◌+◌, ◌-◌, ◌*◌, ◌/◌, ◌%◌, ◌<◌, ◌≤◌, Bool, true, false, cond, List, [], ◌∷◌, ◌++◌, length, get_or, set, map, ap, sym, subst, refl, inl, inr, arith}
use Rattle.std.specs.Prelude.{not, ◌&&◌, ◌||◌, ◌==◌, flat_map}
use Rattle.std.proofs.lemmas.Bool.{or_from, eq-eqb, ne_eqb, cases_eq}
use Rattle.prove_facts.specs.model_text.specs.Listing.{hex_text}
use Rattle.prove_facts.specs.model_prove.specs.Sets.{Set, is_in, all_bytes, with_value}
use Rattle.prove_facts.specs.model_prove.specs.Texts.{Opens, opened, same_opens, after_character, after_text, all_after}
use Rattle.prove_facts.specs.model_prove.specs.Between.{Header, with_left, by_left, with_header_byte, all_but, headers}
use Rattle.prove_facts.specs.model_prove.proofs.SetLemmas.{is_byte}
use Rattle.prove_facts.specs.Sets.{has_bit, values_of}
use Rattle.prove_facts.proofs.SetLemmas.{values_are, in_with, in_filter, in_values, out_values, past_not_in, rises_with, rises_values, rises_filter, rises_numbers}
use Rattle.prove_patterns.specs.Ways.{digit_sign, values_from}
use Rattle.prove_patterns.specs.Headers.{ByteSets, place_of, group_with, headers_with, header_bytes, headers_from, all_except}
use Rattle.prove_patterns.proofs.SignLemmas.{after_two, values_with, values_without}

abbrev Left : Type 0
Left = Opens × Set

-- ---- groups

here_by : (b : Bool) (v n : ℕ) (g : Left) (gs rest : List Left) → cond b 0 (suc n) < suc (length gs) → (n < length gs → rest ≡ group_with n v gs)
    → cond b ((g.0, with_value v g.1) ∷ gs) (g ∷ rest) ≡ group_with (cond b 0 (suc n)) v (g ∷ gs)
here_by true v n g gs rest l h = refl
here_by false v n g gs rest l h = ap (λ (x : List Left). g ∷ x) (h (omega (arith, l)))

-- a value put to those that leave the same
pub left_here : (v : ℕ) (o : Opens) (gs : List Left) → place_of o gs < length gs → with_left v o gs ≡ group_with (place_of o gs) v gs
left_here v o [] l = absurd (omega (arith, l))
left_here v o (g ∷ gs) l = here_by (same_opens g.0 o) v (place_of o gs) g gs (with_left v o gs) l (left_here v o gs)

last_by : (b : Bool) (v n : ℕ) (o : Opens) (g : Left) (gs rest : List Left) → suc (length gs) ≤ cond b 0 (suc n) → (length gs ≤ n → rest ≡ gs ++ (o, v ∷ []) ∷ [])
    → cond b ((g.0, with_value v g.1) ∷ gs) (g ∷ rest) ≡ g ∷ (gs ++ (o, v ∷ []) ∷ [])
last_by true v n o g gs rest l h = absurd (omega (arith, l))
last_by false v n o g gs rest l h = ap (λ (x : List Left). g ∷ x) (h (omega (arith, l)))

-- a value that leaves something new
pub left_last : (v : ℕ) (o : Opens) (gs : List Left) → length gs ≤ place_of o gs → with_left v o gs ≡ gs ++ (o, v ∷ []) ∷ []
left_last v o [] l = refl
left_last v o (g ∷ gs) l = last_by (same_opens g.0 o) v (place_of o gs) o g gs (with_left v o gs) l (left_last v o gs)

-- a value put to a group that is there, or to a new one
pub left_put : (v n k : ℕ) (o : Opens) (gs new : List Left) → n ≡ place_of o gs → length gs ≡ k → n < k → new ≡ group_with n v gs → new ≡ with_left v o gs
left_put v n k o gs new at size l e =
    e ∙ ap (λ (m : ℕ). group_with m v gs) at ∙ sym (left_here v o gs (omega (arith, at, size, l)))

pub left_new : (v n k : ℕ) (o : Opens) (gs new : List Left) → n ≡ place_of o gs → length gs ≡ k → k ≤ n → new ≡ gs ++ (o, v ∷ []) ∷ [] → new ≡ with_left v o gs
left_new v n k o gs new at size l e = e ∙ sym (left_last v o gs (omega (arith, at, size, l)))

-- the group at a place with a value more
pub group_set : {A : Type 0} (f : A → Left) (gs : List A) (n v : ℕ) (d x : A) → n < length gs → f x ≡ ((f (get_or gs n d)).0, with_value v (f (get_or gs n d)).1)
    → map f (set gs n x) ≡ group_with n v (map f gs)
group_set f [] n v d x l e = absurd (omega (arith, l))
group_set f (g ∷ gs) zero v d x l e = ap (λ (y : Left). y ∷ map f gs) e
group_set f (g ∷ gs) (suc n) v d x l e = ap (λ (y : List Left). f g ∷ y) (group_set f gs n v d x (omega (arith, l)) e)

-- one place back from the last value
pub left_with : (ws : List ℕ) (e : ℕ) (o : Opens) (old new : List Left) → 0 < e → e ≤ 256 → has_bit ws (e - 1) ≡ true → old ≡ by_left o (values_from ws e)
    → new ≡ with_left (e - 1) (all_after (hex_text ((e - 1) ∷ [])) o) old → new ≡ by_left o (values_from ws (e - 1))
left_with ws e o old new some within b i n =
    let back : e ≡ suc (e - 1) = omega arith in
    let j : old ≡ by_left o (values_from ws (suc (e - 1))) = subst (λ (k : ℕ). old ≡ by_left o (values_from ws k)) back i in
    n ∙ ap (λ (gs : List Left). with_left (e - 1) (all_after (hex_text ((e - 1) ∷ [])) o) gs) j
    ∙ sym (ap (λ (s : Set). by_left o s) (values_with ws (e - 1) (omega arith) b))

pub left_without : (ws : List ℕ) (e : ℕ) (o : Opens) (old : List Left) → 0 < e → e ≤ 256 → has_bit ws (e - 1) ≡ false → old ≡ by_left o (values_from ws e)
    → old ≡ by_left o (values_from ws (e - 1))
left_without ws e o old some within b i =
    let back : e ≡ suc (e - 1) = omega arith in
    let j : old ≡ by_left o (values_from ws (suc (e - 1))) = subst (λ (k : ℕ). old ≡ by_left o (values_from ws k)) back i in
    j ∙ sym (ap (λ (s : Set). by_left o s) (values_without ws (e - 1) (omega arith) b))

-- two characters after one another
twice : (a b : ℕ) (o : Opens) → map (after_character b) (map (after_character a) o) ≡ map (after_text (a ∷ b ∷ [])) o
twice a b [] = refl
twice a b (p ∷ o) = ap (λ (x : Opens). after_character b (after_character a p) ∷ x) (twice a b o)

-- what a byte leaves is what its low digit leaves after its high one
after_digits : (h l : ℕ) (o half : Opens) → h < 16 → l < 16 → half ≡ map (after_character (digit_sign h)) o
    → map (after_character (digit_sign l)) half ≡ all_after (hex_text ((16 * h + l) ∷ [])) o
after_digits h l o half below low e =
    let high : (16 * h + l) / 16 ≡ h = omega arith in
    let rest : (16 * h + l) % 16 ≡ l = omega arith in
    ap (λ (x : Opens). map (after_character (digit_sign l)) x) e
    ∙ twice (digit_sign h) (digit_sign l) o
    ∙ sym (ap (λ (d : ℕ). map (after_text (digit_sign d ∷ digit_sign l ∷ [])) o) high)
    ∙ sym (ap (λ (d : ℕ). map (after_text (digit_sign ((16 * h + l) / 16) ∷ digit_sign d ∷ [])) o) rest)
    ∙ sym (after_two (16 * h + l) o (omega (arith, below, low)))

-- one place back from the last value of a high digit
pub low_with : (ws : List ℕ) (h e : ℕ) (o half : Opens) (old new : List Left) → h < 16 → 0 < e → e ≤ 16 → has_bit ws (16 * h + (e - 1)) ≡ true
    → half ≡ map (after_character (digit_sign h)) o → old ≡ by_left o (values_from ws (16 * h + e))
    → new ≡ with_left (16 * h + (e - 1)) (map (after_character (digit_sign (e - 1))) half) old → new ≡ by_left o (values_from ws (16 * h + (e - 1)))
low_with ws h e o half old new below some within b so i n =
    let back : (16 * h + e) - 1 ≡ 16 * h + (e - 1) = omega (arith, some) in
    let added : new ≡ with_left (16 * h + (e - 1)) (all_after (hex_text ((16 * h + (e - 1)) ∷ [])) o) old =
    n ∙ ap (λ (p : Opens). with_left (16 * h + (e - 1)) p old) (after_digits h (e - 1) o half below (omega (arith, some, within)) so) in
    subst (λ (k : ℕ). new ≡ by_left o (values_from ws k)) back
    (left_with ws (16 * h + e) o old new (omega (arith, some)) (omega (arith, below, within)) (subst (λ (k : ℕ). has_bit ws k ≡ true) (sym back) b) i
    (subst (λ (k : ℕ). new ≡ with_left k (all_after (hex_text (k ∷ [])) o) old) (sym back) added))

pub low_without : (ws : List ℕ) (h e : ℕ) (o : Opens) (old : List Left) → h < 16 → 0 < e → e ≤ 16 → has_bit ws (16 * h + (e - 1)) ≡ false
    → old ≡ by_left o (values_from ws (16 * h + e)) → old ≡ by_left o (values_from ws (16 * h + (e - 1)))
low_without ws h e o old below some within b i =
    let back : (16 * h + e) - 1 ≡ 16 * h + (e - 1) = omega (arith, some) in
    subst (λ (k : ℕ). old ≡ by_left o (values_from ws k)) back
    (left_without ws (16 * h + e) o old (omega (arith, some)) (omega (arith, below, within)) (subst (λ (k : ℕ). has_bit ws k ≡ false) (sym back) b) i)

-- ---- sets

either_way : (p q : Bool) → (p || q) ≡ (q || p)
either_way true true = refl
either_way true false = refl
either_way false true = refl
either_way false false = refl

turned : (v w : ℕ) → (v == w) ≡ (w == v)
turned v w = elim (cases_eq v w) [ inl e ↦ eq-eqb v w e ∙ sym (eq-eqb w v (sym e)) | inr n ↦ ne_eqb v w n ∙ sym (ne_eqb w v (λ e. n (sym e))) ]

-- a set with a value more
pub with_is : (ws xs : List ℕ) (x : ℕ) → x < 256 → ((v : ℕ) → v < 256 → has_bit ws v ≡ has_bit xs v || (v == x)) → values_of ws ≡ with_value x (values_of xs)
with_is ws xs x k h =
    values_are ws (with_value x (values_of xs)) (rises_with 0 x (values_of xs) (omega arith) (rises_values xs))
    (λ v l. h v l ∙ sym (in_with v x (values_of xs) ∙ ap (λ (b : Bool). (x == v) || b) (in_values xs v l) ∙ ap (λ (b : Bool). b || has_bit xs v) (turned x v) ∙ either_way (v == x) (has_bit xs v)))
    (λ v g. in_with v x (values_of xs) ∙ or_from (x == v) (is_in v (values_of xs)) (ne_eqb x v (λ e. omega (arith, g, k, e))) (out_values xs v g))

out_of_range : (v : ℕ) (b : Bool) → 256 ≤ v → (is_in v all_bytes && b) ≡ false
out_of_range v b g = ap (λ (c : Bool). c && b) (past_not_in v 0 256 (omega (arith, g)))

-- all values but some
pub all_but_is : (ws vs : List ℕ) → ((v : ℕ) → v < 256 → has_bit ws v ≡ not (is_in v vs)) → values_of ws ≡ all_except vs
unfolding all_except
all_but_is ws vs h =
    let p = λ (v : ℕ). not (is_in v vs) in
    values_are ws (all_but vs) (rises_filter p 0 all_bytes (rises_numbers 0 256))
    (λ v l. h v l ∙ sym (in_filter p v all_bytes ∙ ap (λ (b : Bool). b && p v) (is_byte v l)))
    (λ v g. in_filter p v all_bytes ∙ out_of_range v (p v) g)

-- one value or three
pub one_turned : (v a : ℕ) → (v == a) ≡ is_in v (a ∷ [])
one_turned v a = turned v a ∙ either_way false (a == v)

or_grouped : (p q r : Bool) → ((p || q) || r) ≡ (p || (q || (r || false)))
or_grouped true q r = refl
or_grouped false true r = refl
or_grouped false false true = refl
or_grouped false false false = refl

pub three_turned : (v a b c : ℕ) → (((v == a) || (v == b)) || (v == c)) ≡ is_in v (a ∷ b ∷ c ∷ [])
three_turned v a b c =
    or_grouped (v == a) (v == b) (v == c)
    ∙ ap (λ (x : Bool). x || ((v == b) || ((v == c) || false))) (turned v a)
    ∙ ap (λ (x : Bool). (a == v) || (x || ((v == c) || false))) (turned v b)
    ∙ ap (λ (x : Bool). (a == v) || ((b == v) || (x || false))) (turned v c)

-- ---- the definition's headers

pub headers_are : (ps : List (List ℕ)) → headers ps ≡ headers_from (map opened ps)
unfolding headers_with header_bytes all_except
headers_are ps = refl

-- all headers, step by step
pub headers_made : (b : ByteSets) (start : Header) (z o n a p e q f all r : List Header) → z ≡ with_header_byte b.zero_class start → o ≡ with_header_byte b.other_class start
    → n ≡ flat_map (with_header_byte b.select) z → a ≡ flat_map (with_header_byte b.not_by_name) n → p ≡ flat_map (with_header_byte b.not_select) z → e ≡ flat_map (with_header_byte b.every) o
    → q ≡ p ++ e → f ≡ flat_map (with_header_byte b.every) q → all ≡ a ++ f → r ≡ flat_map (with_header_byte b.every) all → r ≡ headers_with b start
unfolding headers_with
headers_made b start z o n a p e q f all r z-is o-is n-is a-is p-is e-is q-is f-is all-is r-is =
    let each = λ (s : Set) (hs : List Header). flat_map (with_header_byte s) hs in
    let named = a-is ∙ ap (each b.not_by_name) (n-is ∙ ap (each b.select) z-is) in
    let plain = q-is ∙ ap (λ (x : List Header). x ++ e) (p-is ∙ ap (each b.not_select) z-is) ∙ ap (λ (x : List Header). flat_map (with_header_byte b.not_select) (with_header_byte b.zero_class start) ++ x) (e-is ∙ ap (each b.every) o-is) in
    let whole = all-is ∙ ap (λ (x : List Header). x ++ f) named ∙ ap (λ (x : List Header). flat_map (with_header_byte b.not_by_name) (flat_map (with_header_byte b.select) (with_header_byte b.zero_class start)) ++ x) (f-is ∙ ap (each b.every) plain) in
    r-is ∙ ap (each b.every) whole

pub bytes_are : (a b c d e f : Set) → a ≡ 0 ∷ [] → b ≡ all_except (0 ∷ 0xBE ∷ 0xFF ∷ []) → c ≡ 0xA4 ∷ [] → d ≡ all_except (0xA4 ∷ []) → e ≡ all_except (4 ∷ []) → f ≡ all_bytes
    → record { zero_class = a; other_class = b; select = c; not_select = d; not_by_name = e; every = f } ≡ header_bytes
unfolding header_bytes
bytes_are a b c d e f a-is b-is c-is d-is e-is f-is = cc
