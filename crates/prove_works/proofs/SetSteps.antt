-- Values of a set one after another, and sets of a list.
use Rattle.std.specs.Prelude.{◌≡◌, ℕ, zero, suc, ◌+◌, ◌-◌, ◌<◌, ◌≤◌, Bool, true, false, cond, not, ◌&&◌, ◌||◌, nat_lt, nat_le, List, [], ◌∷◌, ◌++◌, length, drop, get_or, filter, refl}
use Rattle.std.proofs.Common.{arith, ap, sym, ◌∙◌, append_assoc, inl, inr}
use Rattle.std.proofs.lemmas.Bool.{cases_lt, both_ways}
use Rattle.std.proofs.lemmas.List.{drop-map, drop_more, append-nil}
use Rattle.prove_facts.specs.model_prove.specs.Sets.{Set, is_in, numbers_from, is_empty}
use Rattle.prove_facts.specs.model_prove.specs.Digits.{some}
use Rattle.prove_facts.specs.declared.values.Values.{Values}
use Rattle.prove_facts.specs.Sets.{has_bit, has_value, set_of, values_of}
use Rattle.prove_facts.proofs.SetLemmas.{in_values, out_values, values_are, rises_numbers, rises_lower, past_not_in, none_is}
use Rattle.prove_facts.proofs.BitLemmas.{empty_words}
use Rattle.prove_works.specs.Searches.{sets_of}

-- each value of a set is a byte
pub byte_of : (s : Values) (v : ℕ) → is_in v (set_of s) ≡ true → v < 256
byte_of s v i = elim (cases_lt v 256) [ inl l ↦ l | inr g ↦ absurd (both_ways (is_in v (set_of s)) (out_values s.words v g) i) ]

kept : (b c : Bool) (v : ℕ) (s t : Set) → b ≡ c → s ≡ t → cond b (v ∷ s) s ≡ cond c (v ∷ t) t
kept true true v s t e h = ap (λ (r : Set). v ∷ r) h
kept false false v s t e h = h
kept true false v s t e h = absurd (cc e)
kept false true v s t e h = absurd (cc e)

first_in : (v : ℕ) (s : Set) → is_in v (v ∷ s) ≡ true
first_in v s = grind arith

later_in : (x v : ℕ) (s : Set) → is_in v s ≡ true → is_in v (x ∷ s) ≡ true
later_in x v s h = grind (arith, h)

-- tests that agree on the values of a set
pub filter_same : (p q : ℕ → Bool) (s : Set) → ((v : ℕ) → is_in v s ≡ true → p v ≡ q v) → filter p s ≡ filter q s
filter_same p q [] h = refl
filter_same p q (x ∷ s) h = kept (p x) (q x) x (filter p s) (filter q s) (h x (first_in x s)) (filter_same p q s (λ v i. h v (later_in x v s i)))

-- the values of a set that are in another
pub filter_values : (s t : Values) (p : ℕ → Bool) → ((v : ℕ) → v < 256 → has_value t v ≡ p v) → filter (λ v. is_in v (set_of t)) (set_of s) ≡ filter p (set_of s)
filter_values s t p h =
    filter_same (λ v. is_in v (set_of t)) p (set_of s) (λ v i. let l = byte_of s v i in in_values t.words v l ∙ h v l)

some_kept : (b : Bool) (v : ℕ) (s : Set) (c : Bool) → not (is_empty s) ≡ c → not (is_empty (cond b (v ∷ s) s)) ≡ (b || c)
some_kept true v s c h = refl
some_kept false v s c h = h

-- some value passes a test if those that do are not none
pub some_is : (p : ℕ → Bool) (s : Set) → not (is_empty (filter p s)) ≡ some p s
some_is p [] = refl
some_is p (x ∷ s) = some_kept (p x) x (filter p s) (some p s) (some_is p s)

in_run : (v k n : ℕ) → is_in v (numbers_from k n) ≡ (nat_le k v && nat_lt v (k + n))
in_run v k zero = grind arith
in_run v k (suc n) = grind (arith, in_run v (suc k) n)

below_next : (v n : ℕ) → nat_lt v (suc n) ≡ nat_le v n
below_next v n = grind arith

-- the lengths of a name after its length
pub names_are : (s : Values) → ((v : ℕ) → v < 256 → has_value s v ≡ (nat_le 6 v && nat_le v 17)) → set_of s ≡ numbers_from 6 12
names_are s h =
    values_are s.words (numbers_from 6 12) (rises_lower 0 6 (numbers_from 6 12) (omega arith) (rises_numbers 6 12))
    (λ v l. h v l ∙ sym (in_run v 6 12 ∙ ap (λ (b : Bool). nat_le 6 v && b) (below_next v 17)))
    (λ v g. past_not_in v 6 12 (omega (arith, g)))

-- ---- the values of a set in a list

-- the values of words from one on
pub values_after : List ℕ → ℕ → Set
values_after ws v = filter (has_bit ws) (numbers_from v (256 - v))

kept_or_not : (b : Bool) (v : ℕ) (old rest all : List ℕ) → old ++ cond b (v ∷ rest) rest ≡ all → (old ++ cond b (v ∷ []) []) ++ rest ≡ all
kept_or_not true v old rest all h = append_assoc old (v ∷ []) rest ∙ h
kept_or_not false v old rest all h = ap (λ (l : List ℕ). l ++ rest) (append-nil old) ∙ h

next_numbers : (p : ℕ → Bool) (v n m : ℕ) → n ≡ suc m → filter p (numbers_from v n) ≡ cond (p v) (v ∷ filter p (numbers_from (v + 1) m)) (filter p (numbers_from (v + 1) m))
next_numbers p v n m e =
    let u : suc v ≡ v + 1 = omega arith in
    ap (λ (k : ℕ). filter p (numbers_from v k)) e
    ∙ ap (λ (k : ℕ). cond (p v) (v ∷ filter p (numbers_from k m)) (filter p (numbers_from k m))) u

next_after : (ws : List ℕ) (v : ℕ) → v < 256 → values_after ws v ≡ cond (has_bit ws v) (v ∷ values_after ws (v + 1)) (values_after ws (v + 1))
unfolding values_after
next_after ws v l = next_numbers (has_bit ws) v (256 - v) (256 - (v + 1)) (omega (arith, l))

-- the values so far, and those of a set that are left, are all
pub value_next : (s : Values) (v : ℕ) (old new : List ℕ) → v < 256 → new ≡ old ++ cond (is_in v (set_of s)) (v ∷ []) []
    → old ++ values_after s.words v ≡ set_of s
    → new ++ values_after s.words (v + 1) ≡ set_of s
value_next s v old new l e h =
    let rest = values_after s.words (v + 1) in
    ap (λ (n : List ℕ). n ++ rest) (e ∙ ap (λ (b : Bool). old ++ cond b (v ∷ []) []) (in_values s.words v l))
    ∙ kept_or_not (has_bit s.words v) v old rest (set_of s) (ap (λ (r : List ℕ). old ++ r) (sym (next_after s.words v l)) ∙ h)

none_numbers : (p : ℕ → Bool) (v n : ℕ) → n ≡ 0 → filter p (numbers_from v n) ≡ []
none_numbers p v n e = ap (λ (k : ℕ). filter p (numbers_from v k)) e

-- after the last turn no value is left
pub value_last : (s : Values) (v : ℕ) (old : List ℕ) → 256 ≤ v → old ++ values_after s.words v ≡ set_of s → old ≡ set_of s
unfolding values_after
value_last s v old l h =
    sym (append-nil old) ∙ ap (λ (r : List ℕ). old ++ r) (sym (none_numbers (has_bit s.words) v (256 - v) (omega (arith, l)))) ∙ h

-- before the first turn all values are left
pub value_first : (s : Values) (old : List ℕ) → old ≡ [] → old ++ values_after s.words 0 ≡ set_of s
unfolding values_after values_of
value_first s old e = ap (λ (l : List ℕ). l ++ filter (has_bit s.words) (numbers_from 0 256)) e

none_there : (v : ℕ) → v < 256 → has_bit (0 ∷ 0 ∷ 0 ∷ 0 ∷ []) v ≡ false
none_there v l = empty_words (0 ∷ 0 ∷ 0 ∷ 0 ∷ []) v refl l

-- the set whose words are zero has no value
pub none_values : (v : ℕ) → v < 256 → has_bit (0 ∷ 0 ∷ 0 ∷ 0 ∷ []) v ≡ false
none_values v l = none_there v l

pub none_set : values_of (0 ∷ 0 ∷ 0 ∷ 0 ∷ []) ≡ []
none_set = none_is (0 ∷ 0 ∷ 0 ∷ 0 ∷ []) none_there

pub positive_range : (v : ℕ) → v < 256 → (nat_le 1 v && nat_le v 255) ≡ nat_lt 0 v
positive_range v l = grind (arith, l)

-- ---- sets of a list

-- what is left begins with the next set
pub drop_set : (l : List Values) (i : ℕ) (d : Values) → i < length l → drop i (sets_of l) ≡ set_of (get_or l i d) ∷ drop (i + 1) (sets_of l)
drop_set l i d h =
    drop-map set_of i l ∙ ap (λ (r : List Values). sets_of r) (drop_more l i d h) ∙ ap (λ (r : List Set). set_of (get_or l i d) ∷ r) (sym (drop-map set_of (i + 1) l))
