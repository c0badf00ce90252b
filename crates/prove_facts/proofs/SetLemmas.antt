-- Sets as ascending lists: two that have the same values are the same list.
use Rattle.std.specs.Prelude.{◌≡◌, ℕ, zero, suc, ◌+◌, ◌-◌, ◌^◌, ◌<◌, ◌≤◌, Bool, true, false, cond, not, ◌&&◌, ◌||◌, nat_lt, ◌==◌, List, [], ◌∷◌, filter, length, Some, None, ⊤, refl}
use Rattle.std.proofs.Common.{arith, ap, sym, subst, ◌∙◌, inl, inr}
use Rattle.std.proofs.lemmas.Bool.{and_from, or_from, or_left, or_right, eq-eqb, ne_eqb, eqb-true, eqb-false, ltb-true, ltb-false, leb-true, cases_lt, cases_eq, cases_Bool, both_ways}
use Rattle.model_prove.specs.Sets.{Set, is_in, numbers_from, all_bytes, put_before, with_value, union, common, is_subset, is_empty, is_full, only_value}
use Rattle.model_prove.proofs.SetLemmas.{is_first, is_byte, in_larger}
use Rattle.prove_facts.specs.Sets.{has_bit, values_of, least_value}
use Rattle.prove_facts.proofs.BitLemmas.{full_words}

-- numbers strictly ascending, none below a number
abbrev pub Rises : ℕ → Set → Type 0
Rises k [] = ⊤
Rises k (x ∷ s) = (k ≤ x) × Rises (suc x) s

pub rises_lower : (j k : ℕ) (s : Set) → j ≤ k → Rises k s → Rises j s
rises_lower j k [] h r = tt
rises_lower j k (x ∷ s) h r = (omega (arith, h, r.0), r.1)

-- no value below the first one is in a set
pub lower_not_in : (v k : ℕ) (s : Set) → Rises k s → v < k → is_in v s ≡ false
lower_not_in v k [] r h = refl
lower_not_in v k (x ∷ s) r h =
    or_from (x == v) (is_in v s) (ne_eqb x v (λ e. omega (arith, h, r.0, e))) (lower_not_in v (suc x) s r.1 (omega (arith, h, r.0)))

-- ---- the same values

first_same : (x y : ℕ) (s t : Set) → Rises (suc x) s → Rises (suc y) t → ((v : ℕ) → is_in v (x ∷ s) ≡ is_in v (y ∷ t)) → x ≡ y
first_same x y s t r q h =
    elim (cases_lt x y) [
      | inl l ↦ absurd (both_ways (is_in x (y ∷ t)) (lower_not_in x y (y ∷ t) (omega arith, q) l) (sym (h x) ∙ is_first x s))
      | inr n ↦ elim (cases_lt y x) [
        | inl l ↦ absurd (both_ways (is_in y (x ∷ s)) (lower_not_in y x (x ∷ s) (omega arith, r) l) (h y ∙ is_first y t))
        | inr m ↦ omega (arith, n, m)
      ]
    ]

tail_same : (x : ℕ) (s t : Set) → Rises (suc x) s → Rises (suc x) t → ((v : ℕ) → is_in v (x ∷ s) ≡ is_in v (x ∷ t)) → (v : ℕ) → is_in v s ≡ is_in v t
tail_same x s t r q h v = grind (arith, cases_lt, ne_eqb, lower_not_in)

pub same_values : (j k : ℕ) (s t : Set) → Rises j s → Rises k t → ((v : ℕ) → is_in v s ≡ is_in v t) → s ≡ t
same_values j k [] [] r q h = refl
same_values j k [] (y ∷ t) r q h = absurd (both_ways (is_in y (y ∷ t)) (sym (h y)) (is_first y t))
same_values j k (x ∷ s) [] r q h = absurd (both_ways (is_in x (x ∷ s)) (h x) (is_first x s))
same_values j k (x ∷ s) (y ∷ t) r q h =
    let e = first_same x y s t r.1 q.1 h in
    let p : Rises (suc x) t = subst (λ (w : ℕ). Rises (suc w) t) (sym e) q.1 in
    let g : (v : ℕ) → is_in v (x ∷ s) ≡ is_in v (x ∷ t) = λ v. h v ∙ ap (λ (w : ℕ). is_in v (w ∷ t)) (sym e) in
    ap (λ (u : Set). x ∷ u) (same_values (suc x) (suc x) s t r.1 p (tail_same x s t r.1 p g)) ∙ ap (λ (w : ℕ). w ∷ t) e

-- ---- filters

kept_rises : (b : Bool) (k x : ℕ) (s : Set) → k ≤ x → Rises (suc x) s → Rises k (cond b (x ∷ s) s)
kept_rises true k x s h r = (h, r)
kept_rises false k x s h r = rises_lower k (suc x) s (omega (arith, h)) r

pub rises_filter : (p : ℕ → Bool) (k : ℕ) (s : Set) → Rises k s → Rises k (filter p s)
rises_filter p k [] r = tt
rises_filter p k (x ∷ s) r = kept_rises (p x) k x (filter p s) r.0 (rises_filter p (suc x) s r.1)

in_kept : (b : Bool) (v x : ℕ) (s : Set) → is_in v (cond b (x ∷ s) s) ≡ ((b && (x == v)) || is_in v s)
in_kept true v x s = refl
in_kept false v x s = refl

one_kept : (q r e b : Bool) → (e ≡ true → q ≡ r) → ((q && e) || (b && r)) ≡ ((e || b) && r)
one_kept q r e b h = grind arith

pub in_filter : (p : ℕ → Bool) (v : ℕ) (s : Set) → is_in v (filter p s) ≡ (is_in v s && p v)
in_filter p v [] = refl
in_filter p v (x ∷ s) =
    in_kept (p x) v x (filter p s) ∙ ap (λ (c : Bool). (p x && (x == v)) || c) (in_filter p v s)
    ∙ one_kept (p x) (p v) (x == v) (is_in v s) (λ e. ap p (eqb-true x v e))

pub rises_numbers : (k n : ℕ) → Rises k (numbers_from k n)
rises_numbers k zero = tt
rises_numbers k (suc n) = (omega arith, rises_numbers (suc k) n)

pub past_not_in : (v k n : ℕ) → k + n ≤ v → is_in v (numbers_from k n) ≡ false
past_not_in v k zero h = refl
past_not_in v k (suc n) h =
    or_from (k == v) (is_in v (numbers_from (suc k) n)) (ne_eqb k v (λ e. omega (arith, h, e))) (past_not_in v (suc k) n (omega (arith, h)))

-- ---- the values of words

pub in_values : (ws : List ℕ) (v : ℕ) → v < 256 → is_in v (values_of ws) ≡ has_bit ws v
unfolding values_of
in_values ws v h = in_filter (has_bit ws) v all_bytes ∙ ap (λ (b : Bool). b && has_bit ws v) (is_byte v h)

pub out_values : (ws : List ℕ) (v : ℕ) → 256 ≤ v → is_in v (values_of ws) ≡ false
unfolding values_of
out_values ws v h = in_filter (has_bit ws) v all_bytes ∙ ap (λ (b : Bool). b && has_bit ws v) (past_not_in v 0 256 (omega (arith, h)))

pub rises_values : (ws : List ℕ) → Rises 0 (values_of ws)
unfolding values_of
rises_values ws = rises_filter (has_bit ws) 0 all_bytes (rises_numbers 0 256)

-- words have the values of an ascending list
pub values_are : (ws : List ℕ) (s : Set) → Rises 0 s → ((v : ℕ) → v < 256 → has_bit ws v ≡ is_in v s) → ((v : ℕ) → 256 ≤ v → is_in v s ≡ false)
    → values_of ws ≡ s
values_are ws s r h o =
    same_values 0 0 (values_of ws) s (rises_values ws) r (λ v. elim (cases_lt v 256) [
      | inl l ↦ in_values ws v l ∙ h v l
      | inr g ↦ out_values ws v g ∙ sym (o v g)
    ])

-- ---- unions

again : (p q i : Bool) → p ≡ q → (q || i) ≡ (p || (q || i))
again p q i e = grind arith

exchanged : (p q i : Bool) → (p || (q || i)) ≡ (q || (p || i))
exchanged p q i = grind arith

in_put : (b c : Bool) (w v x : ℕ) (xs rest : Set) → (v == x) ≡ c → is_in w rest ≡ ((v == w) || is_in w xs)
    → is_in w (put_before b c v x xs rest) ≡ ((v == w) || ((x == w) || is_in w xs))
in_put b c w v x xs rest e h = grind (arith, again, eqb-true, exchanged)

pub in_with : (w v : ℕ) (s : Set) → is_in w (with_value v s) ≡ ((v == w) || is_in w s)
in_with w v [] = refl
in_with w v (x ∷ xs) = in_put (nat_lt v x) (v == x) w v x xs (with_value v xs) refl (in_with w v xs)

rises_put : (b c : Bool) (k v x : ℕ) (xs rest : Set) → nat_lt v x ≡ b → (v == x) ≡ c → k ≤ v → k ≤ x → Rises (suc x) xs → (suc x ≤ v → Rises (suc x) rest)
    → Rises k (put_before b c v x xs rest)
rises_put b c k v x xs rest e f h i r q = grind (arith, ltb-true, ltb-false, cases_lt, eqb-false)

pub rises_with : (k v : ℕ) (s : Set) → k ≤ v → Rises k s → Rises k (with_value v s)
rises_with k v [] h r = (h, tt)
rises_with k v (x ∷ xs) h r =
    rises_put (nat_lt v x) (v == x) k v x xs (with_value v xs) refl refl h r.0 r.1 (λ l. rises_with (suc x) v xs l r.1)

grouped : (p q i : Bool) → (p || (q || i)) ≡ ((p || q) || i)
grouped true q i = refl
grouped false q i = refl

pub in_union : (v : ℕ) (s t : Set) → is_in v (union s t) ≡ (is_in v s || is_in v t)
in_union v [] t = refl
in_union v (x ∷ s) t = in_with v x (union s t) ∙ ap (λ (b : Bool). (x == v) || b) (in_union v s t) ∙ grouped (x == v) (is_in v s) (is_in v t)

pub rises_union : (k : ℕ) (s t : Set) → Rises k s → Rises k t → Rises k (union s t)
rises_union k [] t r q = q
rises_union k (x ∷ s) t r q = rises_with k x (union s t) r.0 (rises_union k s t (rises_lower k (suc x) s (omega (arith, r.0)) r.1) q)

-- ---- operations on words

pub union_is : (ws xs ys : List ℕ) → ((v : ℕ) → v < 256 → has_bit ws v ≡ has_bit xs v || has_bit ys v) → values_of ws ≡ union (values_of xs) (values_of ys)
union_is ws xs ys h =
    values_are ws (union (values_of xs) (values_of ys)) (rises_union 0 (values_of xs) (values_of ys) (rises_values xs) (rises_values ys))
    (λ v l. h v l ∙ sym (in_union v (values_of xs) (values_of ys) ∙ ap (λ (b : Bool). b || is_in v (values_of ys)) (in_values xs v l) ∙ ap (λ (b : Bool). has_bit xs v || b) (in_values ys v l)))
    (λ v g. in_union v (values_of xs) (values_of ys) ∙ or_from (is_in v (values_of xs)) (is_in v (values_of ys)) (out_values xs v g) (out_values ys v g))

pub common_is : (ws xs ys : List ℕ) → ((v : ℕ) → v < 256 → has_bit ws v ≡ has_bit xs v && has_bit ys v) → values_of ws ≡ common (values_of xs) (values_of ys)
common_is ws xs ys h =
    let p = λ (v : ℕ). is_in v (values_of ys) in
    values_are ws (common (values_of xs) (values_of ys)) (rises_filter p 0 (values_of xs) (rises_values xs))
    (λ v l. h v l ∙ sym (in_filter p v (values_of xs) ∙ ap (λ (b : Bool). b && is_in v (values_of ys)) (in_values xs v l) ∙ ap (λ (b : Bool). has_bit xs v && b) (in_values ys v l)))
    (λ v g. in_filter p v (values_of xs) ∙ ap (λ (b : Bool). b && is_in v (values_of ys)) (out_values xs v g))

flipped : (v w : ℕ) → (v == w) ≡ (w == v)
flipped v w = elim (cases_eq v w) [ inl e ↦ eq-eqb v w e ∙ sym (eq-eqb w v (sym e)) | inr n ↦ ne_eqb v w n ∙ sym (ne_eqb w v (λ e. n (sym e))) ]

or_none : (b : Bool) → b ≡ (b || false)
or_none true = refl
or_none false = refl

pub one_is : (ws : List ℕ) (x : ℕ) → x < 256 → ((v : ℕ) → v < 256 → has_bit ws v ≡ (v == x)) → values_of ws ≡ x ∷ []
one_is ws x k h =
    values_are ws (x ∷ []) (omega arith, tt) (λ v l. h v l ∙ flipped v x ∙ or_none (x == v))
    (λ v g. or_from (x == v) false (ne_eqb x v (λ e. omega (arith, g, k, e))) refl)

-- ---- the empty set and the full one

pub none_is : (ws : List ℕ) → ((v : ℕ) → v < 256 → has_bit ws v ≡ false) → values_of ws ≡ []
none_is ws h = values_are ws [] tt h (λ v g. refl)

pub all_are : (ws : List ℕ) → ((v : ℕ) → v < 256 → has_bit ws v ≡ true) → values_of ws ≡ all_bytes
all_are ws h = values_are ws all_bytes (rises_numbers 0 256) (λ v l. h v l ∙ sym (is_byte v l)) (λ v g. past_not_in v 0 256 (omega (arith, g)))

empty_from : (s : Set) → is_empty s ≡ true → s ≡ []
empty_from [] h = refl
empty_from (x ∷ s) h = absurd (cc h)

pub empty_bits : (ws : List ℕ) (v : ℕ) → is_empty (values_of ws) ≡ true → v < 256 → has_bit ws v ≡ false
empty_bits ws v h l = sym (in_values ws v l) ∙ ap (λ (s : Set). is_in v s) (empty_from (values_of ws) h)

-- each value of an ascending list is one from its beginning on
in_from : (v k : ℕ) (s : Set) → Rises k s → is_in v s ≡ true → k ≤ v
in_from v k s r i = elim (cases_lt v k) [ inl l ↦ absurd (both_ways (is_in v s) (lower_not_in v k s r l) i) | inr n ↦ n ]

-- ascending values of which some are left out are fewer
few : (k n : ℕ) (s : Set) → Rises k s → ((v : ℕ) → is_in v s ≡ true → v < k + n) → length s ≤ n
few k n [] r h = omega arith
few k zero (x ∷ s) r h = let l = h x (is_first x s) in absurd (omega (arith, l, r.0))
few k (suc n) (x ∷ s) r h =
    let m = few (suc x) (k + n - x) s r.1 (λ v i. let l = h v (or_right (x == v) (is_in v s) i) in (let f = in_from v (suc x) s r.1 i in omega (arith, l, f))) in
    omega (arith, m, r.0)

full_from : (k n : ℕ) (s : Set) → Rises k s → ((v : ℕ) → is_in v s ≡ true → v < k + n) → n ≤ length s → (w : ℕ) → k ≤ w → w < k + n → is_in w s ≡ true
full_from k zero s r h l w a b = absurd (omega (arith, a, b))
full_from k (suc n) [] r h l w a b = absurd (omega (arith, l))
full_from k (suc n) (x ∷ s) r h l w a b =
    let m = few (suc x) (k + n - x) s r.1 (λ v i. let q = h v (or_right (x == v) (is_in v s) i) in (let f = in_from v (suc x) s r.1 i in omega (arith, q, f))) in
    let z = h x (is_first x s) in
    let e : x ≡ k = omega (arith, m, l, r.0, z) in
    elim (cases_eq x w) [
      | inl i ↦ or_left (x == w) (is_in w s) (eq-eqb x w i)
      | inr i ↦ or_right (x == w) (is_in w s) (full_from (suc x) n s r.1 (λ v j. let q = h v (or_right (x == v) (is_in v s) j) in omega (arith, q, e)) (omega (arith, l)) w (omega (arith, a, i, e)) (omega (arith, b, e)))
    ]

byte_in : (ws : List ℕ) (v : ℕ) → is_in v (values_of ws) ≡ true → v < 256
byte_in ws v i = elim (cases_lt v 256) [ inl l ↦ l | inr g ↦ absurd (both_ways (is_in v (values_of ws)) (out_values ws v g) i) ]

pub full_bits : (ws : List ℕ) (v : ℕ) → is_full (values_of ws) ≡ true → v < 256 → has_bit ws v ≡ true
full_bits ws v h l =
    sym (in_values ws v l) ∙ full_from 0 256 (values_of ws) (rises_values ws) (λ w i. byte_in ws w i) (leb-true 256 (length (values_of ws)) h) v (omega arith) (omega (arith, l))

-- ---- subsets

all_in : (s t : Set) → ((v : ℕ) → is_in v s ≡ true → is_in v t ≡ true) → is_subset s t ≡ true
all_in [] t h = refl
all_in (x ∷ s) t h = and_from (is_in x t) (is_subset s t) (h x (is_first x s)) (all_in s t (λ v i. h v (or_right (x == v) (is_in v s) i)))

pub subset_from : (xs ys : List ℕ) → ((v : ℕ) → v < 256 → has_bit xs v ≡ true → has_bit ys v ≡ true) → is_subset (values_of xs) (values_of ys) ≡ true
subset_from xs ys h =
    all_in (values_of xs) (values_of ys) (λ v i. let l = byte_in xs v i in in_values ys v l ∙ h v l (sym (in_values xs v l) ∙ i))

pub subset_bits : (xs ys : List ℕ) (v : ℕ) → is_subset (values_of xs) (values_of ys) ≡ true → v < 256 → has_bit xs v ≡ true → has_bit ys v ≡ true
subset_bits xs ys v h l i = sym (in_values ys v l) ∙ in_larger v (values_of xs) (values_of ys) h (in_values xs v l ∙ i)

-- a set that is not full has not every value
pub not_full : (ws : List ℕ) → is_full (values_of ws) ≡ false → is_subset all_bytes (values_of ws) ≡ false
not_full ws h = elim (cases_Bool (is_subset all_bytes (values_of ws))) [
  | inr e ↦ e
  | inl e ↦
      let a = all_are ws (λ v l. sym (in_values ws v l) ∙ in_larger v all_bytes (values_of ws) e (is_byte v l)) in
      absurd (both_ways (is_full (values_of ws)) h (ap is_full a))
]

-- ---- the least value and the only one

least_by : (x m : ℕ) (s : Set) → Rises (suc x) s → is_in m (x ∷ s) ≡ true → ((v : ℕ) → v < m → is_in v (x ∷ s) ≡ false) → x ≡ m
least_by x m s r i h = elim (cases_lt x m) [
  | inl l ↦ absurd (both_ways (is_in x (x ∷ s)) (h x l) (is_first x s))
  | inr n ↦ elim (cases_lt m x) [ inl l ↦ absurd (both_ways (is_in m (x ∷ s)) (lower_not_in m x (x ∷ s) (omega arith, r) l) i) | inr k ↦ omega (arith, n, k) ]
]

least_of : (k m : ℕ) (s : Set) → Rises k s → is_in m s ≡ true → ((v : ℕ) → v < m → is_in v s ≡ false) → least_value s ≡ Some m
least_of k m [] r i h = absurd (cc i)
least_of k m (x ∷ s) r i h = ap Some (least_by x m s r.1 i h)

pub least_is : (ws : List ℕ) (m : ℕ) → m < 256 → has_bit ws m ≡ true → ((v : ℕ) → v < m → has_bit ws v ≡ false) → least_value (values_of ws) ≡ Some m
least_is ws m l i h =
    least_of 0 m (values_of ws) (rises_values ws) (in_values ws m l ∙ i) (λ v k. in_values ws v (omega (arith, k, l)) ∙ h v k)

pub only_is : (s : Set) → length s ≡ 1 → least_value s ≡ only_value s
only_is s h = grind arith

pub only_none : (s : Set) → (length s ≡ 1 → ⊥) → only_value s ≡ None
only_none s h = grind arith

pub full_is : values_of ((2 ^ 64 - 1) ∷ (2 ^ 64 - 1) ∷ (2 ^ 64 - 1) ∷ (2 ^ 64 - 1) ∷ []) ≡ all_bytes
full_is = all_are ((2 ^ 64 - 1) ∷ (2 ^ 64 - 1) ∷ (2 ^ 64 - 1) ∷ (2 ^ 64 - 1) ∷ []) (λ v l. full_words v l)

-- ---- tests by what is left out

either_way : (b c : Bool) → (b ≡ true → c ≡ true) → (c ≡ true → b ≡ true) → b ≡ c
either_way b c f g = grind arith

not_left : (x y : Bool) → (x && not y) ≡ false → x ≡ true → y ≡ true
not_left x y h i = grind arith

left_none : (x y : Bool) → (x ≡ true → y ≡ true) → (x && not y) ≡ false
left_none x y f = grind arith

-- a set is within another if no value of it is left out
pub within_is : (ws xs ys : List ℕ) → ((v : ℕ) → v < 256 → has_bit ws v ≡ has_bit xs v && not (has_bit ys v))
    → is_empty (values_of ws) ≡ is_subset (values_of xs) (values_of ys)
within_is ws xs ys h = grind (arith, either_way, subset_from, not_left, empty_bits, none_is, left_none, subset_bits)

not_none : (b : Bool) → not b ≡ false → b ≡ true
not_none true h = refl
not_none false h = absurd (cc h)

-- a set is full if no value is left out
pub full_if : (ws xs : List ℕ) → ((v : ℕ) → v < 256 → has_bit ws v ≡ not (has_bit xs v)) → is_empty (values_of ws) ≡ is_full (values_of xs)
full_if ws xs h = grind (arith, either_way, all_are, not_none, empty_bits, none_is, full_bits)

-- words that are zero, and only they, have no value
pub empty_if : (ws : List ℕ) (n : ℕ) → (n ≡ 0 → (v : ℕ) → v < 256 → has_bit ws v ≡ false) → (((v : ℕ) → v < 256 → has_bit ws v ≡ false) → n ≡ 0)
    → (n == 0) ≡ is_empty (values_of ws)
empty_if ws n f g =
    either_way (n == 0) (is_empty (values_of ws)) (λ e. ap is_empty (none_is ws (f (eqb-true n 0 e)))) (λ e. eq-eqb n 0 (g (λ v l. empty_bits ws v e l)))
