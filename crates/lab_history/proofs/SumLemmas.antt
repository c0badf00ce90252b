-- Sums by their names and by their places, and a block in which one is moved.
use Rattle.std.proofs.Common.{◌≡◌, ℕ, zero, suc, ◌+◌, ◌*◌, ◌%◌, ◌^◌, ◌<◌, Bool, true, false, cond, not, List, [], ◌∷◌, length, Some, refl, sym, ◌∙◌, ap, subst, arith}
use Rattle.std.specs.Prelude.{◌&&◌, ◌||◌, ◌==◌, bytes_eq, slice_get, unwrap_or}
use Rattle.std.proofs.lemmas.Slice.Eq.{bytes_eq-Decides}
use Rattle.model_device.specs.Bytes.{num}
use Rattle.lab_app_rules.specs.model_rules.specs.Rules.{SumLine}
use Rattle.lab_app_rules.specs.model_rules.specs.Keeping.{Sum, added_by, added_to, after_sum_line, amount_in, moved_sum, taken_by, taken_from}
use Rattle.lab_app_rules.specs.declared.rules.SignedSum.{SignedSum}
use Rattle.lab_app_rules.specs.Rules.{is_named, AreDistinct}
use Rattle.lab_history.specs.Blocks.{count_of_added, count_of_taken, is_same}
use Rattle.lab_history.specs.Moves.{IsMoved}
use Rattle.lab_history.specs.Sums.{names_of, terms_by, AreWithin, IsSummed}
use Rattle.lab_history.proofs.BlockLemmas.{moved_by}

-- ---- names

none_by : (n k : List ℕ) (ns : List (List ℕ)) (i : ℕ) (m : List ℕ) (b : Bool) → bytes_eq k n ≡ b → (b || is_named n ns) ≡ false → ((j : ℕ) → is_named n ns ≡ false → slice_get ns j ≡ Some m → bytes_eq m n ≡ false)
    → slice_get (k ∷ ns) i ≡ Some m → bytes_eq m n ≡ false
none_by n k ns i m true e h again g = absurd (cc h)
none_by n k ns zero m false e h again g = let same : k ≡ m = ap (λ o. unwrap_or o []) g in ap (λ l. bytes_eq l n) (sym same) ∙ e
none_by n k ns (suc i) m false e h again g = again i h g

none_named : (n : List ℕ) (ns : List (List ℕ)) (i : ℕ) (m : List ℕ) → is_named n ns ≡ false → slice_get ns i ≡ Some m → bytes_eq m n ≡ false
none_named n [] i m h g = absurd (cc g)
none_named n (k ∷ ns) i m h g = none_by n k ns i m (bytes_eq k n) refl h (λ j e f. none_named n ns j m e f) g

turned_by : (a b : List ℕ) (x : Bool) → bytes_eq a b ≡ false → bytes_eq b a ≡ x → x ≡ false
turned_by a b false h e = refl
turned_by a b true h e = absurd (cc (sym ((bytes_eq-Decides a b).1 (sym ((bytes_eq-Decides b a).0 e))) ∙ h))

turned : (a b : List ℕ) → bytes_eq a b ≡ false → bytes_eq b a ≡ false
turned a b h = turned_by a b (bytes_eq b a) h refl

same_name : (a b : List ℕ) → a ≡ b → bytes_eq a b ≡ true
same_name a b e = (bytes_eq-Decides a b).1 e

next_by : (i j : ℕ) (b : Bool) → (i == j) ≡ b → (suc i == suc j) ≡ b
next_by i j true e = grind (arith, e)
next_by i j false e = grind (arith, e)

-- different places have different names
place_is : (ns : List (List ℕ)) (i j : ℕ) (a b : List ℕ) → AreDistinct ns → slice_get ns i ≡ Some a → slice_get ns j ≡ Some b → bytes_eq a b ≡ (i == j)
place_is [] i j a b d g h = absurd (cc g)
place_is (n ∷ ns) zero zero a b d g h = same_name a b (sym (ap (λ o. unwrap_or o []) g) ∙ ap (λ o. unwrap_or o []) h)
place_is (n ∷ ns) zero (suc j) a b d g h =
    let same : n ≡ a = ap (λ o. unwrap_or o []) g in
    let other : (0 == suc j) ≡ false = grind arith in
    turned b a (ap (bytes_eq b) (sym same) ∙ none_named n ns j b d.0 h) ∙ sym other
place_is (n ∷ ns) (suc i) zero a b d g h =
    let same : n ≡ b = ap (λ o. unwrap_or o []) h in
    let other : (suc i == 0) ≡ false = grind arith in
    ap (bytes_eq a) (sym same) ∙ none_named n ns i a d.0 g ∙ sym other
place_is (n ∷ ns) (suc i) (suc j) a b d g h = place_is ns i j a b d.1 g h ∙ sym (next_by i j (i == j) refl)

-- the name at a place
name_at : (ns : List (List ℕ)) (i : ℕ) → i < length ns → slice_get ns i ≡ Some (unwrap_or (slice_get ns i) [])
name_at [] i h = absurd (omega (arith, h))
name_at (n ∷ ns) zero h = refl
name_at (n ∷ ns) (suc i) h = name_at ns i (omega (arith, h))

names_length : (sums : List Sum) → length (names_of sums) ≡ length sums
names_length [] = refl
names_length (s ∷ ss) = ap suc (names_length ss)

-- ---- the value of a sum under a name

-- of the first one with this name
abbrev found : (Sum → ℕ) → List Sum → List ℕ → ℕ
found f [] name = 0
found f (s ∷ ss) name = cond (bytes_eq s.name name) (f s) (found f ss name)

found_added : (ss : List Sum) (name : List ℕ) → added_to ss name ≡ found (λ s. s.added) ss name
found_added [] name = refl
found_added (s ∷ ss) name = ap (cond (bytes_eq s.name name) s.added) (found_added ss name)

found_taken : (ss : List Sum) (name : List ℕ) → taken_from ss name ≡ found (λ s. s.taken) ss name
found_taken [] name = refl
found_taken (s ∷ ss) name = ap (cond (bytes_eq s.name name) s.taken) (found_taken ss name)

-- what a sum has more: k if it is the one that is moved, and moved this way
abbrev more_of : Bool → Bool → ℕ → ℕ
more_of own way k = cond (own && way) k 0

added_more : (own adds : Bool) (k : ℕ) (s : Sum) → (cond own (moved_sum adds k s) s).added ≡ s.added + more_of own adds k
added_more true true k s = refl
added_more true false k s = omega arith
added_more false adds k s = omega arith

taken_more : (own adds : Bool) (k : ℕ) (s : Sum) → (cond own (moved_sum adds k s) s).taken ≡ s.taken + more_of own (not adds) k
taken_more true true k s = omega arith
taken_more true false k s = refl
taken_more false adds k s = omega arith

name_kept : (own adds : Bool) (k : ℕ) (s : Sum) → (cond own (moved_sum adds k s) s).name ≡ s.name
name_kept true true k s = refl
name_kept true false k s = refl
name_kept false adds k s = refl

-- ---- a sum that is moved

module _ (l : SumLine) (public : List ℕ) where
  abbrev moved : Sum → Sum
  moved s = cond (bytes_eq s.name l.name) (moved_sum l.adds (amount_in public l.amount) s) s

  -- its value and those of the others, by what a move does to one
  module _ (f : Sum → ℕ) (way : Bool) (one : (s : Sum) → f (moved s) ≡ f s + more_of (bytes_eq s.name l.name) way (amount_in public l.amount)) where
    found_by : (s : Sum) (ss : List Sum) (i : ℕ) (name : List ℕ) (c : Bool) → bytes_eq s.name name ≡ c → slice_get (s.name ∷ names_of ss) i ≡ Some name
        → ((j : ℕ) → slice_get (names_of ss) j ≡ Some name → found f (after_sum_line l public ss) name ≡ found f ss name + more_of (bytes_eq name l.name) way (amount_in public l.amount))
        → cond (bytes_eq s.name name) (f (moved s)) (found f (after_sum_line l public ss) name) ≡ cond (bytes_eq s.name name) (f s) (found f ss name) + more_of (bytes_eq name l.name) way (amount_in public l.amount)
    found_by s ss i name true e g again =
        let same : s.name ≡ name = (bytes_eq-Decides s.name name).0 e in
        ap (λ c. cond c (f (moved s)) (found f (after_sum_line l public ss) name)) e ∙ one s
        ∙ ap (λ n. f s + more_of (bytes_eq n l.name) way (amount_in public l.amount)) same
        ∙ ap (λ c. cond c (f s) (found f ss name) + more_of (bytes_eq name l.name) way (amount_in public l.amount)) (sym e)
    found_by s ss zero name false e g again = absurd (cc (sym (same_name s.name name (ap (λ o. unwrap_or o []) g)) ∙ e))
    found_by s ss (suc i) name false e g again =
        ap (λ c. cond c (f (moved s)) (found f (after_sum_line l public ss) name)) e ∙ again i g
        ∙ ap (λ c. cond c (f s) (found f ss name) + more_of (bytes_eq name l.name) way (amount_in public l.amount)) (sym e)

    found_moved : (ss : List Sum) (i : ℕ) (name : List ℕ) → slice_get (names_of ss) i ≡ Some name → found f (after_sum_line l public ss) name ≡ found f ss name + more_of (bytes_eq name l.name) way (amount_in public l.amount)
    found_moved [] i name g = absurd (cc g)
    found_moved (s ∷ ss) i name g =
        ap (λ n. cond (bytes_eq n name) (f (moved s)) (found f (after_sum_line l public ss) name)) (name_kept (bytes_eq s.name l.name) l.adds (amount_in public l.amount) s)
        ∙ found_by s ss i name (bytes_eq s.name name) refl g (λ j h. found_moved ss j name h)

  added_after : (ss : List Sum) (i : ℕ) (name : List ℕ) → slice_get (names_of ss) i ≡ Some name → added_to (after_sum_line l public ss) name ≡ added_to ss name + more_of (bytes_eq name l.name) l.adds (amount_in public l.amount)
  added_after ss i name g =
      let k = amount_in public l.amount in
      found_added (after_sum_line l public ss) name
      ∙ found_moved (λ s. s.added) l.adds (λ s. added_more (bytes_eq s.name l.name) l.adds k s) ss i name g
      ∙ ap (λ n. n + more_of (bytes_eq name l.name) l.adds k) (sym (found_added ss name))

  taken_after : (ss : List Sum) (i : ℕ) (name : List ℕ) → slice_get (names_of ss) i ≡ Some name → taken_from (after_sum_line l public ss) name ≡ taken_from ss name + more_of (bytes_eq name l.name) (not l.adds) (amount_in public l.amount)
  taken_after ss i name g =
      let k = amount_in public l.amount in
      found_taken (after_sum_line l public ss) name
      ∙ found_moved (λ s. s.taken) (not l.adds) (λ s. taken_more (bytes_eq s.name l.name) l.adds k s) ss i name g
      ∙ ap (λ n. n + more_of (bytes_eq name l.name) (not l.adds) k) (sym (found_taken ss name))

-- ---- terms

-- a term of a sum, or of another one
term_added : (minus takes own : Bool) (k a t b u : ℕ) → b ≡ a + more_of own (not takes) k → u ≡ t + more_of own (not (not takes)) k → cond (not minus) b u ≡ cond (not minus) a t + k * cond (own && is_same minus takes) 1 0
term_added true true true k a t b u e f = omega (arith, e, f)
term_added true true false k a t b u e f = omega (arith, e, f)
term_added true false true k a t b u e f = omega (arith, e, f)
term_added true false false k a t b u e f = omega (arith, e, f)
term_added false true true k a t b u e f = omega (arith, e, f)
term_added false true false k a t b u e f = omega (arith, e, f)
term_added false false true k a t b u e f = omega (arith, e, f)
term_added false false false k a t b u e f = omega (arith, e, f)

term_taken : (minus takes own : Bool) (k a t b u : ℕ) → b ≡ a + more_of own (not takes) k → u ≡ t + more_of own (not (not takes)) k → cond (not minus) u b ≡ cond (not minus) t a + k * cond (own && not (is_same minus takes)) 1 0
term_taken true true true k a t b u e f = omega (arith, e, f)
term_taken true true false k a t b u e f = omega (arith, e, f)
term_taken true false true k a t b u e f = omega (arith, e, f)
term_taken true false false k a t b u e f = omega (arith, e, f)
term_taken false true true k a t b u e f = omega (arith, e, f)
term_taken false true false k a t b u e f = omega (arith, e, f)
term_taken false false true k a t b u e f = omega (arith, e, f)
term_taken false false false k a t b u e f = omega (arith, e, f)

sum_of : (k c d x y a b : ℕ) → c ≡ x + k * d → a ≡ b + k * y → c + a ≡ (x + b) + k * (d + y)
sum_of k c d x y a b e f =
    let w : k * (d + y) ≡ k * d + k * y = omega arith in
    omega (arith, e, f, w)

module _ (l : SumLine) (public : List ℕ) (sums : List Sum) (place : ℕ) (takes : Bool) (distinct : AreDistinct (names_of sums)) (named : slice_get (names_of sums) place ≡ Some l.name) (adds : l.adds ≡ not takes) where
  -- a term by its place
  own_is : (t : SignedSum) → t.sum < length sums → bytes_eq (unwrap_or (slice_get (names_of sums) t.sum) []) l.name ≡ (t.sum == place)
  own_is t h =
      let low : t.sum < length (names_of sums) = subst (λ (n : ℕ). t.sum < n) (sym (names_length sums)) h in
      place_is (names_of sums) t.sum place (unwrap_or (slice_get (names_of sums) t.sum) []) l.name distinct (name_at (names_of sums) t.sum low) named

  added_of : (t : SignedSum) → t.sum < length sums → added_to (after_sum_line l public sums) (unwrap_or (slice_get (names_of sums) t.sum) []) ≡ added_to sums (unwrap_or (slice_get (names_of sums) t.sum) []) + more_of (t.sum == place) (not takes) (amount_in public l.amount)
  added_of t h =
      let name = unwrap_or (slice_get (names_of sums) t.sum) [] in
      let k = amount_in public l.amount in
      let low : t.sum < length (names_of sums) = subst (λ (n : ℕ). t.sum < n) (sym (names_length sums)) h in
      added_after l public sums t.sum name (name_at (names_of sums) t.sum low)
      ∙ ap (λ b. added_to sums name + more_of b l.adds k) (own_is t h)
      ∙ ap (λ b. added_to sums name + more_of (t.sum == place) b k) adds

  taken_of : (t : SignedSum) → t.sum < length sums → taken_from (after_sum_line l public sums) (unwrap_or (slice_get (names_of sums) t.sum) []) ≡ taken_from sums (unwrap_or (slice_get (names_of sums) t.sum) []) + more_of (t.sum == place) (not (not takes)) (amount_in public l.amount)
  taken_of t h =
      let name = unwrap_or (slice_get (names_of sums) t.sum) [] in
      let k = amount_in public l.amount in
      let low : t.sum < length (names_of sums) = subst (λ (n : ℕ). t.sum < n) (sym (names_length sums)) h in
      taken_after l public sums t.sum name (name_at (names_of sums) t.sum low)
      ∙ ap (λ b. taken_from sums name + more_of b (not l.adds) k) (own_is t h)
      ∙ ap (λ b. taken_from sums name + more_of (t.sum == place) (not b) k) adds

  all_added : (ts : List SignedSum) → AreWithin (length sums) ts
      → added_by (after_sum_line l public sums) (terms_by (names_of sums) ts) ≡ added_by sums (terms_by (names_of sums) ts) + amount_in public l.amount * count_of_added ts place takes
  all_added [] h = omega arith
  all_added (t ∷ ts) h =
      let name = unwrap_or (slice_get (names_of sums) t.sum) [] in
      let k = amount_in public l.amount in
      let now = after_sum_line l public sums in
      sum_of k (cond (not t.minus) (added_to now name) (taken_from now name)) (cond (t.sum == place && is_same t.minus takes) 1 0) (cond (not t.minus) (added_to sums name) (taken_from sums name)) (count_of_added ts place takes)
      (added_by now (terms_by (names_of sums) ts)) (added_by sums (terms_by (names_of sums) ts))
      (term_added t.minus takes (t.sum == place) k (added_to sums name) (taken_from sums name) (added_to now name) (taken_from now name) (added_of t h.0) (taken_of t h.0))
      (all_added ts h.1)

  all_taken : (ts : List SignedSum) → AreWithin (length sums) ts
      → taken_by (after_sum_line l public sums) (terms_by (names_of sums) ts) ≡ taken_by sums (terms_by (names_of sums) ts) + amount_in public l.amount * count_of_taken ts place takes
  all_taken [] h = omega arith
  all_taken (t ∷ ts) h =
      let name = unwrap_or (slice_get (names_of sums) t.sum) [] in
      let k = amount_in public l.amount in
      let now = after_sum_line l public sums in
      sum_of k (cond (not t.minus) (taken_from now name) (added_to now name)) (cond (t.sum == place && not (is_same t.minus takes)) 1 0) (cond (not t.minus) (taken_from sums name) (added_to sums name)) (count_of_taken ts place takes)
      (taken_by now (terms_by (names_of sums) ts)) (taken_by sums (terms_by (names_of sums) ts))
      (term_taken t.minus takes (t.sum == place) k (added_to sums name) (taken_from sums name) (added_to now name) (taken_from now name) (added_of t h.0) (taken_of t h.0))
      (all_taken ts h.1)

  -- a block in which the sum is moved
  pub block_is : (ts : List SignedSum) (constant : ℕ) (old new : List ℕ) → AreWithin (length sums) ts → IsMoved ts place takes (amount_in public l.amount) old new → IsSummed sums (terms_by (names_of sums) ts) constant old
      → IsSummed (after_sum_line l public sums) (terms_by (names_of sums) ts) constant new
  block_is ts constant old new within moved before =
      let k = amount_in public l.amount in
      let terms = terms_by (names_of sums) ts in
      let all = moved_by (256 ^ length old) constant (num old) (num new) (k * count_of_added ts place takes) (k * count_of_taken ts place takes) (added_by sums terms) (taken_by sums terms) before moved.number in
      let now = subst (λ (t : ℕ). (num new + t) % 256 ^ length old ≡ (constant + (added_by sums terms + k * count_of_added ts place takes)) % 256 ^ length old) (sym (all_taken ts within)) all in
      let both = subst (λ (a : ℕ). (num new + taken_by (after_sum_line l public sums) terms) % 256 ^ length old ≡ (constant + a) % 256 ^ length old) (sym (all_added ts within)) now in
      subst (λ (n : ℕ). (num new + taken_by (after_sum_line l public sums) terms) % 256 ^ n ≡ (constant + added_by (after_sum_line l public sums) terms) % 256 ^ n) (sym moved.size) both
