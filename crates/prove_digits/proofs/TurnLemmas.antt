-- Sums and differences: the values below a number make one carry, the others the other one, and all move alike.
use Rattle.std.specs.Prelude.{◌≡◌, ℕ, ◌+◌, ◌-◌, ◌%◌, ◌<◌, ◌≤◌, Bool, true, false, cond, not, ◌&&◌, ◌||◌, nat_lt, nat_le, ◌==◌, [], ◌∷◌, refl}
use Rattle.std.proofs.Common.{arith, ap, sym, ◌∙◌}
use Rattle.std.proofs.lemmas.Bool.{and_parts, and_left, cases_lt, cases_eq, eq-eqb, ne_eqb, lt-ltb, le-ltb, le-leb, lt-leb, eqb-true}
use Rattle.prove_facts.specs.model_prove.specs.Sets.{Set, is_in, is_empty, common}
use Rattle.prove_facts.specs.model_prove.specs.Digits.{Operation, Plus, Minus, carried, digit, same, Digits}
use Rattle.prove_facts.specs.model_prove.proofs.SetLemmas.{is_first}
use Rattle.prove_facts.specs.Sets.{set_of, has_value}
use Rattle.prove_facts.specs.declared.values.Values.{Values}
use Rattle.prove_facts.proofs.SetLemmas.{in_filter, in_values, out_values}
use Rattle.prove_digits.specs.Trios.{IsGrown, leads_on, sum_of}
use Rattle.prove_digits.proofs.MemberLemmas.{byte_of}
use Rattle.prove_digits.proofs.GrowLemmas.{AreMade, grown_alike}

-- a test by whether a zero is wanted
abbrev pub zero_test : Bool → Bool → Bool
zero_test true b = b
zero_test false b = not b

-- flags agree on a zero if the test for it passes
pub same_zero : (z b : Bool) → same b z ≡ zero_test z b
same_zero z b = grind arith

-- ---- what two sets have in common

in_common : (v : ℕ) (s t : Set) → is_in v (common s t) ≡ (is_in v s && is_in v t)
in_common v s t = in_filter (λ w. is_in w t) v s

-- a set is what another has of the values that pass a test
pub common_by : (set part mask : Values) (test : ℕ → Bool) → set_of set ≡ common (set_of part) (set_of mask) → ((v : ℕ) → v < 256 → has_value mask v ≡ test v)
    → (v : ℕ) → is_in v (set_of set) ≡ (is_in v (set_of part) && test v)
common_by set part mask test e h v = grind (arith, in_common, cases_lt, in_values, out_values, and_left)

-- ---- one part

zero_at : (x e by : ℕ) → x < 256 → e < 256 → by < 256 → (e + by) % 256 ≡ 0 → (x == e) ≡ ((x + by) % 256 == 0)
zero_at x e by l k n h = grind (arith, cases_eq, eq-eqb, ne_eqb)

-- the values that do not become zero
pub other_made : (part rest end others moved : Values) (by e : ℕ) → by < 256 → e < 256 → (e + by) % 256 ≡ 0
    → ((v : ℕ) → v < 256 → has_value end v ≡ (v == e)) → ((v : ℕ) → v < 256 → has_value others v ≡ not (has_value end v))
    → set_of rest ≡ common (set_of part) (set_of others) → ((v : ℕ) → v < 256 → has_value moved v ≡ has_value rest ((v + 256 - by) % 256))
    → AreMade (λ x. is_in x (set_of part) && not ((x + by) % 256 == 0)) (λ x. (x + by) % 256) (set_of rest) (set_of moved)
other_made part rest end others moved by e l k n h o c m =
    record {
      test_is = common_by rest part others (λ x. not ((x + by) % 256 == 0)) c (λ v q. o v q ∙ ap not (h v q ∙ zero_at v e by q k l n));
      made = grind (arith, byte_of, in_values);
      from = λ r i s.
          let q = byte_of moved r i in
          let w : (r + 256 - by) % 256 < 256 = omega arith in
          let on : ((r + 256 - by) % 256 + by) % 256 ≡ r = omega (arith, q, l) in
          ((r + 256 - by) % 256, in_values rest.words ((r + 256 - by) % 256) w ∙ sym (m r q) ∙ sym (in_values moved.words r q) ∙ i, on);
    }

first_in : (s : Set) → is_empty s ≡ false → (x : ℕ) × (is_in x s ≡ true)
first_in [] h = absurd (cc h)
first_in (x ∷ s) h = (x, is_first x s)

or_only : (b : Bool) → (b || false) ≡ true → b ≡ true
or_only true h = refl
or_only false h = h

zero_only : (r : ℕ) (rs : Set) → rs ≡ 0 ∷ [] → is_in r rs ≡ true → r ≡ 0
zero_only r rs e h = sym (eqb-true 0 r (or_only (0 == r) (sym (ap (λ (s : Set). is_in r s) e) ∙ h)))

-- values that become zero
pub zeros_made : (test : ℕ → Bool) (make : ℕ → ℕ) (xs rs : Set) → ((x : ℕ) → is_in x xs ≡ test x) → ((x : ℕ) → is_in x xs ≡ true → make x ≡ 0) → rs ≡ 0 ∷ []
    → AreMade test make xs rs
zeros_made test make xs rs h z e = grind (arith, first_in, zero_only)

-- of a part only the value that a number takes to zero makes a zero
pub zero_made : (part zero end : Values) (rs : Set) (by e : ℕ) → by < 256 → e < 256 → (e + by) % 256 ≡ 0
    → ((v : ℕ) → v < 256 → has_value end v ≡ (v == e)) → set_of zero ≡ common (set_of part) (set_of end) → rs ≡ 0 ∷ []
    → AreMade (λ x. is_in x (set_of part) && ((x + by) % 256 == 0)) (λ x. (x + by) % 256) (set_of zero) rs
zero_made part zero end rs by e l k n h c s =
    let t = common_by zero part end (λ x. (x + by) % 256 == 0) c (λ v q. h v q ∙ zero_at v e by q k l n) in
    zeros_made (λ x. is_in x (set_of part) && ((x + by) % 256 == 0)) (λ x. (x + by) % 256) (set_of zero) rs t
    (λ x i. eqb-true ((x + by) % 256) 0 (and_parts (is_in x (set_of part)) ((x + by) % 256 == 0) (sym (t x) ∙ i)).1) s

-- ---- both parts

regrouped : (a p q r z : Bool) → p ≡ q → r ≡ z → ((a && p) && z) ≡ (a && (q && r))
regrouped true p q r z h k = ap (λ (b : Bool). b && z) h ∙ ap (λ (b : Bool). q && b) (sym k)
regrouped false p q r z h k = refl

part_grows : (op : Operation) (carry c z : Bool) (xs part : Set) (y by : ℕ) (in_part : ℕ → Bool) (d e : Digits) → ((x : ℕ) → is_in x part ≡ (is_in x xs && in_part x))
    → ((x : ℕ) → in_part x ≡ same (digit op x y carry).1 c) → ((x : ℕ) → (x + by) % 256 ≡ (digit op x y carry).0)
    → IsGrown d e (λ x. is_in x part && zero_test z ((x + by) % 256 == 0)) y (λ x. (x + by) % 256)
    → IsGrown d e (λ x. is_in x xs && leads_on op carry c z x y) y (λ x. (digit op x y carry).0)
part_grows op carry c z xs part y by in_part d e p q r g = grind (arith, grown_alike, regrouped, same_zero)

-- the part that makes a carry
abbrev pub part_with : Bool → Bool → Set → Set → Set
part_with true true below above = below
part_with true false below above = above
part_with false true below above = above
part_with false false below above = below

same_true : (b : Bool) → same b true ≡ b
same_true true = refl
same_true false = refl

same_false : (b : Bool) → same b false ≡ not b
same_false true = refl
same_false false = refl

plus_below : (x k : ℕ) → k ≤ 256 → nat_lt x (256 - k) ≡ not (nat_le 256 (x + k))
plus_below x k h = grind (arith, cases_lt, lt-ltb, lt-leb, le-ltb, le-leb)

not_not : (b : Bool) → not (not b) ≡ b
not_not true = refl
not_not false = refl

small_carry : (c : Bool) → carried c ≤ 1
small_carry true = omega arith
small_carry false = omega arith

added : (x y k by : ℕ) → by ≡ (y + k) % 256 → (x + by) % 256 ≡ (x + y + k) % 256
added x y k by e = omega (arith, e)

taken : (x y k by : ℕ) → y + k ≤ 256 → by ≡ (256 - (y + k)) % 256 → (x + by) % 256 ≡ (256 + x - y - k) % 256
taken x y k by h e = omega (arith, e, h)

together : (x y k : ℕ) → x + (y + k) ≡ x + y + k
together x y k = omega arith

-- the digits of a sum or a difference grow by what leads from flags to flags if each part does
pub moves_grow : (b carry : Bool) (xs below above : Set) (y by split : ℕ) (d e : Bool → Bool → Digits) → y < 256
    → split ≡ cond b (y + carried carry) (256 - (y + carried carry)) → by ≡ cond b ((256 - (y + carried carry)) % 256) ((y + carried carry) % 256)
    → ((x : ℕ) → is_in x below ≡ (is_in x xs && nat_lt x split)) → ((x : ℕ) → is_in x above ≡ (is_in x xs && not (nat_lt x split)))
    → ((c z : Bool) → IsGrown (d c z) (e c z) (λ x. is_in x (part_with b c below above) && zero_test z ((x + by) % 256 == 0)) y (λ x. (x + by) % 256))
    → (c z : Bool) → IsGrown (d c z) (e c z) (λ x. is_in x xs && leads_on (sum_of b) carry c z x y) y (λ x. (digit (sum_of b) x y carry).0)
moves_grow true carry xs below above y by split d e l s m p q g true z =
    part_grows Minus carry true z xs below y by (λ x. nat_lt x split) (d true z) (e true z) p
    (λ x. ap (λ (n : ℕ). nat_lt x n) s ∙ sym (same_true (nat_lt x (y + carried carry))))
    (λ x. let k = small_carry carry in taken x y (carried carry) by (omega (arith, l, k)) m) (g true z)
moves_grow true carry xs below above y by split d e l s m p q g false z =
    part_grows Minus carry false z xs above y by (λ x. not (nat_lt x split)) (d false z) (e false z) q
    (λ x. ap (λ (n : ℕ). not (nat_lt x n)) s ∙ sym (same_false (nat_lt x (y + carried carry))))
    (λ x. let k = small_carry carry in taken x y (carried carry) by (omega (arith, l, k)) m) (g false z)
moves_grow false carry xs below above y by split d e l s m p q g false z =
    let k = small_carry carry in
    let w : y + carried carry ≤ 256 = omega (arith, l, k) in
    part_grows Plus carry false z xs below y by (λ x. nat_lt x split) (d false z) (e false z) p
    (λ x. ap (λ (n : ℕ). nat_lt x n) s ∙ plus_below x (y + carried carry) w
    ∙ ap (λ (n : ℕ). not (nat_le 256 n)) (together x y (carried carry)) ∙ sym (same_false (nat_le 256 (x + y + carried carry))))
    (λ x. added x y (carried carry) by m) (g false z)
moves_grow false carry xs below above y by split d e l s m p q g true z =
    let k = small_carry carry in
    let w : y + carried carry ≤ 256 = omega (arith, l, k) in
    part_grows Plus carry true z xs above y by (λ x. not (nat_lt x split)) (d true z) (e true z) q
    (λ x. ap (λ (n : ℕ). not (nat_lt x n)) s ∙ ap not (plus_below x (y + carried carry) w) ∙ not_not (nat_le 256 (x + (y + carried carry)))
    ∙ ap (λ (n : ℕ). nat_le 256 n) (together x y (carried carry)) ∙ sym (same_true (nat_le 256 (x + y + carried carry))))
    (λ x. added x y (carried carry) by m) (g true z)

-- the parts that a byte's turn grows by
pub parts_true : (s : Bool) (below above : Set) (y by : ℕ) (d e : Bool → Bool → Digits) → s ≡ true
    → IsGrown (d false false) (e false false) (λ x. is_in x above && not ((x + by) % 256 == 0)) y (λ x. (x + by) % 256)
    → IsGrown (d false true) (e false true) (λ x. is_in x above && ((x + by) % 256 == 0)) y (λ x. (x + by) % 256)
    → IsGrown (d true false) (e true false) (λ x. is_in x below && not ((x + by) % 256 == 0)) y (λ x. (x + by) % 256)
    → IsGrown (d true true) (e true true) (λ x. is_in x below && ((x + by) % 256 == 0)) y (λ x. (x + by) % 256)
    → (c z : Bool) → IsGrown (d c z) (e c z) (λ x. is_in x (part_with s c below above) && zero_test z ((x + by) % 256 == 0)) y (λ x. (x + by) % 256)
parts_true s below above y by d e h p q r t c z = grind arith

-- if the values below the split make no carry, the digits of each carry grow by its own part
pub parts_false : (s : Bool) (below above : Set) (y by : ℕ) (d e : Bool → Bool → Digits) → s ≡ false
    → IsGrown (d false false) (e false false) (λ x. is_in x below && not ((x + by) % 256 == 0)) y (λ x. (x + by) % 256)
    → IsGrown (d false true) (e false true) (λ x. is_in x below && ((x + by) % 256 == 0)) y (λ x. (x + by) % 256)
    → IsGrown (d true false) (e true false) (λ x. is_in x above && not ((x + by) % 256 == 0)) y (λ x. (x + by) % 256)
    → IsGrown (d true true) (e true true) (λ x. is_in x above && ((x + by) % 256 == 0)) y (λ x. (x + by) % 256)
    → (c z : Bool) → IsGrown (d c z) (e c z) (λ x. is_in x (part_with s c below above) && zero_test z ((x + by) % 256 == 0)) y (λ x. (x + by) % 256)
parts_false s below above y by d e h p q r t c z = grind arith
