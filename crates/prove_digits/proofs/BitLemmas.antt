-- Bits: parts of a set by what one value of the second byte makes of it, and turns that keep the carry.
use Rattle.std.specs.Prelude.{◌≡◌, ◌⊎◌, ℕ, ◌+◌, ◌<◌, Bool, true, false, cond, not, ◌&&◌, ◌==◌, [], ◌∷◌, Some, refl}
use Rattle.std.proofs.Common.{arith, ap, sym, ◌∙◌, inl, inr}
use Rattle.std.proofs.lemmas.Bool.{and_parts, and_from, both_ways, cases_lt, eqb-true}
use Rattle.prove_facts.specs.model_prove.specs.Sets.{Set, is_in, union}
use Rattle.prove_facts.specs.model_prove.specs.Digits.{Operation, Plus, Minus, digit, same, Digits}
use Rattle.prove_facts.specs.model_prove.proofs.SetLemmas.{is_first}
use Rattle.prove_facts.specs.Sets.{set_of}
use Rattle.prove_facts.specs.declared.values.Values.{Values}
use Rattle.prove_digits.specs.declared.bits.Parts.{Parts}
use Rattle.prove_digits.specs.declared.turns.Split.{Split}
use Rattle.prove_digits.specs.declared.digits.Digit.{Digit}
use Rattle.prove_digits.specs.declared.digits.Digit.TheVariants as code
use Rattle.prove_digits.specs.Bits.{AreParts}
use Rattle.prove_digits.specs.Trios.{IsGrown, leads_on, trio_in, trio_value}
use Rattle.prove_digits.specs.Ways.{bitwise_of, operation_of}
use Rattle.prove_digits.proofs.MemberLemmas.{same_tests, in_either, in_left, in_right, only_in, byte_of}
use Rattle.prove_digits.proofs.GrowLemmas.{AreMade, grown_alike}
use Rattle.prove_digits.proofs.TurnLemmas.{zero_test, same_zero, zeros_made}

-- ---- parts

-- before the first value each part is empty
pub no_parts : (make : ℕ → ℕ) (xs : Set) (p : Parts) → set_of p.other ≡ [] → set_of p.zero ≡ [] → set_of p.results ≡ [] → AreParts 0 make xs p
no_parts make xs p a b c = grind arith

below_or : (v n : ℕ) (xs : Set) → is_in n xs ≡ false → v < n + 1 → is_in v xs ≡ true → v < n
below_or v n xs h l i = grind (arith, cases_lt, both_ways)

wider : (v n : ℕ) (A B : Type 0) → (v < n) × A × B → (v < n + 1) × A × B
wider v n A B h = let l = h.0 in (omega (arith, l), h.1, h.2)

-- a value that is not in the set leaves the parts of those below it
pub parts_skip : (n : ℕ) (make : ℕ → ℕ) (xs : Set) (p : Parts) → is_in n xs ≡ false → AreParts n make xs p → AreParts (n + 1) make xs p
parts_skip n make xs p h a = grind (arith, wider, below_or)

at_or_below : (v n : ℕ) → v < n + 1 → (v < n) ⊎ (v ≡ n)
at_or_below v n l = elim (cases_lt v n) [ inl k ↦ inl k | inr k ↦ inr (omega (arith, l, k)) ]

self_in : (n : ℕ) → is_in n (n ∷ []) ≡ true
self_in n = is_first n []

grown_zero : (n r : ℕ) (make : ℕ → ℕ) (xs : Set) (p q : Parts) → is_in n xs ≡ true → r ≡ make n → (r == 0) ≡ true → set_of q.other ≡ set_of p.other
    → set_of q.zero ≡ union (set_of p.zero) (n ∷ []) → set_of q.results ≡ set_of p.results → AreParts n make xs p → AreParts (n + 1) make xs q
grown_zero n r make xs p q h e z eo ez er a = grind (arith, wider, at_or_below, both_ways, in_either, only_in, in_left, in_right, self_in)

grown_other : (n r : ℕ) (make : ℕ → ℕ) (xs : Set) (p q : Parts) → is_in n xs ≡ true → r ≡ make n → (r == 0) ≡ false
    → set_of q.other ≡ union (set_of p.other) (n ∷ []) → set_of q.zero ≡ set_of p.zero → set_of q.results ≡ union (set_of p.results) (r ∷ [])
    → AreParts n make xs p → AreParts (n + 1) make xs q
grown_other n r make xs p q h e z eo ez er a =
    let zn : (make n == 0) ≡ false = ap (λ (m : ℕ). m == 0) (sym e) ∙ z in
    record {
      other_to = grind (arith, in_either, wider, only_in);
      other_from = grind (arith, at_or_below, in_left, in_right, self_in);
      zero_to = λ v i. wider v n (is_in v xs ≡ true) ((make v == 0) ≡ true) (a.zero_to v (sym (ap (λ (s : Set). is_in v s) ez) ∙ i));
      zero_from = grind (arith, at_or_below, both_ways);
      results_to = λ s i. elim (in_either s (set_of p.results) (r ∷ []) (sym (ap (λ (t : Set). is_in s t) er) ∙ i)) [
        | inl j ↦ let k = a.results_to s j in (k.0, ap (λ (t : Set). is_in k.0 t) eo ∙ in_left k.0 (set_of p.other) (n ∷ []) k.1, k.2)
        | inr j ↦ (n, ap (λ (t : Set). is_in n t) eo ∙ in_right n (set_of p.other) (n ∷ []) (self_in n), sym e ∙ sym (only_in s r j))
      ];
      results_from = grind (arith, in_either, in_left, only_in, in_right, self_in);
    }

-- a value more
pub parts_more : (b : Bool) (n r : ℕ) (make : ℕ → ℕ) (xs : Set) (p q : Parts) → (r == 0) ≡ b → is_in n xs ≡ true → r ≡ make n
    → set_of q.other ≡ cond b (set_of p.other) (union (set_of p.other) (n ∷ [])) → set_of q.zero ≡ cond b (union (set_of p.zero) (n ∷ [])) (set_of p.zero)
    → set_of q.results ≡ cond b (set_of p.results) (union (set_of p.results) (r ∷ [])) → AreParts n make xs p → AreParts (n + 1) make xs q
parts_more true n r make xs p q z h e eo ez er a = grown_zero n r make xs p q h e z eo ez er a
parts_more false n r make xs p q z h e eo ez er a = grown_other n r make xs p q h e z eo ez er a

-- ---- one value of the second byte

not_by : (b : Bool) → b ≡ false → not b ≡ true
not_by true h = absurd (cc h)
not_by false h = refl

by_not : (b : Bool) → not b ≡ true → b ≡ false
by_not true h = absurd (cc h)
by_not false h = refl

-- the part of the values that make no zero, and their results, are made of the whole set
pub others_made : (xs : Values) (make : ℕ → ℕ) (p : Parts) → AreParts 256 make (set_of xs) p
    → AreMade (λ x. is_in x (set_of xs) && not (make x == 0)) make (set_of p.other) (set_of p.results)
others_made xs make p a = grind (arith, same_tests, and_from, not_by, and_parts, byte_of, by_not)

-- the part of the values that make a zero, with the result zero, is made of the whole set
pub zeros_of : (xs : Values) (make : ℕ → ℕ) (p : Parts) (rs : Set) → AreParts 256 make (set_of xs) p → rs ≡ 0 ∷ []
    → AreMade (λ x. is_in x (set_of xs) && (make x == 0)) make (set_of p.zero) rs
zeros_of xs make p rs a e = grind (arith, zeros_made, same_tests, and_from, and_parts, byte_of, eqb-true)

-- ---- the carry is kept

same_self : (b : Bool) → same b b ≡ true
same_self true = refl
same_self false = refl

not_plus : (d : Digit) → bitwise_of d ≡ Some Plus → ⊥
not_plus d h = grind arith

not_minus : (d : Digit) → bitwise_of d ≡ Some Minus → ⊥
not_minus d h = grind arith

-- a bitwise operation keeps the carry
pub keeps_carry : (d : Digit) (op : Operation) (x y : ℕ) (c : Bool) → bitwise_of d ≡ Some op → (digit op x y c).1 ≡ c
keeps_carry d op x y c h = grind (arith, not_plus, not_minus)

-- under a bitwise operation digits grow by the values that lead from flags to flags
pub bits_grow : (dg : Digit) (op : Operation) (c z : Bool) (xs : Set) (y : ℕ) (d e : Digits) → bitwise_of dg ≡ Some op
    → IsGrown d e (λ x. is_in x xs && zero_test z ((digit op x y c).0 == 0)) y (λ x. (digit op x y c).0)
    → IsGrown d e (λ x. is_in x xs && leads_on op c c z x y) y (λ x. (digit op x y c).0)
bits_grow dg op c z xs y d e h g = grind (arith, grown_alike, zero_test, same_zero, keeps_carry, same_self)

-- under a bitwise operation both parts of a split grow by one value of the second byte
pub split_grow : (dg : Digit) (op : Operation) (c : Bool) (xs : Set) (y : ℕ) (old new : Split) → bitwise_of dg ≡ Some op
    → IsGrown (trio_value old.other) (trio_value new.other) (λ x. is_in x xs && not ((digit op x y c).0 == 0)) y (λ x. (digit op x y c).0)
    → IsGrown (trio_value old.zero) (trio_value new.zero) (λ x. is_in x xs && ((digit op x y c).0 == 0)) y (λ x. (digit op x y c).0)
    → (z : Bool) → IsGrown (trio_value (trio_in old z)) (trio_value (trio_in new z)) (λ x. is_in x xs && leads_on op c c z x y) y (λ x. (digit op x y c).0)
split_grow dg op c xs y old new h p q false = bits_grow dg op c false xs y (trio_value old.other) (trio_value new.other) h p
split_grow dg op c xs y old new h p q true = bits_grow dg op c true xs y (trio_value old.zero) (trio_value new.zero) h q

-- a digit is a sum or a difference
pub add_is : (d : Digit) (op : Operation) → d ≡ code.Add → operation_of d ≡ Some op → Plus ≡ op
add_is d op e h = cc (sym (ap operation_of e) ∙ h)

-- the digit that subtracts has the operation minus
pub sub_is : (d : Digit) (op : Operation) → d ≡ code.Sub → operation_of d ≡ Some op → Minus ≡ op
sub_is d op e h = cc (sym (ap operation_of e) ∙ h)

-- operations bit by bit are those of digits that are neither a sum nor a difference
pub bitwise_else : (d : Digit) (op : Operation) → (d ≡ code.Add → ⊥) → (d ≡ code.Sub → ⊥) → operation_of d ≡ Some op → bitwise_of d ≡ Some op
bitwise_else d op n m h = grind arith
