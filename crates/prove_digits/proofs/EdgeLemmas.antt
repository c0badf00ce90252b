-- What leads from flags to flags is what leads there if all was zero so far, or none of it, or all of it.
use Rattle.std.specs.Prelude.{◌≡◌, ◌⊎◌, ℕ, Bool, true, false, cond, ◌&&◌, ◌||◌, ◌==◌, refl}
use Rattle.std.proofs.Common.{arith, ap, sym, subst, ◌∙◌, inl, inr}
use Rattle.std.proofs.lemmas.Bool.{and_parts, both_ways, or_left, or_right}
use Rattle.prove_facts.specs.model_prove.specs.Sets.{is_in, union}
use Rattle.prove_facts.specs.model_prove.specs.Digits.{Operation, Flags, digit, same, Digits, digits_from, join_digit}
use Rattle.prove_facts.specs.Sets.{set_of}
use Rattle.prove_facts.specs.declared.values.Values.{Values}
use Rattle.prove_facts.proofs.SetLemmas.{rises_values, rises_union}
use Rattle.prove_digits.specs.Trios.{no_digits, trio_value, trio_in, trio_at, edge_of, IsTurn}
use Rattle.prove_digits.specs.declared.turns.Turn.{Turn}
use Rattle.prove_digits.specs.declared.turns.Split.{Split}
use Rattle.prove_digits.specs.declared.steps.Step.{Step}
use Rattle.prove_digits.specs.States.{IsStep}
use Rattle.prove_digits.proofs.MemberLemmas.{same_tests, in_either, in_left, in_right, Leads, results_to, results_from, first_to, first_from, second_to, second_from, rising_from, same_digits}

-- flags that no values lead to
pub leads_nowhere : (op : Operation) (xs ys : Values) (f g : Flags) → ((x y : ℕ) → Leads op (set_of xs) (set_of ys) f g x y → ⊥) → no_digits ≡ digits_from op (set_of xs) (set_of ys) f g
leads_nowhere op xs ys f g h =
    same_digits no_digits (digits_from op (set_of xs) (set_of ys) f g) (record { a = tt; b = tt; r = tt })
    (rising_from op (set_of xs) (set_of ys) f g (rises_values xs.words) (rises_values ys.words))
    (λ v. same_tests false (is_in v (digits_from op (set_of xs) (set_of ys) f g).a) (λ i. absurd (cc i)) (λ i. let q = first_to op v (set_of xs) (set_of ys) f g i in absurd (h v q.0 q.1)))
    (λ v. same_tests false (is_in v (digits_from op (set_of xs) (set_of ys) f g).b) (λ i. absurd (cc i)) (λ i. let q = second_to op v (set_of xs) (set_of ys) f g i in absurd (h q.0 v q.1)))
    (λ v. same_tests false (is_in v (digits_from op (set_of xs) (set_of ys) f g).r) (λ i. absurd (cc i)) (λ i. let q = results_to op v (set_of xs) (set_of ys) f g i in absurd (h q.0 q.1 q.2)))

-- digits that two pairs of flags lead to together
pub leads_either : (op : Operation) (xs ys : Values) (f g h i j : Flags) → f.c ≡ h.c
    → ((x y : ℕ) → Leads op (set_of xs) (set_of ys) h i x y ⊎ Leads op (set_of xs) (set_of ys) h j x y → Leads op (set_of xs) (set_of ys) f g x y)
    → ((x y : ℕ) → Leads op (set_of xs) (set_of ys) f g x y → Leads op (set_of xs) (set_of ys) h i x y ⊎ Leads op (set_of xs) (set_of ys) h j x y)
    → join_digit (digits_from op (set_of xs) (set_of ys) h i) (digits_from op (set_of xs) (set_of ys) h j) ≡ digits_from op (set_of xs) (set_of ys) f g
leads_either op xs ys f g h i j e to from =
    let s = set_of xs in
    let t = set_of ys in
    let d = digits_from op (set_of xs) (set_of ys) h i in
    let k = digits_from op (set_of xs) (set_of ys) h j in
    let w = digits_from op (set_of xs) (set_of ys) f g in
    let p = rising_from op (set_of xs) (set_of ys) h i (rises_values xs.words) (rises_values ys.words) in
    let q = rising_from op (set_of xs) (set_of ys) h j (rises_values xs.words) (rises_values ys.words) in
    same_digits (join_digit d k) w
    (record { a = rises_union 0 d.a k.a p.a q.a; b = rises_union 0 d.b k.b p.b q.b; r = rises_union 0 d.r k.r p.r q.r })
    (rising_from op (set_of xs) (set_of ys) f g (rises_values xs.words) (rises_values ys.words))
    (λ v. same_tests (is_in v (union d.a k.a)) (is_in v w.a)
    (λ m. elim (in_either v d.a k.a m) [
      | inl n ↦ let l = first_to op v s t h i n in first_from op v l.0 s t f g (to v l.0 (inl l.1))
      | inr n ↦ let l = first_to op v s t h j n in first_from op v l.0 s t f g (to v l.0 (inr l.1))
    ])
    (λ m. let l = first_to op v s t f g m in elim (from v l.0 l.1) [
      | inl n ↦ in_left v d.a k.a (first_from op v l.0 s t h i n)
      | inr n ↦ in_right v d.a k.a (first_from op v l.0 s t h j n)
    ]))
    (λ v. same_tests (is_in v (union d.b k.b)) (is_in v w.b)
    (λ m. elim (in_either v d.b k.b m) [
      | inl n ↦ let l = second_to op v s t h i n in second_from op l.0 v s t f g (to l.0 v (inl l.1))
      | inr n ↦ let l = second_to op v s t h j n in second_from op l.0 v s t f g (to l.0 v (inr l.1))
    ])
    (λ m. let l = second_to op v s t f g m in elim (from l.0 v l.1) [
      | inl n ↦ in_left v d.b k.b (second_from op l.0 v s t h i n)
      | inr n ↦ in_right v d.b k.b (second_from op l.0 v s t h j n)
    ]))
    (λ v. same_tests (is_in v (union d.r k.r)) (is_in v w.r)
    (λ m. elim (in_either v d.r k.r m) [
      | inl n ↦
          let l = results_to op v s t h i n in
          let u : (digit op l.0 l.1 f.c).0 ≡ v = ap (λ (c : Bool). (digit op l.0 l.1 c).0) e ∙ l.3 in
          subst (λ (x : ℕ). is_in x w.r ≡ true) u (results_from op l.0 l.1 s t f g (to l.0 l.1 (inl l.2)))
      | inr n ↦
          let l = results_to op v s t h j n in
          let u : (digit op l.0 l.1 f.c).0 ≡ v = ap (λ (c : Bool). (digit op l.0 l.1 c).0) e ∙ l.3 in
          subst (λ (x : ℕ). is_in x w.r ≡ true) u (results_from op l.0 l.1 s t f g (to l.0 l.1 (inr l.2)))
    ])
    (λ m.
    let l = results_to op v s t f g m in
    let u : (digit op l.0 l.1 h.c).0 ≡ v = sym (ap (λ (c : Bool). (digit op l.0 l.1 c).0) e) ∙ l.3 in
    subst (λ (x : ℕ). is_in x (union d.r k.r) ≡ true) u
    (elim (from l.0 l.1 l.2) [
      | inl n ↦ in_left (digit op l.0 l.1 h.c).0 d.r k.r (results_from op l.0 l.1 s t h i n)
      | inr n ↦ in_right (digit op l.0 l.1 h.c).0 d.r k.r (results_from op l.0 l.1 s t h j n)
    ])))

-- ---- edges

or_zero : (a b : Bool) → ((a && same b false) ≡ true) ⊎ ((a && same b true) ≡ true) → (a && true) ≡ true
or_zero a true h = elim h [ inl e ↦ absurd (cc (and_parts a false e).1) | inr e ↦ e ]
or_zero a false h = elim h [ inl e ↦ e | inr e ↦ absurd (cc (and_parts a false e).1) ]

zero_or : (a b : Bool) → (a && true) ≡ true → ((a && same b false) ≡ true) ⊎ ((a && same b true) ≡ true)
zero_or a true h = inr h
zero_or a false h = inl h

-- what a turn has from flags to flags is what leads there by the definition
pub edge_is : (op : Operation) (xs ys : Values) (c z : Bool) (turn : Turn) → IsTurn op (set_of xs) (set_of ys) c turn → (carry zero : Bool)
    → edge_of turn z carry zero ≡ digits_from op (set_of xs) (set_of ys) (record { c = c; z = z }) (record { c = carry; z = zero })
edge_is op xs ys c true turn h carry zero = h carry zero
edge_is op xs ys c false turn h carry true =
    leads_nowhere op xs ys (record { c = c; z = false }) (record { c = carry; z = true })
    (λ x y l. cc (and_parts (same (digit op x y c).1 carry) false l.flags).1)
edge_is op xs ys c false turn h carry false =
    ap (λ (d : Digits). join_digit d (trio_value (trio_at turn carry true))) (h carry false)
    ∙ ap (λ (d : Digits). join_digit (digits_from op (set_of xs) (set_of ys) (record { c = c; z = true }) (record { c = carry; z = false })) d) (h carry true)
    ∙ leads_either op xs ys (record { c = c; z = false }) (record { c = carry; z = false }) (record { c = c; z = true }) (record { c = carry; z = false }) (record { c = carry; z = true }) refl
    (λ x y l. elim l [
      | inl k ↦ record { first = k.first; second = k.second; flags = or_zero (same (digit op x y c).1 carry) ((digit op x y c).0 == 0) (inl k.flags) }
      | inr k ↦ record { first = k.first; second = k.second; flags = or_zero (same (digit op x y c).1 carry) ((digit op x y c).0 == 0) (inr k.flags) }
    ])
    (λ x y l. elim (zero_or (same (digit op x y c).1 carry) ((digit op x y c).0 == 0) l.flags) [
      | inl k ↦ inl (record { first = l.first; second = l.second; flags = k })
      | inr k ↦ inr (record { first = l.first; second = l.second; flags = k })
    ])

-- a carry that no values make
pub other_carry : (op : Operation) (xs ys : Values) (c z carry zero : Bool) → ((x y : ℕ) → (digit op x y c).1 ≡ c) → same c carry ≡ false
    → no_digits ≡ digits_from op (set_of xs) (set_of ys) (record { c = c; z = z }) (record { c = carry; z = zero })
other_carry op xs ys c z carry h k h8 = grind (arith, leads_nowhere, both_ways, and_parts)

-- ---- steps

-- a step is one of an operation if its turns are, with the carries that may come before it
pub is_step : (op : Operation) (xs ys : Values) (s : Step) (b d : Bool) → b ≡ (s.before.other || s.before.zero) → d ≡ (s.before.carry || s.before.both)
    → (b ≡ true → IsTurn op (set_of xs) (set_of ys) false s.plain) → (d ≡ true → IsTurn op (set_of xs) (set_of ys) true s.carried)
    → IsStep op (set_of xs) (set_of ys) s
is_step op xs ys s b d e h p q h10 h11 i carry h14 = grind (arith, edge_is, or_left, or_right)

-- ---- turns that keep the carry

unfoldable pub turn_by : Split → Split → Turn
turn_by clear set = record { clear = clear; set = set }

-- a turn is made of its splits for a clear and a set carry
pub turn_is : (clear set : Split) → (let t : Turn = record { clear = clear; set = set } in t) ≡ turn_by clear set
unfolding turn_by
turn_is clear set = refl

-- a turn with no digits under the other carry is one of an operation that keeps the carry
pub keeps_turn : (op : Operation) (xs ys : Values) (carry : Bool) (own other : Split) (t : Turn) → ((x y : ℕ) → (digit op x y carry).1 ≡ carry)
    → ((z : Bool) → trio_value (trio_in own z) ≡ digits_from op (set_of xs) (set_of ys) (record { c = carry; z = true }) (record { c = carry; z = z }))
    → ((z : Bool) → trio_value (trio_in other z) ≡ no_digits) → t ≡ cond carry (turn_by other own) (turn_by own other) → IsTurn op (set_of xs) (set_of ys) carry t
unfolding turn_by
keeps_turn op xs ys false own other t k p q e false z = ap (λ (u : Turn). trio_value (trio_at u false z)) e ∙ p z
keeps_turn op xs ys false own other t k p q e true z = ap (λ (u : Turn). trio_value (trio_at u true z)) e ∙ q z ∙ other_carry op xs ys false true true z k refl
keeps_turn op xs ys true own other t k p q e true z = ap (λ (u : Turn). trio_value (trio_at u true z)) e ∙ p z
keeps_turn op xs ys true own other t k p q e false z = ap (λ (u : Turn). trio_value (trio_at u false z)) e ∙ q z ∙ other_carry op xs ys true true false z k refl
