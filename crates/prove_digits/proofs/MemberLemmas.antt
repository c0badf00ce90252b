-- What is in a set: values that pass a test, and results of values of two sets.
use Rattle.std.specs.Prelude.{◌≡◌, ◌⊎◌, ℕ, ◌<◌, Bool, true, false, cond, ◌||◌, ◌==◌, [], ◌∷◌, refl}
use Rattle.std.proofs.Common.{arith, ap, sym, subst, ◌∙◌, inl, inr}
use Rattle.std.proofs.lemmas.Bool.{or_left, or_right, or_cases, eqb-true, eq-eqb, and_parts, and_from, both_ways, cases_lt}
use Rattle.prove_facts.specs.model_prove.specs.Sets.{Set, is_in, with_value, union}
use Rattle.prove_facts.specs.model_prove.specs.Digits.{Operation, Flags, digit, flags_after, same_flags, Digits, some, results_with, results_of, digits_from}
use Rattle.prove_facts.specs.model_prove.proofs.SetLemmas.{is_first}
use Rattle.prove_facts.specs.Sets.{set_of}
use Rattle.prove_facts.specs.declared.values.Values.{Values}
use Rattle.prove_facts.proofs.SetLemmas.{Rises, rises_filter, rises_with, in_filter, in_with, in_union, same_values, out_values}

-- two tests that imply each other
pub same_tests : (a b : Bool) → (a ≡ true → b ≡ true) → (b ≡ true → a ≡ true) → a ≡ b
same_tests a b f g = grind arith

-- a disjunction with false is its first part
pub or_none : (b : Bool) → (b || false) ≡ b
or_none true = refl
or_none false = refl

-- a value of a set of bytes is a byte
pub byte_of : (xs : Values) (v : ℕ) → is_in v (set_of xs) ≡ true → v < 256
byte_of xs v h = elim (cases_lt v 256) [ inl l ↦ l | inr g ↦ absurd (both_ways (is_in v (set_of xs)) (out_values xs.words v g) h) ]

-- ---- unions

-- a value of a union is in one of the sets
pub in_either : (v : ℕ) (s t : Set) → is_in v (union s t) ≡ true → (is_in v s ≡ true) ⊎ (is_in v t ≡ true)
in_either v s t h = or_cases (is_in v s) (is_in v t) (sym (in_union v s t) ∙ h)

-- a value of the first set is in the union
pub in_left : (v : ℕ) (s t : Set) → is_in v s ≡ true → is_in v (union s t) ≡ true
in_left v s t h = in_union v s t ∙ or_left (is_in v s) (is_in v t) h

-- a value of the second set is in the union
pub in_right : (v : ℕ) (s t : Set) → is_in v t ≡ true → is_in v (union s t) ≡ true
in_right v s t h = in_union v s t ∙ or_right (is_in v s) (is_in v t) h

-- a value in a set of one is that one
pub only_in : (v y : ℕ) → is_in v (y ∷ []) ≡ true → v ≡ y
only_in v y h = elim (or_cases (y == v) false h) [ inl e ↦ sym (eqb-true y v e) | inr e ↦ absurd (cc e) ]

-- ---- some element

-- a value that passes a test makes some value of its set pass
pub some_from : (test : ℕ → Bool) (v : ℕ) (s : Set) → is_in v s ≡ true → test v ≡ true → some test s ≡ true
some_from test v [] h e = absurd (cc h)
some_from test v (x ∷ s) h e =
    elim (or_cases (x == v) (is_in v s) h) [
      | inl k ↦ or_left (test x) (some test s) (subst (λ (w : ℕ). test w ≡ true) (sym (eqb-true x v k)) e)
      | inr k ↦ or_right (test x) (some test s) (some_from test v s k e)
    ]

-- if some value of a set passes a test, there is one
pub some_to : (test : ℕ → Bool) (s : Set) → some test s ≡ true → (v : ℕ) × (is_in v s ≡ true) × (test v ≡ true)
some_to test [] h = absurd (cc h)
some_to test (x ∷ s) h =
    elim (or_cases (test x) (some test s) h) [
      | inl e ↦ (x, is_first x s, e)
      | inr e ↦ let r = some_to test s e in (r.0, or_right (x == r.0) (is_in r.0 s) r.1, r.2)
    ]

-- ---- results

-- two bytes of two sets that lead from flags to flags
pub record Leads (op : Operation) (s t : Set) (f g : Flags) (x y : ℕ) : Type 0 where
  pub first : is_in x s ≡ true
  pub second : is_in y t ≡ true
  pub flags : same_flags (flags_after op x y f) g ≡ true

put_to : (b : Bool) (r q : ℕ) (rest : Set) → is_in r (cond b (with_value q rest) rest) ≡ true → ((b ≡ true) × (q ≡ r)) ⊎ (is_in r rest ≡ true)
put_to true r q rest h = elim (or_cases (q == r) (is_in r rest) (sym (in_with r q rest) ∙ h)) [ inl e ↦ inl (refl, eqb-true q r e) | inr e ↦ inr e ]
put_to false r q rest h = inr h

put_new : (b : Bool) (q : ℕ) (rest : Set) → b ≡ true → is_in q (cond b (with_value q rest) rest) ≡ true
put_new true q rest h = in_with q q rest ∙ or_left (q == q) (is_in q rest) (eq-eqb q q refl)
put_new false q rest h = absurd (cc h)

put_old : (b : Bool) (r q : ℕ) (rest : Set) → is_in r rest ≡ true → is_in r (cond b (with_value q rest) rest) ≡ true
put_old true r q rest h = in_with r q rest ∙ or_right (q == r) (is_in r rest) h
put_old false r q rest h = h

with_to : (op : Operation) (x r : ℕ) (t : Set) (f g : Flags) (rs : Set) → is_in r (results_with op x t f g rs) ≡ true
    → ((y : ℕ) × (is_in y t ≡ true) × (same_flags (flags_after op x y f) g ≡ true) × ((digit op x y f.c).0 ≡ r)) ⊎ (is_in r rs ≡ true)
with_to op x r [] f g rs h = inr h
with_to op x r (y ∷ t) f g rs h =
    elim (put_to (same_flags (flags_after op x y f) g) r (digit op x y f.c).0 (results_with op x t f g rs) h) [
      | inl e ↦ inl (y, is_first y t, e.0, e.1)
      | inr e ↦ elim (with_to op x r t f g rs e) [
        | inl k ↦ inl (k.0, or_right (y == k.0) (is_in k.0 t) k.1, k.2, k.3)
        | inr k ↦ inr k
      ]
    ]

with_new : (op : Operation) (x y : ℕ) (t : Set) (f g : Flags) (rs : Set) → is_in y t ≡ true → same_flags (flags_after op x y f) g ≡ true
    → is_in (digit op x y f.c).0 (results_with op x t f g rs) ≡ true
with_new op x y [] f g rs h e = absurd (cc h)
with_new op x y (w ∷ t) f g rs h e =
    elim (or_cases (w == y) (is_in y t) h) [
      | inl k ↦
          subst (λ (u : ℕ). is_in (digit op x y f.c).0 (results_with op x (u ∷ t) f g rs) ≡ true) (sym (eqb-true w y k))
          (put_new (same_flags (flags_after op x y f) g) (digit op x y f.c).0 (results_with op x t f g rs) e)
      | inr k ↦
          put_old (same_flags (flags_after op x w f) g) (digit op x y f.c).0 (digit op x w f.c).0 (results_with op x t f g rs) (with_new op x y t f g rs k e)
    ]

with_old : (op : Operation) (x r : ℕ) (t : Set) (f g : Flags) (rs : Set) → is_in r rs ≡ true → is_in r (results_with op x t f g rs) ≡ true
with_old op x r [] f g rs h = h
with_old op x r (y ∷ t) f g rs h = put_old (same_flags (flags_after op x y f) g) r (digit op x y f.c).0 (results_with op x t f g rs) (with_old op x r t f g rs h)

-- a result of two sets is made by two of their bytes
pub results_to : (op : Operation) (r : ℕ) (s t : Set) (f g : Flags) → is_in r (results_of op s t f g) ≡ true
    → (x : ℕ) × (y : ℕ) × Leads op s t f g x y × ((digit op x y f.c).0 ≡ r)
results_to op r [] t f g h = absurd (cc h)
results_to op r (x ∷ s) t f g h =
    elim (with_to op x r t f g (results_of op s t f g) h) [
      | inl e ↦ (x, e.0, record { first = is_first x s; second = e.1; flags = e.2 }, e.3)
      | inr e ↦
          let k = results_to op r s t f g e in
          (k.0, k.1, record { first = or_right (x == k.0) (is_in k.0 s) k.2.first; second = k.2.second; flags = k.2.flags }, k.3)
    ]

results_by : (op : Operation) (x y : ℕ) (s t : Set) (f g : Flags) → is_in x s ≡ true → is_in y t ≡ true → same_flags (flags_after op x y f) g ≡ true
    → is_in (digit op x y f.c).0 (results_of op s t f g) ≡ true
results_by op x y [] t f g h k e = absurd (cc h)
results_by op x y (w ∷ s) t f g h k e =
    elim (or_cases (w == x) (is_in x s) h) [
      | inl i ↦
          subst (λ (u : ℕ). is_in (digit op x y f.c).0 (results_of op (u ∷ s) t f g) ≡ true) (sym (eqb-true w x i))
          (with_new op x y t f g (results_of op s t f g) k e)
      | inr i ↦ with_old op w (digit op x y f.c).0 t f g (results_of op s t f g) (results_by op x y s t f g i k e)
    ]

-- the result of two bytes that lead from flags to flags is among the results
pub results_from : (op : Operation) (x y : ℕ) (s t : Set) (f g : Flags) → Leads op s t f g x y → is_in (digit op x y f.c).0 (results_of op s t f g) ≡ true
results_from op x y s t f g l = results_by op x y s t f g l.first l.second l.flags

-- ---- the digits of the definition

-- a byte in the first set of the digits leads on with some second one
pub first_to : (op : Operation) (v : ℕ) (s t : Set) (f g : Flags) → is_in v (digits_from op s t f g).a ≡ true → (y : ℕ) × Leads op s t f g v y
first_to op v s t f g h =
    let test = λ (x : ℕ). some (λ y. same_flags (flags_after op x y f) g) t in
    let p = and_parts (is_in v s) (test v) (sym (in_filter test v s) ∙ h) in
    let r = some_to (λ y. same_flags (flags_after op v y f) g) t p.1 in
    (r.0, record { first = p.0; second = r.1; flags = r.2 })

-- a first byte that leads on is in the first set of the digits
pub first_from : (op : Operation) (x y : ℕ) (s t : Set) (f g : Flags) → Leads op s t f g x y → is_in x (digits_from op s t f g).a ≡ true
first_from op x y s t f g l = grind (arith, in_filter, and_from, some_from)

-- a byte in the second set of the digits leads on with some first one
pub second_to : (op : Operation) (v : ℕ) (s t : Set) (f g : Flags) → is_in v (digits_from op s t f g).b ≡ true → (x : ℕ) × Leads op s t f g x v
second_to op v s t f g h =
    let test = λ (y : ℕ). some (λ x. same_flags (flags_after op x y f) g) s in
    let p = and_parts (is_in v t) (test v) (sym (in_filter test v t) ∙ h) in
    let r = some_to (λ x. same_flags (flags_after op x v f) g) s p.1 in
    (r.0, record { first = r.1; second = p.0; flags = r.2 })

-- a second byte that leads on is in the second set of the digits
pub second_from : (op : Operation) (x y : ℕ) (s t : Set) (f g : Flags) → Leads op s t f g x y → is_in y (digits_from op s t f g).b ≡ true
second_from op x y s t f g l = grind (arith, in_filter, and_from, some_from)

-- ---- ascending digits

-- the sets of digits ascend
pub record AreRising (d : Digits) : Type 0 where
  pub a : Rises 0 d.a
  pub b : Rises 0 d.b
  pub r : Rises 0 d.r

rises_cond : (b : Bool) (q : ℕ) (rest : Set) → Rises 0 rest → Rises 0 (cond b (with_value q rest) rest)
rises_cond true q rest h = rises_with 0 q rest (omega arith) h
rises_cond false q rest h = h

rises_results_with : (op : Operation) (x : ℕ) (t : Set) (f g : Flags) (rs : Set) → Rises 0 rs → Rises 0 (results_with op x t f g rs)
rises_results_with op x [] f g rs h = h
rises_results_with op x (y ∷ t) f g rs h = rises_cond (same_flags (flags_after op x y f) g) (digit op x y f.c).0 (results_with op x t f g rs) (rises_results_with op x t f g rs h)

rises_results : (op : Operation) (s t : Set) (f g : Flags) → Rises 0 (results_of op s t f g)
rises_results op [] t f g = tt
rises_results op (x ∷ s) t f g = rises_results_with op x t f g (results_of op s t f g) (rises_results op s t f g)

-- the digits of two ascending sets ascend
pub rising_from : (op : Operation) (s t : Set) (f g : Flags) → Rises 0 s → Rises 0 t → AreRising (digits_from op s t f g)
rising_from op s t f g h k =
    record {
      a = rises_filter (λ x. some (λ y. same_flags (flags_after op x y f) g) t) 0 s h;
      b = rises_filter (λ y. some (λ x. same_flags (flags_after op x y f) g) s) 0 t k;
      r = rises_results op s t f g;
    }

digits_with : Set → Set → Set → Digits
digits_with a b r = record { a = a; b = b; r = r }

-- digits of equal sets are equal
pub digits_eq : (d e : Digits) → d.a ≡ e.a → d.b ≡ e.b → d.r ≡ e.r → d ≡ e
unfolding digits_with
digits_eq d e h k l = ap (λ (s : Set). digits_with s d.b d.r) h ∙ ap (λ (s : Set). digits_with e.a s d.r) k ∙ ap (λ (s : Set). digits_with e.a e.b s) l

-- ascending digits with the same values are equal
pub same_digits : (d e : Digits) → AreRising d → AreRising e → ((v : ℕ) → is_in v d.a ≡ is_in v e.a) → ((v : ℕ) → is_in v d.b ≡ is_in v e.b)
    → ((v : ℕ) → is_in v d.r ≡ is_in v e.r) → d ≡ e
same_digits d e p q h k l =
    digits_eq d e (same_values 0 0 d.a e.a p.a q.a h) (same_values 0 0 d.b e.b p.b q.b k) (same_values 0 0 d.r e.r p.r q.r l)
