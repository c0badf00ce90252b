-- Digits that grow by one value of the second byte after another are those of the definition in the end.
use Rattle.std.specs.Prelude.{◌≡◌, ◌⊎◌, ℕ, ◌+◌, ◌<◌, ◌≤◌, Bool, true, false, cond, ◌&&◌, List, [], ◌∷◌, get_or, ◌/◌, refl}
use Rattle.std.proofs.Common.{arith, ap, sym, subst, inl, inr}
use Rattle.std.proofs.lemmas.Bool.{and_parts, and_from, both_ways, cases_lt}
use Rattle.prove_facts.specs.model_prove.specs.Sets.{Set, is_in, is_empty, union}
use Rattle.prove_facts.specs.model_prove.specs.Digits.{Operation, Flags, digit, flags_after, same_flags, Digits, digits_from}
use Rattle.prove_facts.specs.model_prove.proofs.SetLemmas.{is_first}
use Rattle.prove_facts.specs.Sets.{set_of}
use Rattle.prove_facts.specs.declared.values.Values.{Values}
use Rattle.prove_facts.specs.Sets.{values_of}
use Rattle.prove_facts.proofs.BitLemmas.{each_word, is_word, at_zero}
use Rattle.prove_facts.proofs.SetLemmas.{rises_values, none_is}
use Rattle.prove_digits.specs.Trios.{trio_value, no_digits, grown, IsGrown, trio_in, trio_at, edge_of}
use Rattle.prove_digits.specs.declared.trios.Trio.{Trio}
use Rattle.prove_digits.specs.declared.turns.Split.{Split}
use Rattle.prove_digits.specs.declared.turns.Turn.{Turn}
use Rattle.prove_digits.proofs.MemberLemmas.{same_tests, in_either, in_left, in_right, only_in, byte_of, Leads, results_to, results_from, first_to, first_from, second_to, second_from, rising_from, same_digits}

-- ---- one value more

first_of : (x : ℕ) (s : Set) → is_in x s ≡ true → (b : Bool) → is_empty s ≡ b → b ≡ false
first_of x [] h b e = absurd (cc h)
first_of x (y ∷ s) h b e = sym e

-- a set with an element is not empty
not_none : (x : ℕ) (s : Set) → is_in x s ≡ true → is_empty s ≡ false
not_none x [] h = absurd (cc h)
not_none x (y ∷ s) h = refl

grown_keeps_a : (b : Bool) (d : Digits) (xs ys rs : Set) (v : ℕ) → is_in v d.a ≡ true
    → is_in v (let e : Digits = cond b d (record { a = union d.a xs; b = union d.b ys; r = union d.r rs }) in e.a) ≡ true
grown_keeps_a true d xs ys rs v h = h
grown_keeps_a false d xs ys rs v h = in_left v d.a xs h

grown_keeps_b : (b : Bool) (d : Digits) (xs ys rs : Set) (v : ℕ) → is_in v d.b ≡ true
    → is_in v (let e : Digits = cond b d (record { a = union d.a xs; b = union d.b ys; r = union d.r rs }) in e.b) ≡ true
grown_keeps_b true d xs ys rs v h = h
grown_keeps_b false d xs ys rs v h = in_left v d.b ys h

grown_keeps_r : (b : Bool) (d : Digits) (xs ys rs : Set) (v : ℕ) → is_in v d.r ≡ true
    → is_in v (let e : Digits = cond b d (record { a = union d.a xs; b = union d.b ys; r = union d.r rs }) in e.r) ≡ true
grown_keeps_r true d xs ys rs v h = h
grown_keeps_r false d xs ys rs v h = in_left v d.r rs h

grown_is : (b : Bool) (d : Digits) (xs ys rs : Set) → b ≡ false
    → cond b d (record { a = union d.a xs; b = union d.b ys; r = union d.r rs }) ≡ (let e : Digits = record { a = union d.a xs; b = union d.b ys; r = union d.r rs } in e)
grown_is true d xs ys rs h = absurd (cc h)
grown_is false d xs ys rs h = refl

grown_from_a : (b : Bool) (d : Digits) (xs ys rs : Set) (v : ℕ)
    → is_in v (let e : Digits = cond b d (record { a = union d.a xs; b = union d.b ys; r = union d.r rs }) in e.a) ≡ true → (is_in v d.a ≡ true) ⊎ (is_in v xs ≡ true)
grown_from_a true d xs ys rs v h = inl h
grown_from_a false d xs ys rs v h = in_either v d.a xs h

grown_from_b : (b : Bool) (d : Digits) (xs : Set) (y : ℕ) (rs : Set) (v : ℕ)
    → is_in v (let e : Digits = cond b d (record { a = union d.a xs; b = union d.b (y ∷ []); r = union d.r rs }) in e.b) ≡ true → is_empty xs ≡ b
    → (is_in v d.b ≡ true) ⊎ ((v ≡ y) × ((x : ℕ) × (is_in x xs ≡ true)))
grown_from_b true d xs y rs v h e = inl h
grown_from_b false d [] y rs v h e = absurd (cc e)
grown_from_b false d (x ∷ xs) y rs v h e =
    elim (in_either v d.b (y ∷ []) h) [
      | inl k ↦ inl k
      | inr k ↦ inr (only_in v y k, (x, is_first x xs))
    ]

-- a set has the values that pass a test, and another what a function makes of them
pub record AreMade (test : ℕ → Bool) (result : ℕ → ℕ) (xs rs : Set) : Type 0 where
  pub test_is : (x : ℕ) → is_in x xs ≡ test x
  pub made : (x : ℕ) → is_in x xs ≡ true → is_in (result x) rs ≡ true
  pub from : (r : ℕ) → is_in r rs ≡ true → is_empty xs ≡ false → (x : ℕ) × (is_in x xs ≡ true) × (result x ≡ r)

grown_from_made : (b : Bool) (test : ℕ → Bool) (result : ℕ → ℕ) (d : Digits) (xs ys rs : Set) (v : ℕ) → AreMade test result xs rs → is_empty xs ≡ b
    → is_in v (let e : Digits = cond b d (record { a = union d.a xs; b = union d.b ys; r = union d.r rs }) in e.r) ≡ true
    → (is_in v d.r ≡ true) ⊎ ((x : ℕ) × (test x ≡ true) × (result x ≡ v))
grown_from_made b test result d xs ys rs v m e h = grind (arith, in_either)

-- digits that were grown by the values of a test, and their results, have grown so
pub is_grown : (d e : Digits) (xs : Set) (y : ℕ) (rs : Set) (test : ℕ → Bool) (result : ℕ → ℕ) → e ≡ grown d xs y rs → AreMade test result xs rs → IsGrown d e test y result
is_grown d e xs y rs test result h m =
    grind (arith, grown_is, not_none, grown_keeps_a, grown_keeps_b, grown_keeps_r, in_right, is_first, grown_from_a, grown_from_b, grown_from_made)

-- a test and a result by those that are equal
pub grown_alike : (d e : Digits) (y : ℕ) (test other : ℕ → Bool) (result made : ℕ → ℕ) → ((x : ℕ) → test x ≡ other x) → ((x : ℕ) → test x ≡ true → result x ≡ made x)
    → IsGrown d e test y result → IsGrown d e other y made
grown_alike d e y test other result made h k g = grind arith

-- ---- all values below a number

-- digits have what the values of the second set below a number lead to
pub record AreBelow (op : Operation) (s t : Set) (f g : Flags) (n : ℕ) (d : Digits) : Type 0 where
  pub a_to : (v : ℕ) → is_in v d.a ≡ true → (y : ℕ) × Leads op s t f g v y
  pub b_to : (v : ℕ) → is_in v d.b ≡ true → (x : ℕ) × Leads op s t f g x v
  pub r_to : (v : ℕ) → is_in v d.r ≡ true → (x : ℕ) × (y : ℕ) × Leads op s t f g x y × ((digit op x y f.c).0 ≡ v)
  pub a_from : (x y : ℕ) → y < n → Leads op s t f g x y → is_in x d.a ≡ true
  pub b_from : (x y : ℕ) → y < n → Leads op s t f g x y → is_in y d.b ≡ true
  pub r_from : (x y : ℕ) → y < n → Leads op s t f g x y → is_in (digit op x y f.c).0 d.r ≡ true

-- of the values below zero no digits are made
pub none_below : (op : Operation) (s t : Set) (f g : Flags) → AreBelow op s t f g 0 no_digits
none_below op s t f g =
    record {
      a_to = λ v h. absurd (cc h);
      b_to = λ v h. absurd (cc h);
      r_to = λ v h. absurd (cc h);
      a_from = λ x y l h. absurd (omega (arith, l));
      b_from = λ x y l h. absurd (omega (arith, l));
      r_from = λ x y l h. absurd (omega (arith, l));
    }

-- ---- no values

-- the words of a set without values
abbrev pub zeros : List ℕ
zeros = 0 ∷ 0 ∷ 0 ∷ 0 ∷ []

zero_at : (k : ℕ) → k < 4 → get_or zeros k 0 ≡ 0
zero_at k h = each_word (λ (w : ℕ). get_or zeros w 0 ≡ 0) refl refl refl refl k h

-- no value is in words of zeros
pub empty_words : values_of zeros ≡ []
empty_words = none_is zeros (λ v h. at_zero zeros v (zero_at (v / 64) (is_word v h)))

-- three sets without values
abbrev pub none_trio : Trio
none_trio = record { x = record { words = zeros }; y = record { words = zeros }; r = record { words = zeros } }

-- a split without values
abbrev pub none_split : Split
none_split = record { other = none_trio; zero = none_trio }

-- a turn without values
abbrev pub none_turn : Turn
none_turn = record { clear = none_split; set = none_split }

same_sets : Set → Digits
same_sets s = record { a = s; b = s; r = s }

-- three sets without values are no digits
pub none_value : trio_value none_trio ≡ no_digits
unfolding same_sets
none_value = ap same_sets empty_words

-- they have what the values below zero lead to
pub trio_below : (op : Operation) (s t : Set) (f g : Flags) → AreBelow op s t f g 0 (trio_value none_trio)
trio_below op s t f g = subst (λ (d : Digits). AreBelow op s t f g 0 d) (sym none_value) (none_below op s t f g)

-- so has each part of a split without values
pub split_below : (op : Operation) (s t : Set) (f g : Flags) (z : Bool) → AreBelow op s t f g 0 (trio_value (trio_in none_split z))
split_below op s t f g false = trio_below op s t f g
split_below op s t f g true = trio_below op s t f g

-- so has each part of a turn without values
pub turn_below : (op : Operation) (s t : Set) (f g : Flags) (c z : Bool) → AreBelow op s t f g 0 (trio_value (trio_at none_turn c z))
turn_below op s t f g false z = split_below op s t f g z
turn_below op s t f g true z = split_below op s t f g z

-- each part of a turn without values is no digits
pub none_at : (c z : Bool) → trio_value (trio_at none_turn c z) ≡ no_digits
none_at c z = grind (arith, none_value)

-- each part of a split without values is no digits
pub none_in : (z : Bool) → trio_value (trio_in none_split z) ≡ no_digits
none_in false = none_value
none_in true = none_value

-- a turn has no digits to a zero if there was none so far
pub edge_none : (t : Turn) (so_far c z : Bool) → so_far ≡ false → z ≡ true → no_digits ≡ edge_of t so_far c z
edge_none t so_far c z e h = grind arith

-- a value that is not in the second set leads nowhere
pub skip_below : (op : Operation) (s t : Set) (f g : Flags) (n : ℕ) (d : Digits) → is_in n t ≡ false → AreBelow op s t f g n d → AreBelow op s t f g (n + 1) d
skip_below op s t f g n d h p =
    let under : (x y : ℕ) → y < n + 1 → Leads op s t f g x y → y < n = λ x y l q. elim (cases_lt y n) [
      | inl k ↦ k
      | inr k ↦
          let e : y ≡ n = omega (arith, l, k) in
          absurd (both_ways (is_in n t) h (subst (λ (w : ℕ). is_in w t ≡ true) e q.second))
    ] in
    record {
      a_to = p.a_to;
      b_to = p.b_to;
      r_to = p.r_to;
      a_from = λ x y l q. p.a_from x y (under x y l q) q;
      b_from = λ x y l q. p.b_from x y (under x y l q) q;
      r_from = λ x y l q. p.r_from x y (under x y l q) q;
    }

leads_by : (op : Operation) (s t : Set) (f g : Flags) (x y : ℕ) → is_in y t ≡ true → (is_in x s && same_flags (flags_after op x y f) g) ≡ true → Leads op s t f g x y
leads_by op s t f g x y h k = grind (arith, and_parts)

leads_test : (op : Operation) (s t : Set) (f g : Flags) (x y : ℕ) → Leads op s t f g x y → (is_in x s && same_flags (flags_after op x y f) g) ≡ true
leads_test op s t f g x y l = and_from (is_in x s) (same_flags (flags_after op x y f) g) l.first l.flags

at_value : (op : Operation) (s t : Set) (f g : Flags) (x y n : ℕ) → y < n + 1 → n ≤ y → Leads op s t f g x y → Leads op s t f g x n
at_value op s t f g x y n l k q = grind (arith, Leads)

-- digits that grew by one value have what the values below the next one lead to
pub more_below : (op : Operation) (s t : Set) (f g : Flags) (n : ℕ) (d e : Digits) → is_in n t ≡ true
    → IsGrown d e (λ x. is_in x s && same_flags (flags_after op x n f) g) n (λ x. (digit op x n f.c).0) → AreBelow op s t f g n d → AreBelow op s t f g (n + 1) e
more_below op s t f g n d e h w p =
    record {
      a_to = λ v i. elim (w.from_a v i) [ inl q ↦ p.a_to v q | inr q ↦ (n, leads_by op s t f g v n h q) ];
      b_to = λ v i. elim (w.from_b v i) [
        | inl q ↦ p.b_to v q
        | inr q ↦ (q.1.0, subst (λ (y : ℕ). Leads op s t f g q.1.0 y) (sym q.0) (leads_by op s t f g q.1.0 n h q.1.1))
      ];
      r_to = λ v i. elim (w.from_r v i) [ inl q ↦ p.r_to v q | inr q ↦ (q.0, n, leads_by op s t f g q.0 n h q.1, q.2) ];
      a_from = λ x y l q. elim (cases_lt y n) [
        | inl k ↦ w.keeps_a x (p.a_from x y k q)
        | inr k ↦ w.adds_a x (leads_test op s t f g x n (at_value op s t f g x y n l k q))
      ];
      b_from = λ x y l q. elim (cases_lt y n) [
        | inl k ↦ w.keeps_b y (p.b_from x y k q)
        | inr k ↦
            let i : n ≡ y = omega (arith, l, k) in
            subst (λ (u : ℕ). is_in u e.b ≡ true) i (w.adds_b x (leads_test op s t f g x n (at_value op s t f g x y n l k q)))
      ];
      r_from = λ x y l q. elim (cases_lt y n) [
        | inl k ↦ w.keeps_r (digit op x y f.c).0 (p.r_from x y k q)
        | inr k ↦
            let i : n ≡ y = omega (arith, l, k) in
            subst (λ (u : ℕ). is_in (digit op x u f.c).0 e.r ≡ true) i (w.adds_r x (leads_test op s t f g x n (at_value op s t f g x y n l k q)))
      ];
    }

-- in the end they are those of the definition
pub all_below : (op : Operation) (xs ys : Values) (f g : Flags) (t : Trio) → AreBelow op (set_of xs) (set_of ys) f g 256 (trio_value t)
    → trio_value t ≡ digits_from op (set_of xs) (set_of ys) f g
all_below op xs ys f g t p =
    let u = set_of xs in
    let w = set_of ys in
    let d = digits_from op (set_of xs) (set_of ys) f g in
    same_digits (trio_value t) (digits_from op (set_of xs) (set_of ys) f g)
    (record { a = rises_values t.x.words; b = rises_values t.y.words; r = rises_values t.r.words })
    (rising_from op (set_of xs) (set_of ys) f g (rises_values xs.words) (rises_values ys.words))
    (λ v. same_tests (is_in v (set_of t.x)) (is_in v (digits_from op (set_of xs) (set_of ys) f g).a)
    (λ h. let q = p.a_to v h in first_from op v q.0 (set_of xs) (set_of ys) f g q.1)
    (λ h. let q = first_to op v (set_of xs) (set_of ys) f g h in p.a_from v q.0 (byte_of ys q.0 q.1.second) q.1))
    (λ v. same_tests (is_in v (set_of t.y)) (is_in v (digits_from op (set_of xs) (set_of ys) f g).b)
    (λ h. let q = p.b_to v h in second_from op q.0 v (set_of xs) (set_of ys) f g q.1)
    (λ h. let q = second_to op v (set_of xs) (set_of ys) f g h in p.b_from q.0 v (byte_of ys v q.1.second) q.1))
    (λ v. same_tests (is_in v (set_of t.r)) (is_in v (digits_from op (set_of xs) (set_of ys) f g).r)
    (λ h. let q = p.r_to v h in subst (λ (r : ℕ). is_in r (digits_from op (set_of xs) (set_of ys) f g).r ≡ true) q.3 (results_from op q.0 q.1 (set_of xs) (set_of ys) f g q.2))
    (λ h. let q = results_to op v (set_of xs) (set_of ys) f g h in
    subst (λ (r : ℕ). is_in r (set_of t.r) ≡ true) q.3 (p.r_from q.0 q.1 (byte_of ys q.1 q.2.second) q.2)))
