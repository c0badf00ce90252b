-- The seven cases of a command (ISO/IEC 7816-4): the parser's function and the relation agree.
use Rattle.std.proofs.Common.{◌≡◌, ◌≢◌, ℕ, zero, suc, ◌+◌, ◌*◌, ◌≤◌, ◌⊎◌, Bool, true, false, cond, ◌&&◌, List, [], ◌∷◌, length, take, drop, get_or, get_or-drop, Option, Some, None, refl, sym, ap, subst, inl, inr, add_assoc, lit≤, arith}
use Rattle.std.specs.Prelude.{nat_eq, nat_le, option_map}
use Rattle.std.proofs.lemmas.Bool.{eqb-true}
use Rattle.std.proofs.lemmas.Bool.Decides.{nat_tests}
use Rattle.model_machine.specs.model_device.specs.Bytes.{be2}
use Rattle.model_machine.specs.Apdu.{ApduParts, Rest, short_le, extended_le, short_rest, extended_body, extended_rest, rest_read, apdu_read, HasHeader, IsShort3, IsShort4, IsExtended3, IsExtended4, IsApdu}

-- the two branches of a conditional
chosen : {A : Type 0} (b : Bool) (x y z : A) → cond b x y ≡ z → ((b ≡ true) × (x ≡ z)) ⊎ ((b ≡ false) × (y ≡ z))
chosen true x y z e = inl (refl, e)
chosen false x y z e = inr (refl, e)

some_is : {A : Type 0} {x y : A} → Some x ≡ Some y → x ≡ y
some_is e = cc

-- an option whose image under a map is `Some`
read_some : {A B : Type 0} (f : A → B) (o : Option A) (y : B) → option_map f o ≡ Some y → (x : A) × (o ≡ Some x) × (f x ≡ y)
read_some f None y e = absurd cc
read_some f (Some x) y e = (x, refl, some_is e)

-- no command has fewer than four bytes
too_short : (b : List ℕ) (a : ApduParts) → IsApdu b a → length b ≤ 3 → ⊥
too_short b a c short =
    elim c.1 [
      | inl w ↦ omega (arith, w)
      | inr (inl w) ↦ omega (arith, w)
      | inr (inr (inl w)) ↦ omega (arith, w)
      | inr (inr (inr (inl w))) ↦ omega (arith, w)
      | inr (inr (inr (inr (inl w)))) ↦ omega (arith, w)
      | inr (inr (inr (inr (inr (inl w))))) ↦ omega (arith, w)
      | inr (inr (inr (inr (inr (inr w))))) ↦ omega (arith, w)
    ]

-- a big-endian word, n bytes further on
be2_drop : (n : ℕ) (l : List ℕ) (i : ℕ) → be2 (drop n l) i ≡ be2 l (n + i)
be2_drop n l i = rw (get_or-drop n l i 0, get_or-drop n l (i + 1) 0, ← add_assoc n i 1) refl

-- the command with this header and this rest
abbrev joined : ℕ → ℕ → ℕ → ℕ → Rest → ApduParts
joined cla ins p1 p2 r = record { cla = cla; ins = ins; p1 = p1; p2 = p2; p3 = r.p3; body = r.body; le = r.le }

module _ (cla ins p1 p2 : ℕ) where
  -- the header followed by the bytes after it
  abbrev behind : List ℕ → List ℕ
  behind rest = cla ∷ ins ∷ p1 ∷ p2 ∷ rest

  abbrev Case : List ℕ → Rest → Type 0
  Case rest r = IsApdu (behind rest) (joined cla ins p1 p2 r)

  -- these bytes have this header
  headed : (rest : List ℕ) (r : Rest) → HasHeader (behind rest) (joined cla ins p1 p2 r)
  headed rest r = record { cla = refl; ins = refl; p1 = refl; p2 = refl }

  -- with no byte or one byte after the header, what is read is one of the cases, and each case is read
  none_is : (r : Rest) → rest_read [] ≡ Some r → Case [] r
  none_is r e = grind (arith, nat_tests)

  one_is : (p3 : ℕ) (r : Rest) → rest_read (p3 ∷ []) ≡ Some r → Case (p3 ∷ []) r
  one_is p3 r e = grind (arith, nat_tests)

  is_none : (r : Rest) → Case [] r → rest_read [] ≡ Some r
  is_none r c = grind (arith, nat_tests)

  is_one : (p3 : ℕ) (r : Rest) → Case (p3 ∷ []) r → rest_read (p3 ∷ []) ≡ Some r
  is_one p3 r c = grind (arith, nat_tests)

  -- the short cases 3 and 4
  short_is : (lc x : ℕ) (xs : List ℕ) (r : Rest) → lc ≢ 0 → short_rest lc (x ∷ xs) ≡ Some r → Case (lc ∷ x ∷ xs) r
  short_is lc x xs r some e =
      let b = x ∷ xs in
      let three : Rest = record { p3 = lc; body = b; le = None } in
      let four : Rest = record { p3 = lc; body = take lc b; le = Some (short_le (get_or b lc 0)) } in
      let other = cond (nat_eq (length b) (lc + 1)) (Some four) None in
      elim (chosen (nat_eq (length b) lc) (Some three) other (Some r) e) [
        | inl w ↦
            let len : suc (length xs) ≡ lc = eqb-true _ _ w.0 in
            subst (Case (lc ∷ b)) (some_is w.1) (headed (lc ∷ b) three, inr (inr (inl (some, omega arith, (refl, refl, refl)))))
        | inr w ↦
            elim (chosen (nat_eq (length b) (lc + 1)) (Some four) None (Some r) w.1) [
              | inl v ↦
                  let len : suc (length xs) ≡ lc + 1 = eqb-true _ _ v.0 in
                  subst (Case (lc ∷ b)) (some_is v.1) (headed (lc ∷ b) four, inr (inr (inr (inl (some, omega arith, (refl, refl, ap (λ (n : ℕ). Some (short_le n)) (get_or-drop 5 (behind (lc ∷ b)) lc 0)))))))
              | inr v ↦ absurd cc
            ]
      ]

  -- the extended cases
  body_is : (h l x : ℕ) (xs : List ℕ) (r : Rest) → 1 ≤ 256 * h + l → 256 * h + l ≤ 1024 → extended_body (256 * h + l) (x ∷ xs) ≡ Some r → Case (0 ∷ h ∷ l ∷ x ∷ xs) r
  body_is h l x xs r low high e =
      let b = x ∷ xs in
      let lc = 256 * h + l in
      let three : Rest = record { p3 = 0; body = b; le = None } in
      let four : Rest = record { p3 = 0; body = take lc b; le = Some (extended_le (be2 b lc)) } in
      let other = cond (nat_eq (length b) (lc + 2)) (Some four) None in
      elim (chosen (nat_eq (length b) lc) (Some three) other (Some r) e) [
        | inl w ↦
            let len : suc (length xs) ≡ lc = eqb-true _ _ w.0 in
            subst (Case (0 ∷ h ∷ l ∷ b)) (some_is w.1) (headed (0 ∷ h ∷ l ∷ b) three, inr (inr (inr (inr (inr (inl (refl, low, high, omega arith, (refl, refl, refl))))))))
        | inr w ↦
            elim (chosen (nat_eq (length b) (lc + 2)) (Some four) None (Some r) w.1) [
              | inl v ↦
                  let len : suc (length xs) ≡ lc + 2 = eqb-true _ _ v.0 in
                  subst (Case (0 ∷ h ∷ l ∷ b)) (some_is v.1) (headed (0 ∷ h ∷ l ∷ b) four, inr (inr (inr (inr (inr (inr (refl, low, high, omega arith, (refl, refl, ap (λ (n : ℕ). Some (extended_le n)) (be2_drop 7 (behind (0 ∷ h ∷ l ∷ b)) lc)))))))))
              | inr v ↦ absurd cc
            ]
      ]

  extended_is : (h l : ℕ) (rest : List ℕ) (r : Rest) → extended_rest (h ∷ l ∷ rest) ≡ Some r → Case (0 ∷ h ∷ l ∷ rest) r
  extended_is h l [] r e = grind (arith, nat_tests)
  extended_is h l (x ∷ xs) r e =
      elim (chosen (nat_le 1 (256 * h + l) && nat_le (256 * h + l) 1024) (extended_body (256 * h + l) (x ∷ xs)) None (Some r) e) [
        | inl w ↦ body_is h l x xs r (grind (arith, nat_tests)) (grind (arith, nat_tests)) w.1
        | inr w ↦ absurd cc
      ]

  -- bytes after a header that have one of the cases are read as that case
  is_short : (lc x : ℕ) (xs : List ℕ) (r : Rest) → lc ≢ 0 → Case (lc ∷ x ∷ xs) r → rest_read (lc ∷ x ∷ xs) ≡ Some r
  is_short lc x xs r some c =
      elim c.1 [
        | inl w ↦ absurd (omega (arith, w))
        | inr (inl w) ↦ absurd (omega (arith, w))
        | inr (inr (inl w)) ↦ short3 w
        | inr (inr (inr (inl w))) ↦ short4 w
        | inr (inr (inr (inr (inl w)))) ↦ absurd (some w.0)
        | inr (inr (inr (inr (inr (inl w))))) ↦ absurd (some w.0)
        | inr (inr (inr (inr (inr (inr w))))) ↦ absurd (some w.0)
      ]
    where
      short3 : IsShort3 (behind (lc ∷ x ∷ xs)) (joined cla ins p1 p2 r) → rest_read (lc ∷ x ∷ xs) ≡ Some r
      short3 w = grind (arith, nat_tests)

      short4 : IsShort4 (behind (lc ∷ x ∷ xs)) (joined cla ins p1 p2 r) → rest_read (lc ∷ x ∷ xs) ≡ Some r
      short4 w = let v = rw (← get_or-drop 5 (behind (lc ∷ x ∷ xs)) lc 0) at w in grind (arith, nat_tests, v)

  is_extended : (h : ℕ) (rest : List ℕ) (r : Rest) → Case (0 ∷ h ∷ rest) r → rest_read (0 ∷ h ∷ rest) ≡ Some r
  is_extended h [] r c = grind (arith, nat_tests)
  is_extended h (l ∷ []) r c = grind (arith, nat_tests)
  is_extended h (l ∷ x ∷ xs) r c =
      elim c.1 [
        | inl w ↦ absurd (omega (arith, w))
        | inr (inl w) ↦ absurd (omega (arith, w))
        | inr (inr (inl w)) ↦ absurd (w.0 refl)
        | inr (inr (inr (inl w))) ↦ absurd (w.0 refl)
        | inr (inr (inr (inr (inl w)))) ↦ absurd (omega (arith, w))
        | inr (inr (inr (inr (inr (inl w))))) ↦ extended3 w
        | inr (inr (inr (inr (inr (inr w))))) ↦ extended4 w
      ]
    where
      extended3 : IsExtended3 (behind (0 ∷ h ∷ l ∷ x ∷ xs)) (joined cla ins p1 p2 r) → rest_read (0 ∷ h ∷ l ∷ x ∷ xs) ≡ Some r
      extended3 w = grind (arith, nat_tests)

      extended4 : IsExtended4 (behind (0 ∷ h ∷ l ∷ x ∷ xs)) (joined cla ins p1 p2 r) → rest_read (0 ∷ h ∷ l ∷ x ∷ xs) ≡ Some r
      extended4 w = let v = rw (← be2_drop 7 (behind (0 ∷ h ∷ l ∷ x ∷ xs)) (256 * h + l)) at w in grind (arith, nat_tests, v)

  -- the bytes after a header are read as r exactly if they have one of the cases with r
  rest_is : (rest : List ℕ) (r : Rest) → rest_read rest ≡ Some r → Case rest r
  rest_is [] r e = none_is r e
  rest_is (p3 ∷ []) r e = one_is p3 r e
  rest_is (zero ∷ h ∷ []) r e = absurd cc
  rest_is (zero ∷ h ∷ l ∷ rest) r e = extended_is h l rest r e
  rest_is (suc n ∷ x ∷ xs) r e = short_is (suc n) x xs r (omega arith) (grind (arith, nat_tests))

  is_rest : (rest : List ℕ) (r : Rest) → Case rest r → rest_read rest ≡ Some r
  is_rest [] r c = is_none r c
  is_rest (p3 ∷ []) r c = is_one p3 r c
  is_rest (zero ∷ h ∷ rest) r c = is_extended h rest r c
  is_rest (suc n ∷ x ∷ xs) r c = is_short (suc n) x xs r (omega arith) c

  whole_is : (rest : List ℕ) (a : ApduParts) → apdu_read (behind rest) ≡ Some a → IsApdu (behind rest) a
  unfolding apdu_read
  whole_is rest a e =
      let f : Rest → ApduParts = joined cla ins p1 p2 in
      let m = read_some f (rest_read rest) a e in
      subst (IsApdu (behind rest)) m.2 (rest_is rest m.0 m.1)

  is_whole : (rest : List ℕ) (a : ApduParts) → IsApdu (behind rest) a → apdu_read (behind rest) ≡ Some a
  unfolding apdu_read
  is_whole rest a c =
      let r : Rest = record { p3 = a.p3; body = a.body; le = a.le } in
      let cla_is : a.cla ≡ cla = c.0.cla in
      let ins_is : a.ins ≡ ins = c.0.ins in
      let p1_is : a.p1 ≡ p1 = c.0.p1 in
      let p2_is : a.p2 ≡ p2 = c.0.p2 in
      let same : joined cla ins p1 p2 r ≡ a = rw (← cla_is, ← ins_is, ← p1_is, ← p2_is) refl in
      rw (is_rest rest r (subst (IsApdu (behind rest)) (sym same) c)) (ap (λ (a : ApduParts). Some a) same)

pub seven : (b : List ℕ) (a : ApduParts) → (apdu_read b ≡ Some a → IsApdu b a) × (IsApdu b a → apdu_read b ≡ Some a)
unfolding apdu_read
seven [] a = (λ e. absurd cc, λ c. absurd (too_short [] a c (lit≤ tt)))
seven (b ∷ []) a = (λ e. absurd cc, λ c. absurd (too_short (b ∷ []) a c (lit≤ tt)))
seven (b ∷ b' ∷ []) a = (λ e. absurd cc, λ c. absurd (too_short (b ∷ b' ∷ []) a c (lit≤ tt)))
seven (b ∷ b' ∷ b'' ∷ []) a = (λ e. absurd cc, λ c. absurd (too_short (b ∷ b' ∷ b'' ∷ []) a c (lit≤ tt)))
seven (cla ∷ ins ∷ p1 ∷ p2 ∷ rest) a = (whole_is cla ins p1 p2 rest a, is_whole cla ins p1 p2 rest a)
