-- What an access can reach: by the number of bytes before a byte, and by the lengths.
use Rattle.std.specs.Prelude.{◌≡◌, ℕ, zero, suc, ◌+◌, ◌-◌, ◌/◌, ◌%◌, ◌<◌, ◌≤◌, Bool, true, false, not, ◌&&◌, ◌||◌, nat_lt, nat_le, List, [], ◌∷◌, refl}
use Rattle.std.proofs.Common.{arith, ap, sym, ◌∙◌, inl, inr}
use Rattle.std.proofs.lemmas.Bool.{lt-ltb, le-ltb, ltb-true, cases_lt}
use Rattle.mc_arith.specs.model_machine.specs.Frame.{Frame, is_outside}
use Rattle.prove_facts.specs.model_prove.specs.Sets.{Set, is_in, is_empty, common}
use Rattle.prove_facts.specs.model_prove.specs.Reach as reach
use Rattle.prove_facts.specs.declared.values.Values.{Values}
use Rattle.prove_facts.specs.Sets.{has_value, set_of}
use Rattle.prove_facts.proofs.SetLemmas.{out_values}
use Rattle.prove_works.specs.declared.reach.Reach.{Reach}
use Rattle.prove_works.specs.Reaches.{reach_value, has_length, reaches, reaches_below}
use Rattle.prove_works.proofs.SetSteps.{filter_values, some_is, byte_of}

-- whether some number below one passes two tests
abbrev below : (ℕ → Bool) → (ℕ → Bool) → ℕ → Bool
below p q zero = false
below p q (suc d) = (p d && q d) || below p q d

or_four : (o x y p q : Bool) → ((o && (x || y)) || (p || q)) ≡ (((o && x) || p) || ((o && y) || q))
or_four false x y p q = refl
or_four true true y p q = refl
or_four true false true true q = refl
or_four true false true false q = refl
or_four true false false p q = refl

below_or : (p q r : ℕ → Bool) (k : ℕ) → below p (λ d. q d || r d) k ≡ (below p q k || below p r k)
below_or p q r zero = refl
below_or p q r (suc d) =
    ap (λ (b : Bool). (p d && (q d || r d)) || b) (below_or p q r d) ∙ or_four (p d) (q d) (r d) (below p q d) (below p r d)

never : (o b : Bool) → b ≡ false → ((o && false) || b) ≡ false
never true b h = h
never false b h = h

below_none : (p : ℕ → Bool) (k : ℕ) → below p (λ d. false) k ≡ false
below_none p zero = refl
below_none p (suc d) = never (p d) (below p (λ d. false) d) (below_none p d)

below_less : (p q : ℕ → Bool) (n k : ℕ) → k ≤ n → below p (λ d. nat_lt d n && q d) k ≡ below p q k
below_less p q n zero h = refl
below_less p q n (suc d) h =
    ap (λ (b : Bool). (p d && (b && q d)) || below p (λ d. nat_lt d n && q d) d) (lt-ltb d n (omega (arith, h)))
    ∙ ap (λ (b : Bool). (p d && q d) || b) (below_less p q n d (omega (arith, h)))

dropped : (o x b : Bool) (l : Bool) → l ≡ false → ((o && (l && x)) || b) ≡ b
dropped true x b false h = refl
dropped false x b l h = refl
dropped true x b true h = absurd (cc h)

below_cut : (p q : ℕ → Bool) (n k : ℕ) → n ≤ k → below p (λ d. nat_lt d n && q d) k ≡ below p q n
below_cut p q n zero h = let e : 0 ≡ n = omega (arith, h) in ap (λ (m : ℕ). below p q m) e
below_cut p q n (suc k) h =
    elim (cases_lt k n) [
      | inl l ↦
          let e : suc k ≡ n = omega (arith, h, l) in
          below_less p q n (suc k) (omega (arith, l)) ∙ ap (λ (m : ℕ). below p q m) e
      | inr g ↦
          dropped (p k) (q k) (below p (λ d. nat_lt d n && q d) k) (nat_lt k n) (le-ltb k n g)
          ∙ below_cut p q n k g
    ]

-- whether an access may begin d bytes before a byte
abbrev begins : reach.Reach → ℕ → ℕ → Bool
begins r a d = nat_le d a && (is_in ((a - d) / 256) r.high && is_in ((a - d) % 256) r.low)

and_four : (a b c x : Bool) → (a && b && c && x) ≡ ((a && (b && c)) && x)
and_four false b c x = refl
and_four true false c x = refl
and_four true true false x = refl
and_four true true true x = refl

within_is : (f : Frame) (r : reach.Reach) (n a k : ℕ) → reach.is_reached_within f r n a k ≡ below (begins r a) (λ d. not (is_outside f (a - d) n)) k
within_is f r n a zero = refl
within_is f r n a (suc d) =
    ap (λ (b : Bool). (nat_le d a && is_in ((a - d) / 256) r.high && is_in ((a - d) % 256) r.low && not (is_outside f (a - d) n)) || b) (within_is f r n a d)
    ∙ ap (λ (b : Bool). b || below (begins r a) (λ d. not (is_outside f (a - d) n)) d)
    (and_four (nat_le d a) (is_in ((a - d) / 256) r.high) (is_in ((a - d) % 256) r.low) (not (is_outside f (a - d) n)))

reaches_is : (f : Frame) (r : reach.Reach) (a k : ℕ) → reaches_below f r a k ≡ below (begins r a) (λ d. has_length f r.lengths (a - d) d) k
reaches_is f r a zero = refl
reaches_is f r a (suc d) =
    ap (λ (b : Bool). reaches f r a d || b) (reaches_is f r a d)
    ∙ ap (λ (b : Bool). b || below (begins r a) (λ d. has_length f r.lengths (a - d) d) d)
    (and_four (nat_le d a) (is_in ((a - d) / 256) r.high) (is_in ((a - d) % 256) r.low) (has_length f r.lengths (a - d) d))

one_length : (f : Frame) (r : reach.Reach) (n a : ℕ) → n ≤ 255
    → below (begins r a) (λ d. nat_lt d n && not (is_outside f (a - d) n)) 255 ≡ reach.is_reached_within f r n a n
one_length f r n a h =
    below_cut (begins r a) (λ d. not (is_outside f (a - d) n)) n 255 h
    ∙ sym (within_is f r n a n)

by_lengths : (f : Frame) (r : reach.Reach) (a : ℕ) (ns : List ℕ) → ((n : ℕ) → is_in n ns ≡ true → n ≤ 255)
    → below (begins r a) (λ d. has_length f ns (a - d) d) 255 ≡ reach.is_reached_by f r ns a
by_lengths f r a [] h = below_none (begins r a) 255
by_lengths f r a (n ∷ ns) h =
    below_or (begins r a) (λ d. nat_lt d n && not (is_outside f (a - d) n)) (λ d. has_length f ns (a - d) d) 255
    ∙ ap (λ (b : Bool). b || below (begins r a) (λ d. has_length f ns (a - d) d) 255) (one_length f r n a (h n (grind arith)))
    ∙ ap (λ (b : Bool). reach.is_reached_within f r n a n || b) (by_lengths f r a ns (λ m i. h m (grind (arith, i))))

-- a byte is reached from one of the 255 bytes up to it
pub reached_is : (f : Frame) (r : Reach) (a : ℕ) → reaches_below f (reach_value r) a 255 ≡ reach.is_reached f (reach_value r) a
reached_is f r a =
    reaches_is f (reach_value r) a 255 ∙ by_lengths f (reach_value r) a (set_of r.lengths) (λ n i. let l = byte_of r.lengths n i in omega (arith, l))

or_true : (b c : Bool) → c ≡ true → (b || c) ≡ true
or_true true c h = refl
or_true false c h = h

or_first : (b c : Bool) → b ≡ true → (b || c) ≡ true
or_first true c h = refl
or_first false c h = absurd (cc h)

more_below : (f : Frame) (r : reach.Reach) (a k m : ℕ) → k ≤ m → reaches_below f r a k ≡ true → reaches_below f r a m ≡ true
more_below f r a k zero l h = let e : k ≡ 0 = omega (arith, l) in ap (λ (n : ℕ). reaches_below f r a n) (sym e) ∙ h
more_below f r a k (suc m) l h =
    elim (cases_lt m k) [
      | inl g ↦ let e : k ≡ suc m = omega (arith, l, g) in ap (λ (n : ℕ). reaches_below f r a n) (sym e) ∙ h
      | inr g ↦ or_true (reaches f r a m) (reaches_below f r a m) (more_below f r a k m g h)
    ]

-- a byte is reached if it is from some place
pub reached_here : (f : Frame) (r : Reach) (a d : ℕ) → d < 255 → reaches f (reach_value r) a d ≡ true → reach.is_reached f (reach_value r) a ≡ true
reached_here f r a d l h =
    sym (reached_is f r a)
    ∙ more_below f (reach_value r) a (suc d) 255 (omega (arith, l)) (or_first (reaches f (reach_value r) a d) (reaches_below f (reach_value r) a d) h)

-- ---- lengths

guarded : (b c d : Bool) → (b ≡ true → c ≡ d) → (b && c) ≡ (b && d)
guarded true c d h = h refl
guarded false c d h = refl

same_end : (f : Frame) (a end d n : ℕ) → ((n : ℕ) → 0 < n → nat_le (a + n) end ≡ not (is_outside f a n))
    → (nat_lt d n && nat_le (a + n) end) ≡ (nat_lt d n && not (is_outside f a n))
same_end f a end d n h = guarded (nat_lt d n) (nat_le (a + n) end) (not (is_outside f a n)) (λ t. let l = ltb-true d n t in h n (omega (arith, l)))

-- the lengths that have a byte d after an address and end by its segment's end
pub lengths_are : (f : Frame) (ns long : Values) (a end d : ℕ) (r : Bool)
    → ((n : ℕ) → 0 < n → nat_le (a + n) end ≡ not (is_outside f a n))
    → ((v : ℕ) → v < 256 → has_value long v ≡ (nat_lt d v && nat_le (a + v) end))
    → r ≡ is_empty (common (set_of ns) (set_of long))
    → not r ≡ has_length f (set_of ns) a d
lengths_are f ns long a end d r h i e =
    ap not e
    ∙ ap (λ (s : Set). not (is_empty s)) (filter_values ns long (λ n. nat_lt d n && not (is_outside f a n)) (λ v l. i v l ∙ same_end f a end d v h))
    ∙ some_is (λ n. nat_lt d n && not (is_outside f a n)) (set_of ns)

-- ---- turns of loops

-- a byte that is not reached, so that those after it decide
pub some_next : (f : Frame) (r : reach.Reach) (a n i : ℕ) (b c : Bool) → i < n → b ≡ reach.is_reached f r (a + i) → b ≡ false
    → reach.some_reached f r (a + i) (n - i) ≡ c → reach.some_reached f r (a + (i + 1)) (n - (i + 1)) ≡ c
some_next f r a n i b c l h e k =
    let m : n - i ≡ suc (n - (i + 1)) = omega (arith, l) in
    let u : a + (i + 1) ≡ suc (a + i) = omega arith in
    ap (λ (t : ℕ). reach.some_reached f r t (n - (i + 1))) u
    ∙ ap (λ (d : Bool). d || reach.some_reached f r (suc (a + i)) (n - (i + 1))) (sym e ∙ h)
    ∙ ap (λ (t : ℕ). reach.some_reached f r (a + i) t) (sym m)
    ∙ k

-- an address past the last one is none of two bytes
pub no_address : (s : Values) (a : ℕ) (b : Bool) → 65536 ≤ a → false ≡ (is_in (a / 256) (set_of s) && b)
no_address s a b h =
    let l : 256 ≤ a / 256 = omega (arith, h) in
    ap (λ (c : Bool). c && b) (sym (out_values s.words (a / 256) l))
