-- A write within a reach is covered: facts of bytes that are not reached hold after any write whose address and length are
-- in the reach, so does the last compare, and the open calls are those that it spares.
use Rattle.std.proofs.Common.{◌≡◌, ◌⊎◌, inl, inr, ℕ, zero, suc, ◌+◌, ◌-◌, ◌/◌, ◌%◌, ◌<◌, ◌≤◌, Bool, true, false, cond, List, [], ◌∷◌, ◌++◌, length, Option, Some, None, refl, sym, ap, subst, ◌∙◌, arith}
use Rattle.std.specs.Prelude.{◌&&◌, ◌||◌, ◌==◌, not, is_none, nat_lt, nat_le, map}
use Rattle.std.proofs.lemmas.Bool.{and_from, and_parts, or_left, or_right, or_parts, or_cases, eqb-true, eqb-false, le-leb, ltb-true, ltb-false, false_from_ne_true}
use Rattle.law_prove.specs.model_device.specs.Bytes.{AreBytes}
use Rattle.law_prove.specs.model_machine.specs.Frame.{Frame, Effect, where_is, is_outside, dynamic_base}
use Rattle.law_prove.specs.model_machine.specs.Shapes.{Writes, act_effect}
use Rattle.law_prove.specs.model_rules.specs.Keeping.{Amounts}
use Rattle.law_prove.specs.model_prove.specs.Sets.{Set, is_in}
use Rattle.law_prove.specs.model_prove.specs.Facts.{Facts, Memory, Holds, know_all}
use Rattle.law_prove.specs.model_prove.specs.Compares.{Compare, NoCompare, Bounds, Ordered, meet, bytes_from, IsSo}
use Rattle.law_prove.specs.model_prove.specs.Keys.{Start, Call, Known, calls_after_write}
use Rattle.law_prove.specs.model_prove.specs.Laws.{Among}
use Rattle.law_prove.specs.model_prove.specs.Reach.{Reach, is_reached_within, is_reached_by, is_reached, some_reached, facts_not_reached, compare_not_reached, calls_hit}
use Rattle.law_prove.specs.model_prove.specs.Arrivals.{Setting, static_size}
use Rattle.law_prove.specs.model_prove.specs.Steps.{any_bytes, acted, makes_write, reached_spot}
use Rattle.law_prove.specs.model_prove.proofs.SetLemmas.{is_first}
use Rattle.law_prove.specs.Coverings.{frame_memory}
use Rattle.law_prove.proofs.Seen.{Seen, fit_any, fit_length}
use Rattle.law_prove.proofs.Acts.{spot_of, Framed, WritesIf, Led, writes_led}
use Rattle.law_prove.proofs.Blocks.{among_mapped, among_right}

-- ---- what is reached

within_by : (f : Frame) (r : Reach) (n a i d : ℕ) (b : Bool) → (i == d) ≡ b → is_in (a / 256) r.high ≡ true → is_in (a % 256) r.low ≡ true → is_outside f a n ≡ false → i < suc d
    → (i < d → is_reached_within f r n (a + i) d ≡ true) → is_reached_within f r n (a + i) (suc d) ≡ true
within_by f r n a i d true e high low inside less rest =
    let is : i ≡ d = eqb-true i d e in
    let start : a + i - d ≡ a = omega (arith, is) in
    let x = a + i in
    let test : ℕ → Bool = λ (y : ℕ). nat_le d x && is_in (y / 256) r.high && is_in (y % 256) r.low && not (is_outside f y n) in
    let holds : test a ≡ true = grind (arith, and_from, le-leb) in
    or_left (test (x - d)) (is_reached_within f r n x d) (rw start holds)
within_by f r n a i d false e high low inside less rest =
    let other = eqb-false i d e in
    let x = a + i in
    or_right (nat_le d x && is_in ((x - d) / 256) r.high && is_in ((x - d) % 256) r.low && not (is_outside f (x - d) n)) (is_reached_within f r n x d) (rest (omega (arith, less, other)))

within : (f : Frame) (r : Reach) (n a i d : ℕ) → is_in (a / 256) r.high ≡ true → is_in (a % 256) r.low ≡ true → is_outside f a n ≡ false → i < d → is_reached_within f r n (a + i) d ≡ true
within f r n a i zero high low inside less = absurd (omega (arith, less))
within f r n a i (suc d) high low inside less = within_by f r n a i d (i == d) refl high low inside less (λ more. within f r n a i d high low inside more)

reached_by : (f : Frame) (r : Reach) (ns : List ℕ) (n a i : ℕ) → is_in n ns ≡ true → is_in (a / 256) r.high ≡ true → is_in (a % 256) r.low ≡ true → is_outside f a n ≡ false → i < n → is_reached_by f r ns (a + i) ≡ true
reached_by f r [] n a i some high low inside less = absurd (cc some)
reached_by f r (m ∷ ns) n a i some high low inside less =
    elim (or_cases (m == n) (is_in n ns) some) [
      | inl e ↦ or_left (is_reached_within f r m (a + i) m) (is_reached_by f r ns (a + i)) (rw (eqb-true m n e) (within f r n a i n high low inside less))
      | inr more ↦ or_right (is_reached_within f r m (a + i) m) (is_reached_by f r ns (a + i)) (reached_by f r ns n a i more high low inside less)
    ]

-- each of n bytes at an address is reached
abbrev pub IsWithin : Frame → Reach → ℕ → ℕ → Type 0
IsWithin f r a n = (x : ℕ) → a ≤ x → x < a + n → is_reached f r x ≡ true

-- a byte of an access with one of the lengths at one of the addresses, whole in a segment, is reached
pub is_within : (f : Frame) (r : Reach) (a n : ℕ) → is_in n r.lengths ≡ true → is_in (a / 256) r.high ≡ true → is_in (a % 256) r.low ≡ true → is_outside f a n ≡ false → IsWithin f r a n
is_within f r a n some high low inside x from less =
    let i = x - a in
    let at : a + i ≡ x = omega (arith, from) in
    rw (← at) (reached_by f r r.lengths n a i some high low inside (omega (arith, from, less)))

-- a byte that is not reached is not written
pub not_within : (f : Frame) (r : Reach) (a n x : ℕ) → IsWithin f r a n → is_reached f r x ≡ false → (x < a) ⊎ (a + n ≤ x)
not_within f r a n x all none = by (nat_lt x a) (nat_lt x (a + n)) refl refl
  where
    by : (p q : Bool) → nat_lt x a ≡ p → nat_lt x (a + n) ≡ q → (x < a) ⊎ (a + n ≤ x)
    by true q e d = inl (ltb-true x a e)
    by false false e d = inr (ltb-false x (a + n) d)
    by false true e d = absurd (cc (sym none ∙ all x (ltb-false x a e) (ltb-true x (a + n) d)))

some_by : (f : Frame) (r : Reach) (x a n : ℕ) (b : Bool) → (x == a) ≡ b → is_reached f r x ≡ true → a ≤ x → (suc a ≤ x → some_reached f r (suc a) n ≡ true) → some_reached f r a (suc n) ≡ true
some_by f r x a n true e is low rest = or_left (is_reached f r a) (some_reached f r (suc a) n) (rw (← eqb-true x a e) is)
some_by f r x a n false e is low rest = let other = eqb-false x a e in or_right (is_reached f r a) (some_reached f r (suc a) n) (rest (omega (arith, low, other)))

-- one of n bytes is reached if it is
pub some_is : (f : Frame) (r : Reach) (x a n : ℕ) → is_reached f r x ≡ true → a ≤ x → x < a + n → some_reached f r a n ≡ true
some_is f r x a zero is low high = absurd (omega (arith, low, high))
some_is f r x a (suc n) is low high = some_by f r x a n (x == a) refl is low (λ more. some_is f r x (suc a) n is more (omega (arith, high)))

-- if none is reached, each is not
pub none_is : (f : Frame) (r : Reach) (a n x : ℕ) → some_reached f r a n ≡ false → a ≤ x → x < a + n → is_reached f r x ≡ false
none_is f r a n x none low high = false_from_ne_true (is_reached f r x) (λ is. absurd (cc (sym none ∙ some_is f r x a n is low high)))

-- ---- facts

kept_fact : (b : Bool) (e : ℕ × Set) (rest : Facts) (m : Memory) → (b ≡ false → is_in (m e.0) e.1 ≡ true) → Holds rest m → Holds (cond (not b) (e ∷ rest) rest) m
kept_fact true e rest m is h = h
kept_fact false e rest m is h = (is refl, h)

-- facts of bytes that are not reached hold of a memory that is the same there
pub unreached_holds : (f : Frame) (r : Reach) (facts : Facts) (m k : Memory) → ((x : ℕ) → is_reached f r x ≡ false → m x ≡ k x) → Holds facts m → Holds (facts_not_reached f r facts) k
unreached_holds f r [] m k same h = tt
unreached_holds f r (e ∷ facts) m k same h =
    kept_fact (is_reached f r e.0) e (facts_not_reached f r facts) k (λ none. rw (← same e.0 none) h.0) (unreached_holds f r facts m k same h.1)

-- ---- the last compare

same_from : (m k : Memory) (a n : ℕ) → ((x : ℕ) → a ≤ x → x < a + n → m x ≡ k x) → bytes_from m a n ≡ bytes_from k a n
same_from m k a zero same = refl
same_from m k a (suc n) same =
    let first : m a ≡ k a = same a (omega arith) (omega arith) in
    let rest : bytes_from m (suc a) n ≡ bytes_from k (suc a) n = same_from m k (suc a) n (λ x low high. same x (omega (arith, low)) (omega (arith, high))) in
    ap (λ (v : ℕ). v ∷ bytes_from m (suc a) n) first ∙ ap (λ (t : List ℕ). k a ∷ t) rest

so_unless : (b : Bool) (c : Compare) (m : Memory) → (b ≡ false → IsSo c m) → IsSo (cond b NoCompare c) m
so_unless true c m h = tt
so_unless false c m h = h refl

-- what it says of bytes that are not reached is so of a memory that is the same there
pub unreached_so : (f : Frame) (r : Reach) (c : Compare) (m k : Memory) → ((x : ℕ) → is_reached f r x ≡ false → m x ≡ k x) → IsSo c m → IsSo (compare_not_reached f r c) k
unreached_so f r NoCompare m k same h = tt
unreached_so f r (Bounds a n l i) m k same h =
    so_unless (some_reached f r a n) (Bounds a n l i) k (λ none.
    rw (← same_from m k a n (λ x low high. same x (none_is f r a n x none low high))) h)
unreached_so f r (Ordered a n c o) m k same h =
    so_unless (some_reached f r a n || some_reached f r c n) (Ordered a n c o) k (λ none.
    let p = or_parts (some_reached f r a n) (some_reached f r c n) none in
    rw (← same_from m k c n (λ x low high. same x (none_is f r c n x p.1 low high)), ← same_from m k a n (λ x low high. same x (none_is f r a n x p.0 low high))) h)

-- ---- open calls

-- four bytes of a call and n bytes that meet have one in common, which is reached
met_reached : (f : Frame) (r : Reach) (a n x : ℕ) → IsWithin f r a n → 0 < n → meet x 4 a n ≡ true → some_reached f r x 4 ≡ true
met_reached f r a n x all some h = by (nat_lt x a) refl
  where
    p : (nat_lt x (a + n) ≡ true) × (nat_lt a (x + 4) ≡ true)
    p = and_parts (nat_lt x (a + n)) (nat_lt a (x + 4)) h

    by : (b : Bool) → nat_lt x a ≡ b → some_reached f r x 4 ≡ true
    by true e =
        let low = ltb-true x a e in
        let high = ltb-true a (x + 4) p.1 in
        some_is f r a x 4 (all a (omega arith) (omega (arith, some))) (omega (arith, low)) high
    by false e =
        let low = ltb-false x a e in
        let high = ltb-true x (a + n) p.0 in
        some_is f r x x 4 (all x low high) (omega arith) (omega arith)

cut_by : (b : Bool) (hit : Bool) (c : Call) (rest : List Call) (lists : List (List Call)) → (b ≡ true → hit ≡ true) → Among rest lists → Among (cond b [] (c ∷ rest)) ((cond hit ([] ∷ []) []) ++ map (λ rest. c ∷ rest) lists)
cut_by true true c rest lists h among = inl refl
cut_by true false c rest lists h among = absurd (cc (h refl))
cut_by false hit c rest lists h among = among_right (c ∷ rest) (cond hit ([] ∷ []) []) (map (λ rest. c ∷ rest) lists) (among_mapped (λ (rest : List Call). c ∷ rest) rest lists among)

-- the calls that a write spares are one of the lists of those within reach
pub spared_among : (f : Frame) (r : Reach) (a n : ℕ) (cs : List Call) → IsWithin f r a n → 0 < n → Among (calls_after_write a n cs) (calls_hit f r cs)
spared_among f r a n [] all some = inl refl
spared_among f r a n (c ∷ cs) all some =
    cut_by (meet (c.dt - 4) 4 a n) (some_reached f r (c.dt - 4) 4) c (calls_after_write a n cs) (calls_hit f r cs) (met_reached f r a n (c.dt - 4) all some) (spared_among f r a n cs all some)

-- ---- bytes that a write leaves

-- a fact of another byte stays
without_other : (b : Bool) (e : ℕ × Set) (a : ℕ) → (e.0 == a) ≡ b → (e.0 ≡ a → ⊥) → cond (not b) (e ∷ []) [] ≡ e ∷ []
without_other true e a is other = absurd (other (eqb-true e.0 a is))
without_other false e a is other = refl

unknown_other : (a n : ℕ) (e : ℕ × Set) → (e.0 < a) ⊎ (a + n ≤ e.0) → know_all a (any_bytes n) (e ∷ []) ≡ e ∷ []
unknown_other a zero e o = refl
unknown_other a (suc n) e o =
    ap (λ (f : Facts). know_all (suc a) (any_bytes n) f) (without_other (e.0 == a) e a refl (λ is. elim o [ inl low ↦ omega (arith, is, low) | inr high ↦ omega (arith, is, high) ]))
    ∙ unknown_other (suc a) n e (elim o [ inl low ↦ inl (omega (arith, low)) | inr high ↦ inr (omega (arith, high)) ])

only_value : (v w : ℕ) → is_in v (w ∷ []) ≡ true → w ≡ v
only_value v w h =
    elim (or_cases (w == v) false h) [
      | inl e ↦ eqb-true w v e
      | inr none ↦ absurd (cc none)
    ]

module _ (s : Setting) (small : static_size s ≤ dynamic_base) (st : Start) (al : Amounts) (f : Frame) (public : List ℕ) (a n : ℕ) (b : List ℕ) (bytes : AreBytes b) (some : 0 < length b) (there : is_none (where_is f a (length b)) ≡ false) (whole : 1041 ≤ length public)
    (framed : Framed s.app f) where
  -- the effect of the write
  abbrev after : Effect
  after = act_effect (Writes a n b) f public

  written_over : (calls : List Call) (k : Known) → Seen calls k f public → Led s st al (acted s (Writes a n b) (any_bytes (length b)) (spot_of st al f calls k)) (makes_write s f.protected (Writes a n b)) after
  written_over calls k seen = writes_led s small st al f public calls k a n b (any_bytes (length b)) there (fit_any b bytes) some whole framed seen

  -- a byte beside what is written stays
  pub beside_stays : (lb_calls : List Call) (k : Known) (seen : Seen lb_calls k f public) (x : ℕ) → (x < a) ⊎ (a + length b ≤ x) → frame_memory f public x ≡ frame_memory after.frame after.public x
  beside_stays calls k seen x o =
      let m : Memory = frame_memory f public in
      let e : ℕ × Set = (x, m x ∷ []) in
      let one : Known = record { bytes = e ∷ []; kept = []; compare = NoCompare } in
      let led = written_over calls one (record { open_calls = seen.open_calls; holds = (is_first (m x) [], tt); compares = tt; keeps = λ on session d. tt }) in
      let holds : Holds (know_all a (any_bytes (length b)) (e ∷ [])) (frame_memory after.frame after.public) = led.seen.holds in
      let is : Holds (e ∷ []) (frame_memory after.frame after.public) = subst (λ (z : Facts). Holds z (frame_memory after.frame after.public)) (unknown_other a (length b) e o) holds in
      only_value (frame_memory after.frame after.public x) (m x) is.0

  -- a write within a reach leads to the spot of the calls that it spares
  pub reached_led : (e : Frame) (r : Reach) (w : Bool) (calls : List Call) (k : Known) → IsWithin e r a (length b) → (makes_write s f.protected (Writes a n b) ≡ true → w ≡ true) → Seen calls k f public
      → Led s st al (reached_spot e r (spot_of st al f calls k) (calls_after_write a (length b) calls)) w after
  reached_led e r w calls k all makes seen =
      let m : Memory = frame_memory f public in
      let l : Memory = frame_memory after.frame after.public in
      let cs = calls_after_write a (length b) calls in
      let count : length (any_bytes (length b)) ≡ length b = fit_length b (any_bytes (length b)) (fit_any b bytes) in
      let led = written_over calls k seen in
      let same : (x : ℕ) → is_reached e r x ≡ false → m x ≡ l x = λ x none. beside_stays calls k seen x (not_within e r a (length b) x all none) in
      record {
        key = rw (← count) led.key;
        seen = grind (arith, unreached_holds, unreached_so);
        framed = led.framed;
        writes = writes_if after.changes (makes_write s f.protected (Writes a n b)) w makes led.writes;
      }
    where
      writes_if : (o : Option (List (ℕ × List ℕ))) (v w : Bool) → (v ≡ true → w ≡ true) → WritesIf v o → WritesIf w o
      writes_if None v w more h = tt
      writes_if (Some ps) v w more h = more h
