-- What is known after a write within a reach.
use Rattle.std.specs.Prelude.{◌≡◌, ◌⊎◌, ℕ, zero, suc, ◌+◌, ◌-◌, ◌/◌, ◌%◌, ◌<◌, ◌≤◌, Bool, true, false, cond, not, ◌&&◌, ◌||◌, nat_lt, nat_le, ◌==◌, List, [], ◌∷◌, ◌++◌, length, map, filter, Option, None, refl}
use Rattle.std.specs.List.{AllByRecursion}
use Rattle.std.proofs.Common.{arith, ap, sym, subst, ◌∙◌, inl, inr, eq-eqb}
use Rattle.std.proofs.lemmas.Bool.{eqb-true, leb-true, and_parts, or_cases, cases_Bool}
use Rattle.model_sums.specs.model_device.specs.Bytes.{num}
use Rattle.model_sums.specs.model_machine.specs.Frame.{Frame, dynamic_base, dynamic_end, public_base, public_end, is_outside}
use Rattle.model_sums.specs.model_rules.specs.Rules.{Total}
use Rattle.model_sums.specs.model_rules.specs.Keeping.{Sum}
use Rattle.model_sums.specs.model_prove.specs.Sets.{numbers_from, is_in}
use Rattle.model_sums.specs.model_prove.specs.Facts.{Memory}
use Rattle.model_sums.specs.model_prove.specs.Reach.{Reach, is_reached_within, is_reached_by, is_reached, some_reached}
use Rattle.model_sums.specs.Forms.{Form}
use Rattle.model_sums.specs.Origins.{Origin, Unknown, Origins, unlisted, listed_or}
use Rattle.model_sums.specs.Sums.{More, Sums}
use Rattle.model_sums.specs.Says.{number_at, IsFrom, MoreHolds, OffHolds, OffsHold, Holds}
use Rattle.model_sums.specs.Moves.{reached_places, offs_not_reached, reached}
use Rattle.law_sums.proofs.Bytes.{same_bytes}
use Rattle.law_sums.proofs.OriginMoves.{from_dynamic, dynamic_from}
use Rattle.law_sums.proofs.MoveLemmas.{off_same, more_same}

-- ---- blocks

or_false_first : (a b : Bool) → (a || b) ≡ false → a ≡ false
or_false_first true b e = absurd (cc e)
or_false_first false b e = refl

or_false_second : (a b : Bool) → (a || b) ≡ false → b ≡ false
or_false_second true b e = absurd (cc e)
or_false_second false b e = e

not_reached : (f : Frame) (r : Reach) (a n x : ℕ) → some_reached f r a n ≡ false → a ≤ x → x < a + n → is_reached f r x ≡ false
not_reached f r a zero x e low high = absurd (omega (arith, low, high))
not_reached f r a (suc n) x e low high =
    elim (cases_Bool (a == x)) [
      | inl i ↦ subst (λ (y : ℕ). is_reached f r y ≡ false) (eqb-true a x i) (or_false_first (is_reached f r a) (some_reached f r (suc a) n) e)
      | inr i ↦
          let above : suc a ≤ x = grind (arith, i, low) in
          not_reached f r (suc a) n x (or_false_second (is_reached f r a) (some_reached f r (suc a) n) e) above (omega (arith, high))
    ]

number_not_reached : (f : Frame) (r : Reach) (m k : Memory) (a n : ℕ) → ((b : ℕ) → is_reached f r b ≡ false → m b ≡ k b) → some_reached f r a n ≡ false
    → number_at m a n ≡ number_at k a n
number_not_reached f r m k a n s e = ap num (same_bytes m k a n (λ x low high. s x (not_reached f r a n x e low high)))

off_by : (b : Bool) (f : Frame) (r : Reach) (first : List ℕ) (m k : Memory) (sums : List Sum) (t : Total) (o : Option Form) → some_reached f r t.at t.n ≡ b
    → ((b : ℕ) → is_reached f r b ≡ false → m b ≡ k b) → OffHolds first m sums t o → OffHolds first k sums t (cond b None o)
off_by true f r first m k sums t o e s h = tt
off_by false f r first m k sums t o e s h = off_same first m k sums t o (number_not_reached f r m k t.at t.n s e) h

offs_reached : (f : Frame) (r : Reach) (first : List ℕ) (m k : Memory) (sums : List Sum) (ts : List Total) (os : List (Option Form))
    → ((b : ℕ) → is_reached f r b ≡ false → m b ≡ k b) → OffsHold first m sums ts os → OffsHold first k sums ts (offs_not_reached f r ts os)
offs_reached f r first m k sums [] os s h = tt
offs_reached f r first m k sums (t ∷ ts) [] s h = tt
offs_reached f r first m k sums (t ∷ ts) (o ∷ os) s h =
    (off_by (some_reached f r t.at t.n) f r first m k sums t o refl s h.0, offs_reached f r first m k sums ts os s h.1)

more_by : (b c : Bool) (f : Frame) (r : Reach) (first : List ℕ) (m k : Memory) (q : More) (rest : List More) → some_reached f r q.at q.n ≡ b → some_reached f r q.from q.n ≡ c
    → ((x : ℕ) → is_reached f r x ≡ false → m x ≡ k x) → MoreHolds first m q → AllByRecursion (MoreHolds first k) rest
    → AllByRecursion (MoreHolds first k) (cond (not (b || c)) (q ∷ rest) rest)
more_by b c f r first m k q rest e i s h o = grind (arith, more_same, number_not_reached)

mores_reached : (f : Frame) (r : Reach) (first : List ℕ) (m k : Memory) (qs : List More) → ((x : ℕ) → is_reached f r x ≡ false → m x ≡ k x)
    → AllByRecursion (MoreHolds first m) qs
    → AllByRecursion (MoreHolds first k) (filter (λ q. not (some_reached f r q.at q.n || some_reached f r q.from q.n)) qs)
mores_reached f r first m k [] s h = tt
mores_reached f r first m k (q ∷ qs) s h = grind (arith, more_by, mores_reached f r first m k qs s h.1)

-- ---- where a byte lies that is reached

-- an access that has a byte lies in a segment
record Access (f : Frame) (x : ℕ) : Type 0 where
  at : ℕ
  n : ℕ
  low : at ≤ x
  high : x < at + n
  inside : is_outside f at n ≡ false

not_true : (b : Bool) → not b ≡ true → b ≡ false
not_true true e = absurd (cc e)
not_true false e = refl

within_access : (f : Frame) (r : Reach) (n x d : ℕ) → d ≤ n → is_reached_within f r n x d ≡ true → Access f x
within_access f r n x zero h e = absurd (cc e)
within_access f r n x (suc d) h e =
    elim (or_cases (nat_le d x && is_in ((x - d) / 256) r.high && is_in ((x - d) % 256) r.low && not (is_outside f (x - d) n)) (is_reached_within f r n x d) e) [
      | inl i ↦
          let p = and_parts (nat_le d x && is_in ((x - d) / 256) r.high && is_in ((x - d) % 256) r.low) (not (is_outside f (x - d) n)) i in
          let q = and_parts (nat_le d x && is_in ((x - d) / 256) r.high) (is_in ((x - d) % 256) r.low) p.0 in
          let o = and_parts (nat_le d x) (is_in ((x - d) / 256) r.high) q.0 in
          let below : d ≤ x = leb-true d x o.0 in
          record {
            at = x - d;
            n = n;
            low = omega arith;
            high = omega (arith, below, h);
            inside = not_true (is_outside f (x - d) n) p.1;
          }
      | inr i ↦ within_access f r n x d (omega (arith, h)) i
    ]

by_access : (f : Frame) (r : Reach) (ns : List ℕ) (x : ℕ) → is_reached_by f r ns x ≡ true → Access f x
by_access f r [] x e = absurd (cc e)
by_access f r (n ∷ ns) x e = elim (or_cases (is_reached_within f r n x n) (is_reached_by f r ns x) e) [
  | inl i ↦ within_access f r n x n (omega arith) i
  | inr i ↦ by_access f r ns x i
]

-- a byte of the dynamic or of the public segment
abbrev InSegment : ℕ → Type 0
InSegment x = ((dynamic_base ≤ x) × (x < dynamic_end)) ⊎ ((public_base ≤ x) × (x < public_end))

access_in : (f : Frame) (x : ℕ) → Access f x → length f.fixed ≤ dynamic_base → f.dt ≤ dynamic_end → dynamic_base ≤ x → InSegment x
access_in f x a s t h = grind (arith, a.low, a.high)

-- ---- origins

abbrev IsAmong : ℕ → List ℕ → Type 0
IsAmong x [] = ⊥
IsAmong x (y ∷ ys) = (y ≡ x) ⊎ IsAmong x ys

among_numbers : (x a n : ℕ) → a ≤ x → x < a + n → IsAmong x (numbers_from a n)
among_numbers x a zero low high = absurd (omega (arith, low, high))
among_numbers x a (suc n) low high =
    elim (cases_Bool (a == x)) [
      | inl i ↦ inl (eqb-true a x i)
      | inr i ↦
          let above : suc a ≤ x = grind (arith, i, low) in
          inr (among_numbers x (suc a) n above (omega (arith, high)))
    ]

among_first : (x : ℕ) (xs ys : List ℕ) → IsAmong x xs → IsAmong x (xs ++ ys)
among_first x [] ys h = absurd h
among_first x (y ∷ xs) ys (inl h) = inl h
among_first x (y ∷ xs) ys (inr h) = inr (among_first x xs ys h)

among_second : (x : ℕ) (xs ys : List ℕ) → IsAmong x ys → IsAmong x (xs ++ ys)
among_second x [] ys h = h
among_second x (y ∷ xs) ys h = inr (among_second x xs ys h)

-- listed as not known, before others
abbrev marked : List ℕ → List (ℕ × Origin) → List (ℕ × Origin)
marked xs l = map (λ a. (a, Unknown)) xs ++ l

spared_one : (b i : Bool) (test : ℕ → Bool) (y x : ℕ) (ys : List ℕ) (l : List (ℕ × Origin)) (other : Origin) → test y ≡ b → (y == x) ≡ i → test x ≡ false
    → listed_or other (marked ys l) x ≡ listed_or other l x → listed_or other (marked (cond b (y ∷ ys) ys) l) x ≡ listed_or other l x
spared_one b i test y x ys l other e k h r = grind (arith, eqb-true)

spared : (test : ℕ → Bool) (x : ℕ) (xs : List ℕ) (l : List (ℕ × Origin)) (other : Origin) → test x ≡ false
    → listed_or other (marked (filter test xs) l) x ≡ listed_or other l x
spared test x [] l other h = refl
spared test x (y ∷ ys) l other h = spared_one (test y) (y == x) test y x (filter test ys) l other refl refl h (spared test x ys l other h)

cond_both : (b : Bool) (g i : Origin) → g ≡ i → cond b i g ≡ i
cond_both true g i e = refl
cond_both false g i e = e

hit_one : (b : Bool) (y x : ℕ) (ys : List ℕ) (l : List (ℕ × Origin)) (other : Origin) → b ≡ true → y ≡ x → listed_or other (marked (cond b (y ∷ ys) ys) l) x ≡ Unknown
hit_one true y x ys l other e h = ap (λ (z : Bool). cond z Unknown (listed_or other (marked ys l) x)) (eq-eqb y x h)
hit_one false y x ys l other e h = absurd (cc e)

hit_more : (b : Bool) (y x : ℕ) (ys : List ℕ) (l : List (ℕ × Origin)) (other : Origin) → listed_or other (marked ys l) x ≡ Unknown
    → listed_or other (marked (cond b (y ∷ ys) ys) l) x ≡ Unknown
hit_more true y x ys l other r = cond_both (y == x) (listed_or other (marked ys l) x) Unknown r
hit_more false y x ys l other r = r

hit : (test : ℕ → Bool) (x : ℕ) (xs : List ℕ) (l : List (ℕ × Origin)) (other : Origin) → test x ≡ true → IsAmong x xs
    → listed_or other (marked (filter test xs) l) x ≡ Unknown
hit test x [] l other h i = absurd i
hit test x (y ∷ ys) l other h (inl e) = hit_one (test y) y x (filter test ys) l other (ap test e ∙ h) e
hit test x (y ∷ ys) l other h (inr i) = hit_more (test y) y x (filter test ys) l other (hit test x ys l other h i)

among_places : (x : ℕ) → InSegment x → IsAmong x (numbers_from dynamic_base (dynamic_end - dynamic_base) ++ numbers_from public_base (public_end - public_base))
among_places x (inl h) =
    among_first x (numbers_from dynamic_base (dynamic_end - dynamic_base)) (numbers_from public_base (public_end - public_base))
    (among_numbers x dynamic_base (dynamic_end - dynamic_base) h.0 (omega (arith, h.1)))
among_places x (inr h) =
    among_second x (numbers_from dynamic_base (dynamic_end - dynamic_base)) (numbers_from public_base (public_end - public_base))
    (among_numbers x public_base (public_end - public_base) h.0 (omega (arith, h.1)))

-- an address that is not below the stack lies at it or above
pub above_base : (c : ℕ) → nat_lt c dynamic_base ≡ false → dynamic_base ≤ c
above_base c e = grind (arith, e)

reached_from : (f : Frame) (r : Reach) (first : List ℕ) (m k : Memory) (o : Origins) (c : ℕ) → length f.fixed ≤ dynamic_base → f.dt ≤ dynamic_end
    → ((b : ℕ) → is_reached f r b ≡ false → m b ≡ k b) → dynamic_base ≤ c → IsFrom first (listed_or (unlisted o.own c) o.listed c) (m c)
    → IsFrom first (listed_or (unlisted o.own c) (marked (reached_places f r) o.listed) c) (k c)
reached_from f r first m k o c i j s above h =
    elim (cases_Bool (is_reached f r c)) [
      | inl e ↦
          subst (λ (g : Origin). IsFrom first g (k c))
          (sym (hit (is_reached f r) c (numbers_from dynamic_base (dynamic_end - dynamic_base) ++ numbers_from public_base (public_end - public_base)) o.listed (unlisted o.own c) e
          (among_places c (access_in f c (by_access f r r.lengths c e) i j above))))
          tt
      | inr e ↦
          subst (λ (g : Origin). IsFrom first g (k c))
          (sym (spared (is_reached f r) c (numbers_from dynamic_base (dynamic_end - dynamic_base) ++ numbers_from public_base (public_end - public_base)) o.listed (unlisted o.own c) e))
          (subst (λ (v : ℕ). IsFrom first (listed_or (unlisted o.own c) o.listed c) v) (s c e) h)
    ]

-- what is known after a write within a reach holds
pub reached_holds : (ts : List Total) (u : Sums) (first : List ℕ) (m k : Memory) (sums : List Sum) (f : Frame) (r : Reach) → length f.fixed ≤ dynamic_base → f.dt ≤ dynamic_end
    → ((b : ℕ) → is_reached f r b ≡ false → m b ≡ k b) → Holds ts u first m sums → Holds ts (reached ts f r u) first k sums
reached_holds ts u first m k sums f r i j s h =
    record {
      origins = λ c.
          from_dynamic (nat_lt c dynamic_base) first (listed_or (unlisted u.origins.own c) (marked (reached_places f r) u.origins.listed) c) (k c)
          (λ d.
          reached_from f r first m k u.origins c i j s (above_base c d)
          (dynamic_from (nat_lt c dynamic_base) first (listed_or (unlisted u.origins.own c) u.origins.listed c) (m c) (h.origins c) d));
      mores = mores_reached f r first m k u.mores s h.mores;
      offs = offs_reached f r first m k sums ts u.offs s h.offs;
    }
