-- Origins after a write, where less is on the stack, and as far as others say.
use Rattle.std.specs.Prelude.{◌≡◌, ◌⊎◌, ℕ, suc, ◌+◌, ◌-◌, ◌<◌, ◌≤◌, Bool, true, false, cond, not, ◌&&◌, ◌||◌, nat_lt, nat_le, ◌==◌, List, [], ◌∷◌, length, filter, refl}
use Rattle.std.proofs.Common.{arith, subst, inl, inr}
use Rattle.std.proofs.lemmas.Bool.{eqb-true, eqb-false, and_parts}
use Rattle.model_sums.specs.model_machine.specs.Frame.{dynamic_base, public_base}
use Rattle.model_sums.specs.model_prove.specs.Facts.{Memory}
use Rattle.model_sums.specs.model_prove.specs.Compares.{bytes_from}
use Rattle.model_sums.specs.Origins.{Origin, Unknown, PublicByte, Origins, unlisted, listed_or, origin_at, with_origins, origins_below, origin_follows, listed_follow, origins_follow}
use Rattle.model_sums.specs.Says.{IsFrom, AreFrom, OriginsHold}

-- a byte whose origin is forgotten by a test comes from what is left of it
pub from_dynamic : (b : Bool) (first : List ℕ) (g : Origin) (v : ℕ) → (b ≡ false → IsFrom first g v) → IsFrom first (cond b Unknown g) v
from_dynamic true first g v h = tt
from_dynamic false first g v h = h refl

-- an origin that a test does not forget is the one that is left
pub dynamic_from : (b : Bool) (first : List ℕ) (g : Origin) (v : ℕ) → IsFrom first (cond b Unknown g) v → b ≡ false → IsFrom first g v
dynamic_from true first g v h e = absurd (cc e)
dynamic_from false first g v h e = h

-- ---- a write

outside_more : (a n c : ℕ) → (a == c) ≡ false → (c < suc a) ⊎ (suc a + n ≤ c) → (c < a) ⊎ (a + suc n ≤ c)
outside_more a n c e o = let h = eqb-false a c e in grind (arith, h, o)

listed_by : (b : Bool) (first : List ℕ) (a c : ℕ) (g other : Origin) (k : Memory) → (a == c) ≡ b → IsFrom first g (k a) → (b ≡ false → IsFrom first other (k c))
    → IsFrom first (cond b g other) (k c)
listed_by true first a c g other k e h i = subst (λ (x : ℕ). IsFrom first g (k x)) (eqb-true a c e) h
listed_by false first a c g other k e h i = i refl

nothing_outside : (a c : ℕ) → (c < a) ⊎ (a + 0 ≤ c)
nothing_outside a c = grind arith

written_from : (first : List ℕ) (k : Memory) (a : ℕ) (gs : List Origin) (o : Origins) (c : ℕ) → ((c < a) ⊎ (a + length gs ≤ c) → IsFrom first (origin_at o c) (k c))
    → AreFrom first gs (bytes_from k a (length gs)) → IsFrom first (origin_at (with_origins a gs o) c) (k c)
written_from first k a [] o c h f = h (nothing_outside a c)
written_from first k a (g ∷ gs) o c h f =
    let rest : Origins = with_origins (suc a) gs o in
    from_dynamic (nat_lt c dynamic_base) first (cond (a == c) g (listed_or (unlisted rest.own c) rest.listed c)) (k c)
    (λ d.
    listed_by (a == c) first a c g (listed_or (unlisted rest.own c) rest.listed c) k refl f.0
    (λ e.
    dynamic_from (nat_lt c dynamic_base) first (listed_or (unlisted rest.own c) rest.listed c) (k c)
    (written_from first k (suc a) gs o c (λ i. h (outside_more a (length gs) c e i)) f.1) d))

-- origins hold after a write
pub origins_written : (first : List ℕ) (m k : Memory) (a : ℕ) (gs : List Origin) (o : Origins) → ((b : ℕ) → (b < a) ⊎ (a + length gs ≤ b) → m b ≡ k b)
    → AreFrom first gs (bytes_from k a (length gs)) → OriginsHold o first m → OriginsHold (with_origins a gs o) first k
origins_written first m k a gs o s f h =
    λ c. written_from first k a gs o c (λ i. subst (λ (v : ℕ). IsFrom first (origin_at o c) v) (s c i) (h c)) f

-- ---- what is kept

kept_by : (b i : Bool) (other : Origin) (e : ℕ × Origin) (rest : List (ℕ × Origin)) (c : ℕ) (keeps : ℕ → Bool) (whole : Origin) → keeps e.0 ≡ b → (e.0 == c) ≡ i
    → listed_or other rest c ≡ cond (keeps c) whole other → listed_or other (cond b (e ∷ rest) rest) c ≡ cond (keeps c) (cond i e.1 whole) other
kept_by b i other e rest c keeps whole p q h = grind (arith, eqb-true)

-- an origin that a test keeps is listed as before, and others are as by default
pub listed_kept : (other : Origin) (l : List (ℕ × Origin)) (c : ℕ) (keeps : ℕ → Bool)
    → listed_or other (filter (λ e. keeps e.0) l) c ≡ cond (keeps c) (listed_or other l c) other
listed_kept other [] c keeps = none (keeps c) other
  where
    none : (b : Bool) (g : Origin) → g ≡ cond b g g
    none true g = refl
    none false g = refl
listed_kept other (e ∷ l) c keeps =
    kept_by (keeps e.0) (e.0 == c) other e (filter (λ d. keeps d.0) l) c keeps (listed_or other l c) refl refl (listed_kept other l c keeps)

below_by : (b p : Bool) (own : Bool) (first : List ℕ) (c v : ℕ) (g : Origin) → nat_le public_base c ≡ p → IsFrom first g v
    → IsFrom first (cond (b || p) g (cond (own && p) (PublicByte (c - public_base)) Unknown)) v
below_by b p own first c v g e h = grind arith

-- origins hold where less is on the stack
pub origins_popped : (first : List ℕ) (m : Memory) (dt : ℕ) (o : Origins) → OriginsHold o first m → OriginsHold (origins_below dt o) first m
origins_popped first m dt o h = grind (arith, from_dynamic, listed_kept, below_by, dynamic_from)

-- ---- what follows

follows_from : (first : List ℕ) (g i : Origin) (v : ℕ) → origin_follows g i ≡ true → IsFrom first g v → IsFrom first i v
follows_from first g i v e h = grind (arith, eqb-true)

-- a byte is listed
abbrev IsListed : List (ℕ × Origin) → ℕ → Type 0
IsListed [] c = ⊥
IsListed (e ∷ l) c = (e.0 ≡ c) ⊎ IsListed l c

listed_one : (b : Bool) (e : ℕ × Origin) (l : List (ℕ × Origin)) (c : ℕ) → (e.0 == c) ≡ b → IsListed l c ⊎ ((other : Origin) → listed_or other l c ≡ other)
    → IsListed (e ∷ l) c ⊎ ((other : Origin) → listed_or other (e ∷ l) c ≡ other)
listed_one b e l c i h = grind (arith, eqb-true)

listed_or_not : (l : List (ℕ × Origin)) (c : ℕ) → IsListed l c ⊎ ((other : Origin) → listed_or other l c ≡ other)
listed_or_not [] c = inr (λ other. refl)
listed_or_not (e ∷ l) c = listed_one (e.0 == c) e l c refl (listed_or_not l c)

at_listed : (o p : Origins) (l : List (ℕ × Origin)) (c : ℕ) → listed_follow o p l ≡ true → IsListed l c → origin_follows (origin_at o c) (origin_at p c) ≡ true
at_listed o p [] c e h = absurd h
at_listed o p (d ∷ l) c e (inl h) =
    subst (λ (x : ℕ). origin_follows (origin_at o x) (origin_at p x) ≡ true) h (and_parts (origin_follows (origin_at o d.0) (origin_at p d.0)) (listed_follow o p l) e).0
at_listed o p (d ∷ l) c e (inr h) = at_listed o p l c (and_parts (origin_follows (origin_at o d.0) (origin_at p d.0)) (listed_follow o p l) e).1 h

unlisted_from : (b q : Bool) (first : List ℕ) (c v : ℕ) → (b || not q) ≡ true → IsFrom first (unlisted b c) v → IsFrom first (unlisted q c) v
unlisted_from b q first c v e h = grind arith

follow_at : (first : List ℕ) (m : Memory) (o p : Origins) (c : ℕ) → origins_follow o p ≡ true → IsFrom first (origin_at o c) (m c)
    → IsListed o.listed c ⊎ ((other : Origin) → listed_or other o.listed c ≡ other) → IsListed p.listed c ⊎ ((other : Origin) → listed_or other p.listed c ≡ other)
    → IsFrom first (origin_at p c) (m c)
follow_at first m o p c e h h7 k = grind (arith, and_parts, follows_from, at_listed, from_dynamic, unlisted_from, dynamic_from)

-- origins that follow from those that hold do
pub follow_origins : (first : List ℕ) (m : Memory) (o p : Origins) → origins_follow o p ≡ true → OriginsHold o first m → OriginsHold p first m
follow_origins first m o p e h = λ c. follow_at first m o p c e (h c) (listed_or_not o.listed c) (listed_or_not p.listed c)
