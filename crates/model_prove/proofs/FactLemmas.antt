-- Facts only weaken: what holds of a state holds of it joined with another, rounded, and with facts left out.
use Rattle.std.specs.Prelude.{◌≡◌, ◌⊎◌, ℕ, suc, ◌+◌, ◌-◌, ◌<◌, ◌≤◌, Bool, true, false, cond, not, ◌&&◌, ◌||◌, nat_lt, nat_le, ◌==◌, List, [], ◌∷◌, length, filter, unwrap_or, Option, Some, None, refl, ⊤}
use Rattle.std.proofs.Common.{arith, ap, sym, subst, ◌∙◌}
use Rattle.std.proofs.lemmas.Bool.{eqb-true, and_parts, cases_Bool}
use Rattle.model_rules.specs.Rules.{Range}
use Rattle.model_prove.specs.Sets.{Set, is_in, all_bytes, union, is_full, is_subset}
use Rattle.model_prove.specs.Facts.{Facts, fact_at, values_at, joined_fact, join, fact_follows, follow, Memory, Holds}
use Rattle.model_prove.specs.Laws.{HoldsBytes}
use Rattle.model_prove.specs.Between.{values_between, range_around, rounded_to, rounded}
use Rattle.model_prove.proofs.SetLemmas.{is_byte, in_first, in_second, in_larger}

-- ---- one fact

at_by : (b : Bool) (e : ℕ × Set) (f : Facts) (m : Memory) (a : ℕ) (s : Set) → (e.0 == a) ≡ b → is_in (m e.0) e.1 ≡ true
    → (fact_at f a ≡ Some s → is_in (m a) s ≡ true) → cond b (Some e.1) (fact_at f a) ≡ Some s → is_in (m a) s ≡ true
at_by true e f m a s i h k o =
    subst (λ (t : Set). is_in (m a) t ≡ true) (cc o) (subst (λ (w : ℕ). is_in (m w) e.1 ≡ true) (eqb-true e.0 a i) h)
at_by false e f m a s i h k o = k o

-- a byte with a fact has one of its values
pub holds_at : (f : Facts) (m : Memory) (a : ℕ) (s : Set) → Holds f m → fact_at f a ≡ Some s → is_in (m a) s ≡ true
holds_at [] m a s h e = absurd (cc e)
holds_at (e ∷ f) m a s h o = at_by (e.0 == a) e f m a s refl h.0 (λ k. holds_at f m a s h.1 k) o

value_by : (o : Option Set) (v : ℕ) → v < 256 → ((s : Set) → o ≡ Some s → is_in v s ≡ true) → is_in v (unwrap_or o all_bytes) ≡ true
value_by None v h k = is_byte v h
value_by (Some s) v h k = k s refl

-- each byte has one of the values that it may have
pub value_holds : (f : Facts) (m : Memory) (a : ℕ) → Holds f m → m a < 256 → is_in (m a) (values_at f a) ≡ true
value_holds f m a h k = value_by (fact_at f a) (m a) k (λ s e. holds_at f m a s h e)

-- ---- what follows

-- facts that follow from those of a state hold of it
pub follow_holds : (f g : Facts) (m : Memory) → follow f g ≡ true → Holds f m → HoldsBytes m → Holds g m
follow_holds f [] m e h k = tt
follow_holds f (d ∷ g) m e h k =
    let p = and_parts (fact_follows f d) (follow f g) e in
    (in_larger (m d.0) (values_at f d.0) d.1 p.0 (value_holds f m d.0 h (k d.0)), follow_holds f g m p.1 h k)

-- ---- joining

kept_fact : (b : Bool) (e : ℕ × Set) (f : Facts) (m : Memory) → is_in (m e.0) e.1 ≡ true → Holds f m → Holds (cond b f (e ∷ f)) m
kept_fact true e f m h k = k
kept_fact false e f m h k = (h, k)

joined_left : (e : ℕ × Set) (o : Option Set) (rest : Facts) (m : Memory) → is_in (m e.0) e.1 ≡ true → Holds rest m → Holds (joined_fact e o rest) m
joined_left e None rest m h k = k
joined_left e (Some t) rest m h k = kept_fact (is_full (union e.1 t)) (e.0, union e.1 t) rest m (in_first (m e.0) e.1 t h) k

-- what holds of the first state holds of both joined
pub join_left : (f g : Facts) (m : Memory) → Holds f m → Holds (join f g) m
join_left [] g m h = tt
join_left (e ∷ f) g m h = joined_left e (fact_at g e.0) (join f g) m h.0 (join_left f g m h.1)

joined_right : (e : ℕ × Set) (o : Option Set) (rest : Facts) (m : Memory) → ((t : Set) → o ≡ Some t → is_in (m e.0) t ≡ true) → Holds rest m
    → Holds (joined_fact e o rest) m
joined_right e None rest m h k = k
joined_right e (Some t) rest m h k = kept_fact (is_full (union e.1 t)) (e.0, union e.1 t) rest m (in_second (m e.0) e.1 t (h t refl)) k

-- so does what holds of the second
pub join_right : (f g : Facts) (m : Memory) → Holds g m → Holds (join f g) m
join_right [] g m h = tt
join_right (e ∷ f) g m h = joined_right e (fact_at g e.0) (join f g) m (λ t o. holds_at g m e.0 t h o) (join_right f g m h)

-- ---- rounding

around_by : (b : Bool) (r : Range) (rest : Option Set) (s t : Set) → b ≡ is_subset s (values_between r.low r.high)
    → (rest ≡ Some t → is_subset s t ≡ true) → cond b (Some (values_between r.low r.high)) rest ≡ Some t → is_subset s t ≡ true
around_by true r rest s t e h o = subst (λ (u : Set). is_subset s u ≡ true) (cc o) (sym e)
around_by false r rest s t e h o = h o

around_one : (b c : Bool) (r : Range) (rest : Option Set) (s t : Set) → c ≡ is_subset s (values_between r.low r.high)
    → (rest ≡ Some t → is_subset s t ≡ true) → cond (b && c) (Some (values_between r.low r.high)) rest ≡ Some t → is_subset s t ≡ true
around_one true c r rest s t e h o = around_by c r rest s t e h o
around_one false c r rest s t e h o = h o

-- a range around a set has its values
pub range_holds : (rs : List Range) (a : ℕ) (s t : Set) → range_around rs a s ≡ Some t → is_subset s t ≡ true
range_holds [] a s t e = absurd (cc e)
range_holds (r ∷ rs) a s t e =
    around_one (r.at == a) (is_subset s (values_between r.low r.high)) r (range_around rs a s) s t refl (λ o. range_holds rs a s t o) e

rounded_by : (o : Option Set) (a : ℕ) (s : Set) (rest : Facts) (m : Memory) → ((t : Set) → o ≡ Some t → is_subset s t ≡ true) → is_in (m a) s ≡ true
    → Holds rest m → Holds (rounded_to o a rest) m
rounded_by None a s rest m h i k = k
rounded_by (Some t) a s rest m h i k = kept_fact (nat_le 256 (length t)) (a, t) rest m (in_larger (m a) s t (h t refl) i) k

rounded_one : (b : Bool) (e : ℕ × Set) (other rest : Facts) (m : Memory) → is_in (m e.0) e.1 ≡ true → Holds rest m → Holds other m
    → Holds (cond b (e ∷ rest) other) m
rounded_one true e other rest m i h k = (i, h)
rounded_one false e other rest m i h k = k

-- what holds of a state holds of it rounded
pub rounded_holds : (rs : List Range) (f : Facts) (m : Memory) → Holds f m → Holds (rounded rs f) m
rounded_holds rs [] m h = tt
rounded_holds rs (e ∷ f) m h =
    let k = rounded_holds rs f m h.1 in
    rounded_one (nat_le (length e.1) 16) e (rounded_to (range_around rs e.0 e.1) e.0 (rounded rs f)) (rounded rs f) m h.0 k
    (rounded_by (range_around rs e.0 e.1) e.0 e.1 (rounded rs f) m (λ t o. range_holds rs e.0 e.1 t o) h.0 k)
