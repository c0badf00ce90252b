-- Facts after a change: of a byte that is known better, of bytes that were written, and of the combinations of values.
use Rattle.std.specs.Prelude.{◌≡◌, ◌⊎◌, ℕ, zero, suc, ◌+◌, ◌<◌, ◌≤◌, Bool, true, false, cond, not, ◌||◌, nat_lt, ◌==◌, List, [], ◌∷◌, ◌++◌, length, filter, map, flat_map, refl, ⊤}
use Rattle.std.proofs.Common.{arith, ap, sym, subst, ◌∙◌, inl, inr}
use Rattle.std.proofs.lemmas.Bool.{eqb-true, eqb-false, or_cases}
use Rattle.model_prove.specs.Sets.{Set, is_in, is_full}
use Rattle.model_prove.specs.Facts.{Facts, values_at, without_byte, fact_before, with_fact, fact_unless, know, know_all, Memory, Holds}
use Rattle.model_prove.specs.Splits.{Choice, before_choices, combinations}
use Rattle.model_prove.specs.Laws.{Among, values_in, AreIn, HoldsBytes}
use Rattle.model_prove.proofs.FactLemmas.{value_holds}

-- ---- one fact more

placed : (b : Bool) (e d : ℕ × Set) (f rest : Facts) (m : Memory) → is_in (m e.0) e.1 ≡ true → Holds (d ∷ f) m → Holds rest m → Holds (fact_before b e d f rest) m
placed true e d f rest m i h k = (i, h)
placed false e d f rest m i h k = (h.0, k)

with_fact_holds : (e : ℕ × Set) (f : Facts) (m : Memory) → is_in (m e.0) e.1 ≡ true → Holds f m → Holds (with_fact e f) m
with_fact_holds e [] m i h = (i, tt)
with_fact_holds e (d ∷ f) m i h = placed (nat_lt e.0 d.0) e d f (with_fact e f) m i h (with_fact_holds e f m i h.1)

unless_holds : (b : Bool) (e : ℕ × Set) (f : Facts) (m : Memory) → is_in (m e.0) e.1 ≡ true → Holds f m → Holds (fact_unless b e f) m
unless_holds true e f m i h = h
unless_holds false e f m i h = with_fact_holds e f m i h

-- ---- all but some bytes

-- each fact of a byte that is not among n from an address on has one of its values
abbrev pub HoldsBut : ℕ → ℕ → Facts → Memory → Type 0
HoldsBut a n [] m = ⊤
HoldsBut a n (e ∷ f) m = ((e.0 < a) ⊎ (a + n ≤ e.0) → is_in (m e.0) e.1 ≡ true) × HoldsBut a n f m

below_or_not : (x a : ℕ) → (x < a) ⊎ (a + 0 ≤ x)
below_or_not x a = grind arith

moved : (x a n : ℕ) → (x ≡ a → ⊥) → (x < suc a) ⊎ (suc a + n ≤ x) → (x < a) ⊎ (a + suc n ≤ x)
moved x a n e o = grind (arith, e, o)

but_none : (a : ℕ) (f : Facts) (m : Memory) → HoldsBut a 0 f m → Holds f m
but_none a [] m h = tt
but_none a (e ∷ f) m h = (h.0 (below_or_not e.0 a), but_none a f m h.1)

kept_but : (b : Bool) (a n : ℕ) (e : ℕ × Set) (f rest : Facts) (m : Memory) → (e.0 == a) ≡ b → ((e.0 < a) ⊎ (a + suc n ≤ e.0) → is_in (m e.0) e.1 ≡ true)
    → HoldsBut (suc a) n rest m → HoldsBut (suc a) n (cond (not b) (e ∷ rest) rest) m
kept_but true a n e f rest m i h k = k
kept_but false a n e f rest m i h k = ((λ o. h (moved e.0 a n (eqb-false e.0 a i) o)), k)

without_but : (a n : ℕ) (f : Facts) (m : Memory) → HoldsBut a (suc n) f m → HoldsBut (suc a) n (without_byte a f) m
without_but a n [] m h = tt
without_but a n (e ∷ f) m h = kept_but (e.0 == a) a n e f (without_byte a f) m refl h.0 (without_but a n f m h.1)

placed_but : (b : Bool) (a n : ℕ) (e d : ℕ × Set) (f rest : Facts) (m : Memory) → is_in (m e.0) e.1 ≡ true → HoldsBut a n (d ∷ f) m → HoldsBut a n rest m
    → HoldsBut a n (fact_before b e d f rest) m
placed_but true a n e d f rest m i h k = ((λ o. i), h)
placed_but false a n e d f rest m i h k = (h.0, k)

with_fact_but : (a n : ℕ) (e : ℕ × Set) (f : Facts) (m : Memory) → is_in (m e.0) e.1 ≡ true → HoldsBut a n f m → HoldsBut a n (with_fact e f) m
with_fact_but a n e [] m i h = ((λ o. i), tt)
with_fact_but a n e (d ∷ f) m i h = placed_but (nat_lt e.0 d.0) a n e d f (with_fact e f) m i h (with_fact_but a n e f m i h.1)

unless_but : (b : Bool) (a n : ℕ) (e : ℕ × Set) (f : Facts) (m : Memory) → is_in (m e.0) e.1 ≡ true → HoldsBut a n f m → HoldsBut a n (fact_unless b e f) m
unless_but true a n e f m i h = h
unless_but false a n e f m i h = with_fact_but a n e f m i h

written_but : (a : ℕ) (ss : List Set) (f : Facts) (m : Memory) → AreIn m a ss → HoldsBut a (length ss) f m → Holds (know_all a ss f) m
written_but a [] f m i h = but_none a f m h
written_but a (s ∷ ss) f m i h =
    written_but (suc a) ss (know a s f) m i.1
    (unless_but (is_full s) (suc a) (length ss) (a, s) (without_byte a f) m i.0 (without_but a (length ss) f m h))

changed_but : (a n : ℕ) (f : Facts) (m k : Memory) → ((b : ℕ) → (b < a) ⊎ (a + n ≤ b) → m b ≡ k b) → Holds f m → HoldsBut a n f k
changed_but a n [] m k c h = tt
changed_but a n (e ∷ f) m k c h =
    ((λ o. subst (λ (v : ℕ). is_in v e.1 ≡ true) (c e.0 o) h.0), changed_but a n f m k c h.1)

-- facts hold after bytes of these sets were written at an address
pub written_holds : (a : ℕ) (ss : List Set) (f : Facts) (m k : Memory) → ((b : ℕ) → (b < a) ⊎ (a + length ss ≤ b) → m b ≡ k b) → AreIn k a ss → Holds f m
    → Holds (know_all a ss f) k
written_holds a ss f m k c i h = written_but a ss f k i (changed_but a (length ss) f m k c h)

-- ---- combinations

among_map : {A B : Type 0} (g : A → B) (x : A) (xs : List A) → Among x xs → Among (g x) (map g xs)
among_map g x [] h = absurd h
among_map g x (y ∷ xs) h =
    elim h [
      | inl e ↦ inl (ap g e)
      | inr e ↦ inr (among_map g x xs e)
    ]

among_first : {A : Type 0} (x : A) (xs ys : List A) → Among x xs → Among x (xs ++ ys)
among_first x [] ys h = absurd h
among_first x (y ∷ xs) ys h =
    elim h [
      | inl e ↦ inl e
      | inr e ↦ inr (among_first x xs ys e)
    ]

among_second : {A : Type 0} (x : A) (xs ys : List A) → Among x ys → Among x (xs ++ ys)
among_second x [] ys h = h
among_second x (y ∷ xs) ys h = inr (among_second x xs ys h)

among_flat : {A : Type 0} (g : ℕ → List A) (x : A) (v : ℕ) (s : Set) → is_in v s ≡ true → Among x (g v) → Among x (flat_map g s)
among_flat g x v [] i h = absurd (cc i)
among_flat g x v (w ∷ s) i h =
    elim (or_cases (w == v) (is_in v s) i) [
      | inl e ↦ among_first x (g w) (flat_map g s) (subst (λ (u : ℕ). Among x (g u)) (sym (eqb-true w v e)) h)
      | inr e ↦ among_second x (g w) (flat_map g s) (among_flat g x v s e h)
    ]

-- the values that some bytes have are one of their combinations
pub choice_is_there : (f : Facts) (bs : List ℕ) (m : Memory) → Holds f m → HoldsBytes m → Among (values_in m bs) (combinations f bs)
choice_is_there f [] m h k = inl refl
choice_is_there f (b ∷ bs) m h k =
    among_flat (λ v. map (λ c. (b, v) ∷ c) (combinations f bs)) ((b, m b) ∷ values_in m bs) (m b) (values_at f b) (value_holds f m b h (k b))
    (among_map (λ (c : Choice). (b, m b) ∷ c) (values_in m bs) (combinations f bs) (choice_is_there f bs m h k))
