-- The facts of operands narrowed to the digits of a way hold, and the last compare allows the flags of the machine.
use Rattle.std.proofs.Common.{◌≡◌, ℕ, zero, suc, ◌+◌, ◌*◌, ◌^◌, ◌<◌, ◌≤◌, Bool, true, false, cond, not, List, [], ◌∷◌, length, Option, Some, refl, sym, ap, ◌∙◌, arith}
use Rattle.std.specs.Prelude.{◌&&◌, ◌||◌, ◌==◌, nat_lt, nat_le, ⊤}
use Rattle.std.proofs.lemmas.Bool.{and_parts, le-leb, leb-true, lt-ltb, ltb-true, eq-eqb, eqb-true, or_left}
use Rattle.model_prove.specs.model_device.specs.Bytes.{num}
use Rattle.model_prove.specs.Sets.{Set, is_in, common}
use Rattle.model_prove.specs.Facts.{Facts, Memory, Holds, values_at, know, narrowed_to, narrow_all}
use Rattle.model_prove.specs.Compares.{Compare, Orders, Span, bytes_from, has_order, IsSo, greatest, orders_of, have_common, span_added, span_subtracted, spans_meet, allows_span, allows_orders}
use Rattle.model_prove.specs.Digits.{Operation, Plus, Minus, Or, Flags, carried}
use Rattle.model_prove.specs.Work.{Operand, AtAddress, These}
use Rattle.model_prove.specs.Laws.{AreIn, HoldsBytes}
use Rattle.model_prove.specs.Steps.{operand_sets, operand_narrowed, span_of}
use Rattle.model_prove.proofs.ChangeLemmas.{written_holds}
use Rattle.model_prove.proofs.FactLemmas.{value_holds}
use Rattle.model_prove.proofs.SetLemmas.{in_common}
use Rattle.law_prove.proofs.Seen.{FitSets, fit_sets, fit_values}

-- ---- narrowing

-- facts, if there are some, that hold of a memory
pub record Narrowed (o : Option Facts) (m : Memory) : Type 0 where
  pub facts : Facts
  pub is : o ≡ Some facts
  pub holds : Holds facts m

narrow_by : (a v : ℕ) (c : Set) (f : Facts) → is_in v c ≡ true → narrowed_to a c f ≡ Some (know a c f)
narrow_by a v [] f e = absurd (cc e)
narrow_by a v (x ∷ c) f e = refl

-- facts narrowed to sets in which the bytes lie hold
pub narrow_holds : (a : ℕ) (ss : List Set) (f : Facts) (m : Memory) → Holds f m → HoldsBytes m → AreIn m a ss → Narrowed (narrow_all a ss (Some f)) m
narrow_holds a [] f m h k i = record { facts = f; is = refl; holds = h }
narrow_holds a (s ∷ ss) f m h k i =
    let c : Set = common (values_at f a) s in
    let there : is_in (m a) c ≡ true = in_common (m a) (values_at f a) s (value_holds f m a h (k a)) i.0 in
    let g : Facts = know a c f in
    let more : Holds g m = written_holds a (c ∷ []) f m m (λ b o. refl) (there, tt) h in
    let rest : Narrowed (narrow_all (suc a) ss (Some g)) m = narrow_holds (suc a) ss g m more k i.1 in
    record {
      facts = rest.facts;
      is = ap (λ (o : Option Facts). narrow_all (suc a) ss o) (narrow_by a (m a) c f there) ∙ rest.is;
      holds = rest.holds;
    }

-- bytes that fit their sets lie in them at their address
pub fit_are : (m : Memory) (a n : ℕ) (ss : List Set) → FitSets (bytes_from m a n) ss → AreIn m a ss
fit_are m a zero [] h = tt
fit_are m a zero (s ∷ ss) h = absurd h
fit_are m a (suc n) [] h = absurd h
fit_are m a (suc n) (s ∷ ss) h = (h.0, fit_are m (suc a) n ss h.1)

-- the bytes that an operand has
abbrev pub OperandIs : Memory → ℕ → Operand → List ℕ → Type 0
OperandIs m n (AtAddress a) b = b ≡ bytes_from m a n
OperandIs m n (These c) b = (b ≡ c) × (length c ≡ n)

-- the bytes of an operand fit the sets that are known of it
pub operand_fits : (f : Facts) (m : Memory) (n : ℕ) (o : Operand) (b : List ℕ) → Holds f m → HoldsBytes m → OperandIs m n o b → FitSets b (operand_sets f o n)
operand_fits f m n (AtAddress a) b h k is = rw is (fit_values f m a n h k)
operand_fits f m n (These c) b h k is = rw is.0 (fit_sets c)

-- facts narrowed to the sets of an operand hold
pub operand_holds : (f : Facts) (m : Memory) (n : ℕ) (o : Operand) (b : List ℕ) (ss : List Set) → Holds f m → HoldsBytes m → OperandIs m n o b → FitSets b ss → Narrowed (operand_narrowed o ss (Some f)) m
operand_holds f m n (AtAddress a) b ss h k is fit = narrow_holds a ss f m h k (fit_are m a n ss (rw (← is) fit))
operand_holds f m n (These c) b ss h k is fit = record { facts = f; is = refl; holds = h }

-- ---- the last compare

-- a number is in a span
abbrev pub InSpan : ℕ → Span → Type 0
InSpan x s = (s.0 ≤ x) × (x ≤ s.1)

-- what the digits of an operation say of its numbers x and y of n bytes, and of its result r
abbrev pub IsRun : Operation → ℕ → ℕ → ℕ → ℕ → Flags → Type 0
IsRun Plus n x y r f = r + carried f.c * 256 ^ n ≡ x + y
IsRun Minus n x y r f = r + y ≡ x + carried f.c * 256 ^ n
IsRun op n x y r f = r ≡ x

cond_span : (b : Bool) (x : ℕ) (s u : Span) → (b ≡ true → InSpan x s) → (b ≡ false → InSpan x u) → InSpan x (cond b s u)
cond_span true x s u h k = h refl
cond_span false x s u h k = k refl

added_in : (n k x r p : ℕ) (c z : Bool) → p ≡ 256 ^ n → x < p → k < p → r < p → r + carried c * p ≡ x + k → z ≡ (r == 0) → InSpan x (span_added n k c z)
added_in n k x r p c z e a b d h is = grind (arith, eqb-true, cond_span)

subtracted_in : (n k x r p : ℕ) (c z : Bool) → p ≡ 256 ^ n → x < p → k < p → r < p → r + k ≡ x + carried c * p → z ≡ (r == 0) → InSpan x (span_subtracted n k c z)
subtracted_in n k x r p c z e a b d h is = grind (arith, eqb-true, cond_span)

tested_in : (n x r p : ℕ) (z : Bool) → p ≡ 256 ^ n → x < p → r ≡ x → z ≡ (r == 0) → InSpan x (cond z (0, 0) (1, greatest n))
tested_in n x r p true e a h is = let zero_r = eqb-true r 0 (sym is) in (omega arith, omega (arith, h, zero_r))
tested_in n x r p false e a h is = (grind (arith, h, is), omega (arith, e, a))

-- the operations that the last compare speaks of
abbrev pub Speaks : Operation → Type 0
Speaks Plus = ⊤
Speaks Minus = ⊤
Speaks Or = ⊤
Speaks op = ⊥

-- the first operand lies in the span of the flags
pub span_is : (op : Operation) (n k x r : ℕ) (f : Flags) → Speaks op → x < 256 ^ n → k < 256 ^ n → r < 256 ^ n → IsRun op n x k r f → f.z ≡ (r == 0) → InSpan x (span_of op n k f)
span_is op n k x r f s a b d h is = grind (arith, added_in, subtracted_in, tested_in)

span_by : (o : Bool) (l h x : ℕ) (s : Span) → (o ≡ true → (nat_le l x && nat_le x h) ≡ true) → InSpan x s → (not o || spans_meet l h s.0 s.1) ≡ true
span_by o l h x s so i = grind (arith, and_parts, leb-true, le-leb)

-- it allows the span of the machine's flags
pub span_allowed : (c : Compare) (m : Memory) (a n : ℕ) (s : Span) → IsSo c m → InSpan (num (bytes_from m a n)) s → allows_span c a n s ≡ true
span_allowed c m a n s so i = grind (arith, span_by, and_parts, eqb-true)

-- the order of two numbers is that of their subtraction's flags
pub order_is : (n x y r : ℕ) (f : Flags) → x < 256 ^ n → y < 256 ^ n → r < 256 ^ n → IsRun Minus n x y r f → f.z ≡ (r == 0) → has_order (orders_of f.c f.z) x y ≡ true
order_is n x y r f a b d h is = grind (arith, or_left, lt-ltb, eqb-true, eq-eqb)

both_orders : (x y : ℕ) (a b c d e f : Bool) → ((a && nat_lt x y) || (b && x == y) || (c && nat_lt y x)) ≡ true → ((d && nat_lt x y) || (e && x == y) || (f && nat_lt y x)) ≡ true
    → ((a && d) || (b && e) || (c && f)) ≡ true
both_orders x y a b c d e f h k = grind (arith, ltb-true, eqb-true)

orders_by : (o : Bool) (p q : Orders) (x y : ℕ) → (o ≡ true → has_order p x y ≡ true) → has_order q x y ≡ true → (not o || have_common p q) ≡ true
orders_by false p q x y so i = refl
orders_by true p q x y so i = both_orders x y p.less p.equal p.greater q.less q.equal q.greater (so refl) i

-- the last compare allows the orders that two numbers have
pub orders_allowed : (c : Compare) (m : Memory) (a n d : ℕ) (p : Orders) → IsSo c m → has_order p (num (bytes_from m a n)) (num (bytes_from m d n)) ≡ true → allows_orders c a n d p ≡ true
orders_allowed c m a n d p so i = grind (arith, orders_by, and_parts, eqb-true)
