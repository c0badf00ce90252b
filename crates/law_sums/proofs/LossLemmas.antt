-- What is known where something was lost.
use Rattle.std.specs.Prelude.{◌≡◌, ℕ, ◌+◌, ◌<◌, ◌≤◌, Bool, true, false, cond, ◌&&◌, nat_lt, nat_le, List, [], ◌∷◌, filter, Option, refl}
use Rattle.std.specs.List.{AllByRecursion}
use Rattle.std.proofs.Common.{arith, ap, sym, subst}
use Rattle.std.proofs.lemmas.Bool.{leb-true, ltb-true, and_parts}
use Rattle.model_sums.specs.model_device.specs.Bytes.{num}
use Rattle.model_sums.specs.model_machine.specs.Frame.{dynamic_base, public_base}
use Rattle.model_sums.specs.model_rules.specs.Rules.{Total}
use Rattle.model_sums.specs.model_rules.specs.Keeping.{Sum}
use Rattle.model_sums.specs.model_prove.specs.Facts.{Memory}
use Rattle.model_sums.specs.Forms.{Form}
use Rattle.model_sums.specs.Origins.{Origin, Origins, unlisted, listed_or, without_public}
use Rattle.model_sums.specs.Sums.{More, Sums}
use Rattle.model_sums.specs.Says.{number_at, IsFrom, OriginsHold, MoreHolds, OffsHold, Holds, TotalsHold}
use Rattle.model_sums.specs.Writes.{dropped, delegated}
use Rattle.law_sums.proofs.Bytes.{same_bytes}
use Rattle.law_sums.proofs.OriginMoves.{from_dynamic, dynamic_from, listed_kept}
use Rattle.law_sums.proofs.MoveLemmas.{off_same, more_same}
use Rattle.law_sums.proofs.KnownLemmas.{totals_even}
use Rattle.law_sums.proofs.ReachLemmas.{above_base}

-- ---- what waits is dropped

-- what is known after what waits was dropped holds of the sums that are kept
pub dropped_holds : (ts : List Total) (u : Sums) (first : List ℕ) (m k : Memory) (sums kept : List Sum) → ((b : ℕ) → dynamic_base ≤ b → m b ≡ k b)
    → TotalsHold k kept ts → Holds ts u first m sums → Holds ts (dropped true ts u) first k kept
dropped_holds ts u first m k sums kept s t h = grind (arith, from_dynamic, above_base, dynamic_from, totals_even)

-- ---- public bytes are any

below_from : (b own : Bool) (first : List ℕ) (l : List (ℕ × Origin)) (c : ℕ) (m k : Memory) → nat_lt c public_base ≡ b → ((x : ℕ) → x < public_base → m x ≡ k x)
    → IsFrom first (listed_or (unlisted own c) l c) (m c) → IsFrom first (cond b (listed_or (unlisted false c) l c) (unlisted false c)) (k c)
below_from b own first l c m k e s h = grind (arith, ltb-true)

public_origins : (first : List ℕ) (m k : Memory) (o : Origins) → ((b : ℕ) → b < public_base → m b ≡ k b) → OriginsHold o first m → OriginsHold (without_public o) first k
public_origins first m k o s h =
    λ c.
    from_dynamic (nat_lt c dynamic_base) first (listed_or (unlisted false c) (filter (λ e. nat_lt e.0 public_base) o.listed) c) (k c)
    (λ d.
    subst (λ (g : Origin). IsFrom first g (k c)) (sym (listed_kept (unlisted false c) o.listed c (λ a. nat_lt a public_base)))
    (below_from (nat_lt c public_base) o.own first o.listed c m k refl s
    (dynamic_from (nat_lt c dynamic_base) first (listed_or (unlisted o.own c) o.listed c) (m c) (h c) d)))

number_below : (m k : Memory) (a n : ℕ) → ((b : ℕ) → b < public_base → m b ≡ k b) → a + n ≤ public_base → number_at m a n ≡ number_at k a n
number_below m k a n s h = ap num (same_bytes m k a n (λ x low high. s x (omega (arith, high, h))))

more_below : (b : Bool) (first : List ℕ) (m k : Memory) (r : More) (rest : List More) → (nat_le (r.at + r.n) public_base && nat_le (r.from + r.n) public_base) ≡ b
    → ((x : ℕ) → x < public_base → m x ≡ k x) → MoreHolds first m r → AllByRecursion (MoreHolds first k) rest → AllByRecursion (MoreHolds first k) (cond b (r ∷ rest) rest)
more_below b first m k r rest e s h i = grind (arith, and_parts, more_same, number_below, leb-true)

mores_below : (first : List ℕ) (m k : Memory) (rs : List More) → ((x : ℕ) → x < public_base → m x ≡ k x) → AllByRecursion (MoreHolds first m) rs
    → AllByRecursion (MoreHolds first k) (filter (λ r. nat_le (r.at + r.n) public_base && nat_le (r.from + r.n) public_base) rs)
mores_below first m k [] s h = tt
mores_below first m k (r ∷ rs) s h = grind (arith, more_below, mores_below first m k rs s h.1)

offs_below : (first : List ℕ) (m k : Memory) (sums : List Sum) (ts : List Total) (os : List (Option Form)) → ((b : ℕ) → b < public_base → m b ≡ k b)
    → AllByRecursion (λ t. t.at + t.n ≤ public_base) ts → OffsHold first m sums ts os → OffsHold first k sums ts os
offs_below first m k sums [] os s i h = tt
offs_below first m k sums (t ∷ ts) [] s i h = tt
offs_below first m k sums (t ∷ ts) (o ∷ os) s i h =
    (off_same first m k sums t o (number_below m k t.at t.n s i.0) h.0, offs_below first m k sums ts os s i.1 h.1)

-- what is known after public bytes became any holds if no total is among them
pub delegated_holds : (ts : List Total) (u : Sums) (first : List ℕ) (m k : Memory) (sums : List Sum) → ((b : ℕ) → b < public_base → m b ≡ k b)
    → AllByRecursion (λ t. t.at + t.n ≤ public_base) ts → Holds ts u first m sums → Holds ts (delegated u) first k sums
delegated_holds ts u first m k sums s i h =
    record { origins = public_origins first m k u.origins s h.origins; mores = mores_below first m k u.mores s h.mores; offs = offs_below first m k sums ts u.offs s i h.offs }
