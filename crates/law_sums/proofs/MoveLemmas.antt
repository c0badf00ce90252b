-- What a write leaves of blocks: by how much totals are off, and by how much loaded blocks are more.
use Rattle.std.specs.Prelude.{◌≡◌, ℕ, ◌+◌, ◌-◌, ◌*◌, ◌%◌, ◌^◌, Bool, true, false, cond, not, ◌&&◌, List, [], ◌∷◌, ◌++◌, flat_map, filter, Option, Some, None, refl}
use Rattle.std.specs.List.{AllByRecursion}
use Rattle.std.proofs.Common.{arith, ap, subst, ◌∙◌}
use Rattle.std.proofs.lemmas.Bool.{eqb-true, and_parts}
use Rattle.model_sums.specs.model_rules.specs.Rules.{Total}
use Rattle.model_sums.specs.model_rules.specs.Keeping.{Sum, added_by, taken_by}
use Rattle.model_sums.specs.model_prove.specs.Facts.{Memory}
use Rattle.model_sums.specs.model_prove.specs.Compares.{meet}
use Rattle.model_sums.specs.Forms.{Form, value, plus, negative}
use Rattle.model_sums.specs.Sums.{More}
use Rattle.model_sums.specs.Says.{number_at, MoreHolds, OffHolds, OffsHold}
use Rattle.model_sums.specs.Writes.{plus_if, negative_if, is_block, offs_after, with_form, more_after}
use Rattle.law_sums.specs.WriteLaws.{MovesBy}
use Rattle.law_sums.proofs.Modulo.{add_same, add_whole, one_less_more, power_positive}
use Rattle.law_sums.proofs.FormLemmas.{value_plus, value_times}
use Rattle.law_sums.proofs.Bytes.{SameBut, number_stays}

-- ---- totals

-- a total whose block stays is off by as much
pub off_same : (first : List ℕ) (m k : Memory) (sums : List Sum) (t : Total) (off : Option Form) → number_at m t.at t.n ≡ number_at k t.at t.n
    → OffHolds first m sums t off → OffHolds first k sums t off
off_same first m k sums t off e h = grind arith

-- what moves both sides of a congruence
both_move : (m x y t c v g w : ℕ) → x % m ≡ (y + g) % m → (y + t) % m ≡ (c + v) % m → w ≡ v + g → (x + t) % m ≡ (c + w) % m
both_move m x y t c v g w p q e = grind (arith, add_same m x (y + g) t t p refl, add_same m (y + t) (c + v) g g q refl)

off_moves : (first : List ℕ) (m k : Memory) (sums : List Sum) (t : Total) (off by : Option Form) → MovesBy first m k t.at t.n by
    → OffHolds first m sums t off → OffHolds first k sums t (plus_if off by)
off_moves first m k sums t None by h i = tt
off_moves first m k sums t (Some f) None h i = tt
off_moves first m k sums t (Some f) (Some g) h i =
    both_move (256 ^ t.n) (number_at k t.at t.n) (number_at m t.at t.n) (taken_by sums t.terms) (t.constant + added_by sums t.terms) (value f first)
    (value g first) (value (plus f g) first) h i (value_plus f g first)

-- the block of a write is that of a total
pub moves_block : (first : List ℕ) (m k : Memory) (a n b l : ℕ) (by : Option Form) → is_block a n b l ≡ true → MovesBy first m k a n by → MovesBy first m k b l by
moves_block first m k a n b l by e h = grind (arith, and_parts, eqb-true)

off_by : (b c : Bool) (first : List ℕ) (m k : Memory) (sums : List Sum) (t : Total) (a n : ℕ) (by off : Option Form) → meet a n t.at t.n ≡ b → is_block a n t.at t.n ≡ c
    → SameBut a n m k → MovesBy first m k a n by → OffHolds first m sums t off → OffHolds first k sums t (cond b (cond c (plus_if off by) None) off)
off_by b c first m k sums t a n by off e i s h o = grind (arith, off_same, number_stays, off_moves, moves_block)

-- by how much totals are off after a write is so
pub offs_hold : (first : List ℕ) (m k : Memory) (sums : List Sum) (ts : List Total) (os : List (Option Form)) (a n : ℕ) (by : Option Form) → SameBut a n m k
    → MovesBy first m k a n by → OffsHold first m sums ts os → OffsHold first k sums ts (offs_after a n by ts os)
offs_hold first m k sums [] os a n by s h o = tt
offs_hold first m k sums (t ∷ ts) [] a n by s h o = tt
offs_hold first m k sums (t ∷ ts) (off ∷ os) a n by s h o =
    (off_by (meet a n t.at t.n) (is_block a n t.at t.n) first m k sums t a n by off refl refl s h o.0, offs_hold first m k sums ts os a n by s h o.1)

-- ---- loaded blocks

-- of numbers that stay
pub more_same : (first : List ℕ) (m k : Memory) (r : More) → number_at m r.at r.n ≡ number_at k r.at r.n → number_at m r.from r.n ≡ number_at k r.from r.n
    → MoreHolds first m r → MoreHolds first k r
more_same first m k r e i h = grind arith

-- of a block that became more
more_more : (m x y b f g w : ℕ) → x % m ≡ (y + g) % m → y % m ≡ (b + f) % m → w ≡ f + g → x % m ≡ (b + w) % m
more_more m x y b f g w p q e = grind (arith, add_same m y (b + f) g g q refl)

-- of a block whose origin became more
more_less : (m x b c f g v w : ℕ) → x % m ≡ (b + f) % m → c % m ≡ (b + g) % m → v + g ≡ g * m → w ≡ f + v → x % m ≡ (c + w) % m
more_less m x b c f g v w p q e i = grind (arith, add_same m c (b + g) w w q refl, add_whole m (b + f) g)

at_moves : (first : List ℕ) (m k : Memory) (r : More) (by : Option Form) → MovesBy first m k r.at r.n by → number_at m r.from r.n ≡ number_at k r.from r.n
    → MoreHolds first m r → AllByRecursion (MoreHolds first k) (with_form r (plus_if (Some r.form) by))
at_moves first m k r None h e i = tt
at_moves first m k r (Some g) h e i =
    let before : number_at m r.at r.n % 256 ^ r.n ≡ (number_at k r.from r.n + value r.form first) % 256 ^ r.n =
    subst (λ (x : ℕ). number_at m r.at r.n % 256 ^ r.n ≡ (x + value r.form first) % 256 ^ r.n) e i in (
      more_more (256 ^ r.n) (number_at k r.at r.n) (number_at m r.at r.n) (number_at k r.from r.n) (value r.form first) (value g first) (value (plus r.form g) first)
          h before (value_plus r.form g first),
      tt,
    )

from_moves : (first : List ℕ) (m k : Memory) (r : More) (by : Option Form) → MovesBy first m k r.from r.n by → number_at m r.at r.n ≡ number_at k r.at r.n
    → MoreHolds first m r → AllByRecursion (MoreHolds first k) (with_form r (plus_if (Some r.form) (negative_if r.n by)))
from_moves first m k r None h e i = tt
from_moves first m k r (Some g) h e i =
    let before : number_at k r.at r.n % 256 ^ r.n ≡ (number_at m r.from r.n + value r.form first) % 256 ^ r.n =
    subst (λ (x : ℕ). x % 256 ^ r.n ≡ (number_at m r.from r.n + value r.form first) % 256 ^ r.n) e i in
    let less : value (negative r.n g) first + value g first ≡ value g first * 256 ^ r.n =
    ap (λ (x : ℕ). x + value g first) (value_times (256 ^ r.n - 1) g first) ∙ one_less_more (256 ^ r.n) (value g first) (power_positive r.n) in (
      more_less (256 ^ r.n) (number_at k r.at r.n) (number_at m r.from r.n) (number_at k r.from r.n) (value r.form first) (value g first) (value (negative r.n g) first)
          (value (plus r.form (negative r.n g)) first) before h less (value_plus r.form (negative r.n g) first),
      tt,
    )

from_block : (first : List ℕ) (m k : Memory) (r : More) (a n : ℕ) (by : Option Form) → is_block a n r.from r.n ≡ true → MovesBy first m k a n by
    → number_at m r.at r.n ≡ number_at k r.at r.n → MoreHolds first m r → AllByRecursion (MoreHolds first k) (with_form r (plus_if (Some r.form) (negative_if n by)))
from_block first m k r a n by e h s i = grind (arith, eqb-true, and_parts, from_moves, moves_block)

more_by : (b c d e : Bool) (first : List ℕ) (m k : Memory) (r : More) (a n : ℕ) (by : Option Form) → meet a n r.from r.n ≡ b → is_block a n r.from r.n ≡ c
    → meet a n r.at r.n ≡ d → is_block a n r.at r.n ≡ e → SameBut a n m k → MovesBy first m k a n by → MoreHolds first m r
    → AllByRecursion (MoreHolds first k)
    (cond b (cond (c && not d) (with_form r (plus_if (Some r.form) (negative_if n by))) []) (cond d (cond e (with_form r (plus_if (Some r.form) by)) []) (r ∷ [])))
more_by b c d e first m k r a n by p q x y s h i = grind (arith, more_same, number_stays, at_moves, moves_block, from_block)

-- ---- lists

-- what holds of two lists of loaded blocks holds of both together
pub all_append : (P : More → Type 0) (xs ys : List More) → AllByRecursion P xs → AllByRecursion P ys → AllByRecursion P (xs ++ ys)
all_append P [] ys h k = k
all_append P (x ∷ xs) ys h k = (h.0, all_append P xs ys h.1 k)

kept_one : (P : More → Type 0) (b : Bool) (x : More) (xs : List More) → P x → AllByRecursion P xs → AllByRecursion P (cond b (x ∷ xs) xs)
kept_one P true x xs h k = (h, k)
kept_one P false x xs h k = k

-- what holds of loaded blocks holds of those that pass a test
pub all_filter : (P : More → Type 0) (test : More → Bool) (xs : List More) → AllByRecursion P xs → AllByRecursion P (filter test xs)
all_filter P test [] h = tt
all_filter P test (x ∷ xs) h = kept_one P (test x) x (filter test xs) h.0 (all_filter P test xs h.1)

-- by how much loaded blocks are more after a write is so
pub mores_hold : (first : List ℕ) (m k : Memory) (rs : List More) (a n : ℕ) (by : Option Form) → SameBut a n m k → MovesBy first m k a n by
    → AllByRecursion (MoreHolds first m) rs → AllByRecursion (MoreHolds first k) (flat_map (more_after a n by) rs)
mores_hold first m k [] a n by s h i = tt
mores_hold first m k (r ∷ rs) a n by s h i = grind (arith, all_append, more_by, mores_hold first m k rs a n by s h i.1)
