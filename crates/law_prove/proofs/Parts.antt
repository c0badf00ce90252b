-- The memory of a frame by its parts, and what a splice into one of them changes.
use Rattle.std.proofs.Common.{◌≡◌, ℕ, ◌+◌, ◌-◌, ◌<◌, ◌≤◌, ◌⊎◌, Bool, true, false, cond, List, length, refl, sym, ap, ◌∙◌, arith}
use Rattle.std.specs.Prelude.{nat_lt, slice_index}
use Rattle.std.proofs.lemmas.Bool.{ltb-true, ltb-false, lt-ltb, false_from_ne_true}
use Rattle.model_prove.specs.model_device.specs.Bytes.{splice}
use Rattle.model_prove.specs.model_machine.specs.Frame.{dynamic_base, public_base}
use Rattle.law_prove.specs.Coverings.{parts_memory}
use Rattle.law_prove.proofs.Windows.{index_beside, index_within}

-- a number is not below one that it reaches
pub not_lt : (a n : ℕ) → n ≤ a → nat_lt a n ≡ false
not_lt a n h = false_from_ne_true (nat_lt a n) (λ is. let low = ltb-true a n is in omega (arith, low, h))

-- ---- what is read

-- a static address reads the static bytes
pub memory_static : (size : ℕ) (static dyn public : List ℕ) (a : ℕ) → a < size → parts_memory size static dyn public a ≡ slice_index static a
memory_static size static dyn public a h =
    ap (λ (b : Bool). cond b (slice_index static a) (cond (nat_lt a dynamic_base) 0 (cond (nat_lt a public_base) (slice_index dyn (a - dynamic_base)) (slice_index public (a - public_base))))) (lt-ltb a size h)

-- a dynamic address reads the dynamic bytes
pub memory_dynamic : (size : ℕ) (static dyn public : List ℕ) (a : ℕ) → size ≤ dynamic_base → dynamic_base ≤ a → a < public_base → parts_memory size static dyn public a ≡ slice_index dyn (a - dynamic_base)
memory_dynamic size static dyn public a small low high = grind (arith, not_lt, lt-ltb)

-- a public address reads the public segment
pub memory_public : (size : ℕ) (static dyn public : List ℕ) (a : ℕ) → size ≤ dynamic_base → public_base ≤ a → parts_memory size static dyn public a ≡ slice_index public (a - public_base)
memory_public size static dyn public a small low = grind (arith, not_lt)

-- ---- what is written

static_by : (p : Bool) (st b : List ℕ) (a x rest : ℕ) → a ≤ length st → (x < a) ⊎ (a + length b ≤ x) → cond p (slice_index st x) rest ≡ cond p (slice_index (splice st a b) x) rest
static_by true st b a x rest fits o = sym (index_beside st a b x fits o)
static_by false st b a x rest fits o = refl

-- a splice into the static bytes changes its own bytes alone
pub static_same : (size : ℕ) (st dyn segment b : List ℕ) (a : ℕ) → a ≤ length st → (x : ℕ) → (x < a) ⊎ (a + length b ≤ x) → parts_memory size st dyn segment x ≡ parts_memory size (splice st a b) dyn segment x
static_same size st dyn segment b a fits x o =
    static_by (nat_lt x size) st b a x (cond (nat_lt x dynamic_base) 0 (cond (nat_lt x public_base) (slice_index dyn (x - dynamic_base)) (slice_index segment (x - public_base)))) fits o

moved_by : (x base a j n : ℕ) → a ≡ base + j → base ≤ x → (x < a) ⊎ (a + n ≤ x) → (x - base < j) ⊎ (j + n ≤ x - base)
moved_by x base a j n e low o = grind arith

dynamic_by : (p q r : Bool) (dyn b : List ℕ) (a j x u v : ℕ) → nat_lt x dynamic_base ≡ q → a ≡ dynamic_base + j → j ≤ length dyn → (x < a) ⊎ (a + length b ≤ x)
    → cond p u (cond q 0 (cond r (slice_index dyn (x - dynamic_base)) v)) ≡ cond p u (cond q 0 (cond r (slice_index (splice dyn j b) (x - dynamic_base)) v))
dynamic_by p q r dyn b a j x u v e at fits o = grind (arith, index_beside, moved_by, ltb-false)

-- so does one into the dynamic bytes
pub dynamic_same : (size : ℕ) (st dyn segment b : List ℕ) (a j : ℕ) → a ≡ dynamic_base + j → j ≤ length dyn → (x : ℕ) → (x < a) ⊎ (a + length b ≤ x) → parts_memory size st dyn segment x ≡ parts_memory size st (splice dyn j b) segment x
dynamic_same size st dyn segment b a j at fits x o =
    dynamic_by (nat_lt x size) (nat_lt x dynamic_base) (nat_lt x public_base) dyn b a j x (slice_index st x) (slice_index segment (x - public_base)) refl at fits o

public_by : (p q r : Bool) (segment b : List ℕ) (a j x u v : ℕ) → nat_lt x public_base ≡ r → a ≡ public_base + j → j ≤ length segment → (x < a) ⊎ (a + length b ≤ x)
    → cond p u (cond q 0 (cond r v (slice_index segment (x - public_base)))) ≡ cond p u (cond q 0 (cond r v (slice_index (splice segment j b) (x - public_base))))
public_by p q r segment b a j x u v e at fits o = grind (arith, index_beside, moved_by, ltb-false)

-- and one into the public segment
pub public_same : (size : ℕ) (st dyn segment b : List ℕ) (a j : ℕ) → a ≡ public_base + j → j ≤ length segment → (x : ℕ) → (x < a) ⊎ (a + length b ≤ x) → parts_memory size st dyn segment x ≡ parts_memory size st dyn (splice segment j b) x
public_same size st dyn segment b a j at fits x o =
    public_by (nat_lt x size) (nat_lt x dynamic_base) (nat_lt x public_base) segment b a j x (slice_index st x) (slice_index dyn (x - dynamic_base)) refl at fits o

-- the bytes that were written are read

-- after a splice the static addresses of its bytes read them
pub static_new : (size : ℕ) (st dyn segment b : List ℕ) (a k : ℕ) → a ≤ length st → a + length b ≤ size → k < length b → parts_memory size (splice st a b) dyn segment (a + k) ≡ slice_index b k
static_new size st dyn segment b a k fits inside h = memory_static size (splice st a b) dyn segment (a + k) (omega (arith, inside, h)) ∙ index_within st a b k fits h

-- after a splice the dynamic addresses of its bytes read them
pub dynamic_new : (size : ℕ) (st dyn segment b : List ℕ) (a j k : ℕ) → a ≡ dynamic_base + j → size ≤ dynamic_base → j ≤ length dyn → j + length b ≤ 512 → k < length b → parts_memory size st (splice dyn j b) segment (a + k) ≡ slice_index b k
dynamic_new size st dyn segment b a j k at low fits inside h = grind (arith, memory_dynamic, index_within)

-- after a splice the public addresses of its bytes read them
pub public_new : (size : ℕ) (st dyn segment b : List ℕ) (a j k : ℕ) → a ≡ public_base + j → size ≤ dynamic_base → j ≤ length segment → k < length b → parts_memory size st dyn (splice segment j b) (a + k) ≡ slice_index b k
public_new size st dyn segment b a j k at low fits h = grind (arith, memory_public, index_within)
