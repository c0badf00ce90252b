-- Copies and operations as writes.
use Rattle.std.specs.Prelude.{◌≡◌, ◌⊎◌, ℕ, zero, suc, ◌+◌, ◌-◌, ◌*◌, ◌%◌, ◌^◌, ◌<◌, ◌≤◌, Bool, cond, ◌&&◌, ◌==◌, List, [], ◌∷◌, length, Option, Some, refl}
use Rattle.std.specs.List.{AllByRecursion}
use Rattle.std.proofs.Common.{arith, ap, sym, subst, ◌∙◌}
use Rattle.std.proofs.lemmas.Bool.{eqb-true, and_parts}
use Rattle.model_sums.specs.model_device.specs.Bytes.{num}
use Rattle.model_sums.specs.model_rules.specs.Rules.{Total}
use Rattle.model_sums.specs.model_rules.specs.Keeping.{Sum}
use Rattle.model_sums.specs.model_prove.specs.Facts.{Memory}
use Rattle.model_sums.specs.model_prove.specs.Compares.{bytes_from}
use Rattle.model_sums.specs.model_prove.specs.Digits.{Operation}
use Rattle.model_sums.specs.model_prove.specs.Work.{Operand, AtAddress, These, Digitwise}
use Rattle.model_sums.specs.Forms.{Form, value, negative}
use Rattle.model_sums.specs.Origins.{Origin, Origins, origins_from, unknowns}
use Rattle.model_sums.specs.Sums.{More, Sums}
use Rattle.model_sums.specs.Says.{number_at, AreFrom, OriginsHold, MoreHolds, Holds}
use Rattle.model_sums.specs.Writes.{wrote, popped, more_of}
use Rattle.model_sums.specs.Operations.{form_of_operand, moved_by}
use Rattle.law_sums.specs.WriteLaws.{MovesBy}
use Rattle.law_sums.specs.CopyLaws.{operand_bytes, IsResult}
use Rattle.law_sums.proofs.Modulo.{add_same, add_whole, one_less_more, power_positive}
use Rattle.law_sums.proofs.FormLemmas.{value_times}
use Rattle.law_sums.proofs.OriginLemmas.{number_value}
use Rattle.law_sums.proofs.OriginMoves.{origins_written}
use Rattle.law_sums.proofs.MoveLemmas.{offs_hold, mores_hold}
use Rattle.law_sums.proofs.KnownLemmas.{popped_holds}

-- the origins of n bytes are n
pub length_origins : (o : Origins) (a n : ℕ) → length (origins_from o a n) ≡ n
length_origins o a zero = refl
length_origins o a (suc n) = ap suc (length_origins o (suc a) n)

-- n unknown origins are n
pub length_unknowns : (n : ℕ) → length (unknowns n) ≡ n
length_unknowns zero = refl
length_unknowns (suc n) = ap suc (length_unknowns n)

-- bytes in memory come from where their origins say
pub memory_from : (o : Origins) (first : List ℕ) (m : Memory) (a n : ℕ) → OriginsHold o first m → AreFrom first (origins_from o a n) (bytes_from m a n)
memory_from o first m a zero h = tt
memory_from o first m a (suc n) h = (h a, memory_from o first m (suc a) n h)

-- n bytes of a memory come from unknown origins
pub unknown_from : (first : List ℕ) (m : Memory) (a n : ℕ) → AreFrom first (unknowns n) (bytes_from m a n)
unknown_from first m a zero = tt
unknown_from first m a (suc n) = (tt, unknown_from first m (suc a) n)

-- ---- a write of n bytes

-- what is known after n bytes were written
pub written_holds : (ts : List Total) (u : Sums) (first : List ℕ) (m k : Memory) (sums : List Sum) (a n : ℕ) (gs : List Origin) (by : Option Form) → length gs ≡ n
    → ((b : ℕ) → (b < a) ⊎ (a + n ≤ b) → m b ≡ k b) → AreFrom first gs (bytes_from k a n) → MovesBy first m k a n by → Holds ts u first m sums
    → Holds ts (wrote ts a gs by u) first k sums
written_holds ts u first m k sums a n gs by e s f h i =
    let stays : (b : ℕ) → (b < a) ⊎ (a + length gs ≤ b) → m b ≡ k b = subst (λ (x : ℕ). (b : ℕ) → (b < a) ⊎ (a + x ≤ b) → m b ≡ k b) (sym e) s in
    let moves : MovesBy first m k a (length gs) by = subst (λ (x : ℕ). MovesBy first m k a x by) (sym e) h in
    record {
      origins = origins_written first m k a gs u.origins stays (subst (λ (x : ℕ). AreFrom first gs (bytes_from k a x)) (sym e) f) i.origins;
      mores = mores_hold first m k u.mores a (length gs) by stays moves i.mores;
      offs = offs_hold first m k sums ts u.offs a (length gs) by stays moves i.offs;
    }

-- ---- copies

more_if : (b : Bool) (first : List ℕ) (m k : Memory) (to from n : ℕ) (r : More) (rest : Option Form) → (r.at == from && r.from == to && r.n == n) ≡ b
    → number_at k to n ≡ number_at m from n → MoreHolds first m r → MovesBy first m k to n rest → MovesBy first m k to n (cond b (Some r.form) rest)
more_if b first m k to from n r rest e c h i = grind (arith, and_parts, eqb-true)

more_moves : (first : List ℕ) (m k : Memory) (rs : List More) (to from n : ℕ) → number_at k to n ≡ number_at m from n → AllByRecursion (MoreHolds first m) rs
    → MovesBy first m k to n (more_of rs from to n)
more_moves first m k [] to from n c h = tt
more_moves first m k (r ∷ rs) to from n c h =
    more_if (r.at == from && r.from == to && r.n == n) first m k to from n r (more_of rs from to n) refl c h.0 (more_moves first m k rs to from n c h.1)

-- what is known after bytes were copied holds
pub copied_holds : (ts : List Total) (u : Sums) (first : List ℕ) (m k : Memory) (sums : List Sum) (dt to from n : ℕ) → ((b : ℕ) → (b < to) ⊎ (to + n ≤ b) → m b ≡ k b)
    → bytes_from k to n ≡ bytes_from m from n → Holds ts u first m sums
    → Holds ts (wrote ts to (origins_from u.origins from n) (more_of u.mores from to n) (popped dt u)) first k sums
copied_holds ts u first m k sums dt to from n s c h =
    written_holds ts (popped dt u) first m k sums to n (origins_from u.origins from n) (more_of u.mores from to n) (length_origins u.origins from n) s
    (subst (λ (bs : List ℕ). AreFrom first (origins_from u.origins from n) bs) (sym c) (memory_from u.origins first m from n h.origins))
    (more_moves first m k u.mores to from n (ap num c) h.mores) (popped_holds ts u first m sums dt h)

-- ---- operations

operand_value : (o : Origins) (first : List ℕ) (m : Memory) (n : ℕ) (y : Operand) (f : Form) → OriginsHold o first m → form_of_operand o n y ≡ Some f
    → num (operand_bytes m n y) ≡ value f first
operand_value o first m n (AtAddress a) f h e = number_value first (origins_from o a n) (bytes_from m a n) f (memory_from o first m a n h) e
operand_value o first m n (These b) f h e = grind arith

-- what a subtraction takes away
less_moves : (first : List ℕ) (n x y r : ℕ) (f : Form) → (r + y) % 256 ^ n ≡ x % 256 ^ n → y ≡ value f first → r % 256 ^ n ≡ (x + value (negative n f) first) % 256 ^ n
less_moves first n x y r f h e =
    let part : value (negative n f) first ≡ (256 ^ n - 1) * value f first = value_times (256 ^ n - 1) f first in
    let more : (256 ^ n - 1) * value f first + value f first ≡ value f first * 256 ^ n = one_less_more (256 ^ n) (value f first) (power_positive n) in
    let one : (r + y + value (negative n f) first) % 256 ^ n ≡ (x + value (negative n f) first) % 256 ^ n =
    add_same (256 ^ n) (r + y) x (value (negative n f) first) (value (negative n f) first) h refl in
    let two : r + y + value (negative n f) first ≡ r + value f first * 256 ^ n = omega (arith, e, part, more) in
    sym (add_whole (256 ^ n) r (value f first)) ∙ ap (λ (z : ℕ). z % 256 ^ n) (sym two) ∙ one

result_moves : (op : Operation) (first : List ℕ) (m k : Memory) (a n y : ℕ) (x : Option Form) → IsResult op n (number_at m a n) y (number_at k a n)
    → ((f : Form) → x ≡ Some f → y ≡ value f first) → MovesBy first m k a n (moved_by op n x)
result_moves op first m k a n y x r h = grind (arith, less_moves)

-- what is known after an operation was written over its first operand holds
pub operated_holds : (ts : List Total) (u : Sums) (first : List ℕ) (m k : Memory) (sums : List Sum) (d : Digitwise) → ((b : ℕ) → (b < d.at) ⊎ (d.at + d.n ≤ b) → m b ≡ k b)
    → IsResult d.op d.n (number_at m d.at d.n) (num (operand_bytes m d.n d.operand)) (number_at k d.at d.n) → Holds ts u first m sums
    → Holds ts (wrote ts d.at (unknowns d.n) (moved_by d.op d.n (form_of_operand u.origins d.n d.operand)) u) first k sums
operated_holds ts u first m k sums d s r h =
    written_holds ts u first m k sums d.at d.n (unknowns d.n) (moved_by d.op d.n (form_of_operand u.origins d.n d.operand)) (length_unknowns d.n) s
    (unknown_from first k d.at d.n)
    (result_moves d.op first m k d.at d.n (num (operand_bytes m d.n d.operand)) (form_of_operand u.origins d.n d.operand) r
    (λ f e. operand_value u.origins first m d.n d.operand f h.origins e))
    h
