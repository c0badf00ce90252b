-- Totals of the bytes in memory are totals of static bytes, where the memory has these.
use Rattle.std.specs.Prelude.{◌≡◌, ℕ, zero, suc, ◌+◌, ◌<◌, ◌≤◌, true, nat_le, List, [], ◌∷◌, length, take, drop, slice_index, refl}
use Rattle.std.specs.List.{AllByRecursion}
use Rattle.std.proofs.Common.{arith, ap, sym, ◌∙◌}
use Rattle.std.proofs.Math.Seq.{drop-cons}
use Rattle.std.proofs.lemmas.Bool.{and_parts, and_from, eqb-true, eq-eqb, leb-true}
use Rattle.law_prove_closed.specs.model_device.specs.Bytes.{num}
use Rattle.law_prove_closed.specs.model_device.specs.Pieces.{laid_pieces}
use Rattle.law_prove_closed.specs.model_machine.specs.Frame.{Frame, static_bytes}
use Rattle.law_prove_closed.specs.model_rules.specs.Rules.{Total}
use Rattle.law_prove_closed.specs.model_rules.specs.Keeping.{Sum, is_total, are_totals}
use Rattle.law_prove_closed.specs.model_prove.specs.Facts.{Memory}
use Rattle.law_prove_closed.specs.model_prove.specs.Compares.{bytes_from}
use Rattle.law_prove_closed.specs.law_prove.specs.Coverings.{frame_memory}
use Rattle.law_prove_closed.specs.law_prove.proofs.Parts.{memory_static}
use Rattle.law_sums.specs.model_sums.specs.Says.{number_at, TotalHolds, TotalsHold}
use Rattle.law_sums.specs.model_sums.specs.Closed.{all_pass}

-- a memory has static bytes at their addresses
abbrev pub HasStatic : Memory → List ℕ → Type 0
HasStatic m fixed = (a : ℕ) → a < length fixed → m a ≡ slice_index fixed a

block_is : (m : Memory) (fixed : List ℕ) (a n : ℕ) → HasStatic m fixed → a + n ≤ length fixed → bytes_from m a n ≡ take n (drop a fixed)
block_is m fixed a zero h fits = refl
block_is m fixed a (suc n) h fits =
    let cells : drop a fixed ≡ slice_index fixed a ∷ drop (suc a) fixed = drop-cons fixed a 0 (omega (arith, fits)) in
    let rest : bytes_from m (suc a) n ≡ take n (drop (suc a) fixed) = block_is m fixed (suc a) n h (omega (arith, fits)) in
    ap (λ (v : ℕ). v ∷ bytes_from m (suc a) n) (h a (omega (arith, fits)))
    ∙ (ap (λ (bs : List ℕ). slice_index fixed a ∷ bs) rest ∙ sym (ap (λ (bs : List ℕ). take (suc n) bs) cells))

number_is : (m : Memory) (fixed : List ℕ) (t : Total) → HasStatic m fixed → t.at + t.n ≤ length fixed → number_at m t.at t.n ≡ num (take t.n (drop t.at fixed))
number_is m fixed t h fits = ap num (block_is m fixed t.at t.n h fits)

total_holds : (m : Memory) (fixed : List ℕ) (sums : List Sum) (t : Total) → HasStatic m fixed → t.at + t.n ≤ length fixed → is_total fixed sums t ≡ true → TotalHolds m sums t
total_holds m fixed sums t h fits e = grind (arith, number_is, eqb-true)

total_is : (m : Memory) (fixed : List ℕ) (sums : List Sum) (t : Total) → HasStatic m fixed → t.at + t.n ≤ length fixed → TotalHolds m sums t → is_total fixed sums t ≡ true
total_is m fixed sums t h fits e = grind (arith, eq-eqb, number_is)

-- the blocks of totals lie in static bytes of this number
abbrev pub AreWithin : ℕ → List Total → Type 0
AreWithin n ts = AllByRecursion (λ t. t.at + t.n ≤ n) ts

-- totals of static bytes hold in a memory that has these bytes
pub totals_hold : (m : Memory) (fixed : List ℕ) (sums : List Sum) (ts : List Total) → HasStatic m fixed → AreWithin (length fixed) ts → are_totals fixed sums ts ≡ true → TotalsHold m sums ts
totals_hold m fixed sums [] h fits e = tt
totals_hold m fixed sums (t ∷ ts) h fits e =
    let p = and_parts (is_total fixed sums t) (are_totals fixed sums ts) e in
    (total_holds m fixed sums t h fits.0 p.0, totals_hold m fixed sums ts h fits.1 p.1)

-- totals that hold in a memory are those of the static bytes that it has
pub totals_are : (m : Memory) (fixed : List ℕ) (sums : List Sum) (ts : List Total) → HasStatic m fixed → AreWithin (length fixed) ts → TotalsHold m sums ts → are_totals fixed sums ts ≡ true
totals_are m fixed sums [] h fits e = refl
totals_are m fixed sums (t ∷ ts) h fits e =
    and_from (is_total fixed sums t) (are_totals fixed sums ts) (total_is m fixed sums t h fits.0 e.0) (totals_are m fixed sums ts h fits.1 e.1)

-- what a test of all totals says
pub within_by : (n : ℕ) (ts : List Total) → all_pass (λ t. nat_le (t.at + t.n) n) ts ≡ true → AreWithin n ts
within_by n [] e = tt
within_by n (t ∷ ts) e =
    let p = and_parts (nat_le (t.at + t.n) n) (all_pass (λ t. nat_le (t.at + t.n) n) ts) e in
    (leb-true (t.at + t.n) n p.0, within_by n ts p.1)

-- blocks within some static bytes are within more of them
pub within_more : (n k : ℕ) (ts : List Total) → n ≤ k → AreWithin n ts → AreWithin k ts
within_more n k [] h w = tt
within_more n k (t ∷ ts) h w = (omega (arith, h, w.0), within_more n k ts h w.1)

-- a frame without pending pieces reads the static bytes that power would leave
pub reads_static : (f : Frame) (public : List ℕ) → f.pieces ≡ [] → HasStatic (frame_memory f public) f.fixed
reads_static f public none a low =
    memory_static (length f.fixed) (static_bytes f) f.dyn public a low ∙ ap (λ (ps : List (ℕ × List ℕ)). slice_index (laid_pieces f.fixed ps) a) none
