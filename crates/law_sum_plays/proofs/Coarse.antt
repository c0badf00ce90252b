-- What is known for sums holds after a row of too many combinations; and totals hold of static bytes where they are tested.
use Rattle.std.proofs.Common.{◌≡◌, ℕ, zero, suc, ◌+◌, ◌-◌, ◌<◌, ◌≤◌, true, false, List, [], ◌∷◌, length, take, drop, refl, sym, ap, subst, ◌∙◌, arith}
use Rattle.std.specs.Prelude.{◌%◌, ◌^◌, slice_index, is_none}
use Rattle.std.specs.List.{AllByRecursion}
use Rattle.std.proofs.lemmas.Bool.{and_parts, eqb-true}
use Rattle.law_sums.specs.model_device.specs.Bytes.{num}
use Rattle.law_sums.specs.model_machine.specs.Frame.{Frame, where_is, dynamic_base, dynamic_end}
use Rattle.law_sums.specs.model_machine.specs.Shapes.{Act, Stays, Pushes, Replaces, Writes}
use Rattle.law_sums.specs.model_rules.specs.Rules.{Total}
use Rattle.law_sums.specs.model_rules.specs.Keeping.{Amounts, Sum, added_by, taken_by, is_total, are_totals}
use Rattle.law_sums.specs.model_prove.specs.Facts.{Memory}
use Rattle.law_sums.specs.model_prove.specs.Keys.{Start, Call}
use Rattle.law_sums.specs.model_prove.specs.Compares.{bytes_from}
use Rattle.law_sums.specs.model_prove.specs.Reach.{Reach, Coarse, PushesAny, Shifts, Compares, WritesWithin, Leads}
use Rattle.law_sums.specs.model_prove.specs.Reach as reach
use Rattle.law_prove_closed.specs.law_prove.specs.Coverings.{parts_memory}
use Rattle.law_prove_closed.specs.law_prove.proofs.Windows.{window, taken_is}
use Rattle.law_prove_closed.specs.law_prove.proofs.Parts.{memory_static}
use Rattle.law_prove_closed.specs.law_prove.proofs.Reached.{IsWithin, not_within}
use Rattle.law_sums.specs.model_sums.specs.Sums.{Sums}
use Rattle.law_sums.specs.model_sums.specs.Says.{Holds, TotalsHold}
use Rattle.law_sums.specs.model_sums.specs.Writes.{wrote_any, popped}
use Rattle.law_sums.specs.model_sums.specs.Moves.{reached, moved_coarsely}
use Rattle.law_sums.proofs.KnownLemmas.{popped_holds}
use Rattle.law_sums.proofs.ReachLemmas.{reached_holds}
use Rattle.law_sum_plays.proofs.Memories.{Changed, Whole, write_changed}
use Rattle.law_sum_plays.proofs.Acts.{any_wrote, lower, before, after, sums_after, stack_changed}

-- ---- totals of static bytes

bytes_are : (m : Memory) (l : List ℕ) (a n : ℕ) → ((x : ℕ) → a ≤ x → x < a + n → m x ≡ slice_index l x) → bytes_from m a n ≡ window l a n
bytes_are m l a zero same = refl
bytes_are m l a (suc n) same =
    let first : m a ≡ slice_index l a = same a (omega arith) (omega arith) in
    let rest : bytes_from m (suc a) n ≡ window l (suc a) n = bytes_are m l (suc a) n (λ x low high. same x (omega (arith, low)) (omega (arith, high))) in
    ap (λ (b : ℕ). b ∷ bytes_from m (suc a) n) first ∙ ap (λ (t : List ℕ). slice_index l a ∷ t) rest

-- static bytes in memory are those of the list
static_is : (fixed dyn public : List ℕ) (a n : ℕ) → a + n ≤ length fixed → bytes_from (parts_memory (length fixed) fixed dyn public) a n ≡ take n (drop a fixed)
static_is fixed dyn public a n fits =
    bytes_are (parts_memory (length fixed) fixed dyn public) fixed a n (λ x low high. memory_static (length fixed) fixed dyn public x (omega (arith, fits, high))) ∙ sym (taken_is fixed a n fits)

-- totals that are tested of static bytes hold
pub totals_hold : (fixed dyn public : List ℕ) (sums : List Sum) (ts : List Total) → AllByRecursion (λ t. t.at + t.n ≤ length fixed) ts → are_totals fixed sums ts ≡ true → TotalsHold (parts_memory (length fixed) fixed dyn public) sums ts
totals_hold fixed dyn public sums [] all e = tt
totals_hold fixed dyn public sums (t ∷ ts) all e =
    let p = and_parts (is_total fixed sums t) (are_totals fixed sums ts) e in
    let one = eqb-true ((num (take t.n (drop t.at fixed)) + taken_by sums t.terms) % 256 ^ t.n) ((t.constant + added_by sums t.terms) % 256 ^ t.n) p.0 in
    (ap (λ (l : List ℕ). (num l + taken_by sums t.terms) % 256 ^ t.n) (static_is fixed dyn public t.at t.n all.0) ∙ one, totals_hold fixed dyn public sums ts all.1 p.1)

-- ---- rows of too many combinations

module _ (ts : List Total) (first : List ℕ) (sums kept : List Sum) (st : Start) (al : Amounts) (calls : List Call) (f : Frame) (public : List ℕ) (next d : ℕ) where
  abbrev m : Memory
  m = before ts first sums kept st al calls f public next d

  abbrev done : Act → Memory
  done a = after ts first sums kept st al calls f public next d a

  abbrev read : Act → List Sum
  read a = sums_after ts first sums kept st al calls f public next d a

  -- n bytes are pushed
  pub record IsPush (n : ℕ) (a : Act) : Type 0 where
    pub bytes : List ℕ
    pub is : a ≡ Pushes bytes
    pub long : length bytes ≡ n
    pub over : d + length bytes ≤ dynamic_end

  -- the top n bytes are replaced
  pub record IsReplace (n : ℕ) (a : Act) : Type 0 where
    pub bytes : List ℕ
    pub is : a ≡ Replaces bytes
    pub long : length bytes ≡ n
    pub low : dynamic_base + length bytes ≤ d

  -- bytes are written within a reach
  pub record IsWrite (e : Frame) (r : Reach) (a : Act) : Type 0 where
    pub at : ℕ
    pub n : ℕ
    pub bytes : List ℕ
    pub is : a ≡ Writes at n bytes
    pub inside : is_none (where_is (lower ts first sums kept st al calls f public next d) at (length bytes)) ≡ false
    pub within : IsWithin (record e { dt = d }) r at (length bytes)

  -- what a row of too many combinations does
  abbrev pub CoarseFits : Frame → Coarse → Act → Type 0
  CoarseFits e (PushesAny n) a = IsPush n a
  CoarseFits e (Shifts n) a = IsReplace n a
  CoarseFits e Compares a = a ≡ Stays
  CoarseFits e reach.Searches a = IsPush 1 a
  CoarseFits e (WritesWithin r) a = IsWrite e r a
  CoarseFits e Leads a = a ≡ Stays

  module _ (w : Whole (lower ts first sums kept st al calls f public next d) public) where
    pushes_any : (n : ℕ) (a : Act) (u : Sums) → IsPush n a → Holds ts u first m sums → Holds ts (wrote_any ts d n (popped d u)) first (done a) (read a)
    pushes_any n a u p h =
        let b = p.bytes in
        subst (λ (a : Act). Holds ts (wrote_any ts d n (popped d u)) first (done a) (read a)) (sym p.is)
        (subst (λ (n : ℕ). Holds ts (wrote_any ts d n (popped d u)) first (done (Pushes b)) sums) p.long
        (any_wrote ts first sums (popped d u) m (done (Pushes b)) d b (stack_changed ts first sums kept st al calls f public next d w d b w.low p.over) (popped_holds ts u first m sums d h)))

    shifts_any : (n : ℕ) (a : Act) (u : Sums) → IsReplace n a → Holds ts u first m sums → Holds ts (wrote_any ts (d - n) n (popped d u)) first (done a) (read a)
    shifts_any n a u p h =
        let b = p.bytes in
        let high : d ≤ dynamic_end = w.sized.high in
        let low : dynamic_base + length b ≤ d = p.low in
        subst (λ (a : Act). Holds ts (wrote_any ts (d - n) n (popped d u)) first (done a) (read a)) (sym p.is)
        (subst (λ (n : ℕ). Holds ts (wrote_any ts (d - n) n (popped d u)) first (done (Replaces b)) sums) p.long
        (any_wrote ts first sums (popped d u) m (done (Replaces b)) (d - length b) b
        (stack_changed ts first sums kept st al calls f public next d w (d - length b) b (omega (arith, low)) (omega (arith, low, high))) (popped_holds ts u first m sums d h)))

    stays_so : (a : Act) (u : Sums) → a ≡ Stays → Holds ts u first m sums → Holds ts (popped d u) first (done a) (read a)
    stays_so a u is h = subst (λ (a : Act). Holds ts (popped d u) first (done a) (read a)) (sym is) (popped_holds ts u first m sums d h)

    writes_any : (e : Frame) (r : Reach) (a : Act) (u : Sums) → length e.fixed ≤ dynamic_base → IsWrite e r a → Holds ts u first m sums → Holds ts (reached ts (record e { dt = d }) r (popped d u)) first (done a) (read a)
    writes_any e r a u small p h =
        let b = p.bytes in
        let k : Memory = done (Writes p.at p.n b) in
        let c : Changed m k p.at b = write_changed (lower ts first sums kept st al calls f public next d) public b p.at p.inside w in
        subst (λ (a : Act). Holds ts (reached ts (record e { dt = d }) r (popped d u)) first (done a) (read a)) (sym p.is)
        (reached_holds ts (popped d u) first m k sums (record e { dt = d }) r small w.sized.high (λ x none. c.stays x (not_within (record e { dt = d }) r p.at (length b) x p.within none)) (popped_holds ts u first m sums d h))

    -- what is known holds after it
    pub coarse_holds : (e : Frame) (c : Coarse) (a : Act) (u : Sums) → length e.fixed ≤ dynamic_base → CoarseFits e c a → Holds ts u first m sums
        → Holds ts (moved_coarsely ts (record e { dt = d }) c u) first (done a) (read a)
    coarse_holds e (PushesAny n) a u small fits h = pushes_any n a u fits h
    coarse_holds e (Shifts n) a u small fits h = shifts_any n a u fits h
    coarse_holds e Compares a u small fits h = stays_so a u fits h
    coarse_holds e reach.Searches a u small fits h = pushes_any 1 a u fits h
    coarse_holds e (WritesWithin r) a u small fits h = writes_any e r a u small fits h
    coarse_holds e Leads a u small fits h = stays_so a u fits h
