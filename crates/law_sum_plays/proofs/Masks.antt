-- Bits of the top of the stack under a mask.
use Rattle.std.proofs.Common.{◌≡◌, ◌⊎◌, inl, inr, ℕ, zero, suc, ◌+◌, ◌-◌, ◌<◌, ◌≤◌, Bool, true, false, cond, List, [], length, take, drop, Option, Some, None, refl, sym, ap, subst, ◌∙◌, arith}
use Rattle.std.specs.Prelude.{◌==◌, nat_lt, slice_index, bit_and, bit_or, bit_xor}
use Rattle.std.proofs.lemmas.Bool.{ltb-true, ltb-false}
use Rattle.law_sums.specs.model_machine.specs.declared.instruction.Ins.{Ins}
use Rattle.law_sums.specs.model_machine.specs.declared.instruction.Ins.TheVariants as ins
use Rattle.law_sums.specs.model_machine.specs.Blocks.{and_blocks, or_blocks, xor_blocks, not_block, is_zero}
use Rattle.law_sums.specs.model_machine.specs.Frame.{Frame, top, is_under, dynamic_base, dynamic_end}
use Rattle.law_sums.specs.model_machine.specs.Primitives.{Around, Goes, BitByte, BitWord, later_causes, masked_bytes}
use Rattle.law_sums.specs.model_machine.specs.Row.{causes}
use Rattle.law_sums.specs.model_machine.specs.Shapes.{Act, Replaces, Shape, shape, prim_shape}
use Rattle.law_sums.specs.law_machine.proofs.BlockLengths.{each_short}
use Rattle.law_sums.specs.model_rules.specs.Keeping.{mode_of}
use Rattle.law_sums.specs.model_prove.specs.Facts.{Memory}
use Rattle.law_sums.specs.model_prove.specs.Compares.{bytes_from}
use Rattle.law_sums.specs.model_prove.specs.Keys.{Start, Tables}
use Rattle.law_sums.specs.model_prove.specs.Laws.{Among}
use Rattle.law_sums.specs.model_prove.specs.Splits.{deciders}
use Rattle.law_sums.specs.model_prove.specs.Digits.{And, Or, Xor}
use Rattle.law_sums.specs.model_prove.specs.Reach.{takes_target}
use Rattle.law_sums.specs.model_prove.specs.Work.{These, Work, works, mask_work, work}
use Rattle.law_sums.specs.model_prove.specs.Arrivals.{Setting}
use Rattle.law_sums.specs.model_prove.specs.Steps.{arounds, primitive_of}
use Rattle.law_prove_closed.specs.law_prove.proofs.Alike.{from_length, top_is}
use Rattle.law_prove_closed.specs.law_prove.proofs.Plain.{above}
use Rattle.law_prove_closed.specs.law_prove.proofs.Turns.{NoCause, nobody}
use Rattle.law_prove_closed.specs.law_prove.proofs.ReachScenes.{with_bytes}
use Rattle.law_sums.specs.model_sums.specs.Sums.{SumsTable}
use Rattle.law_sums.specs.TurnLaws.{row_sums}
use Rattle.law_sum_plays.specs.Rows.{AreStatic}
use Rattle.law_sum_plays.proofs.Memories.{Changed, Whole}
use Rattle.law_sum_plays.proofs.Acts.{stack_changed}
use Rattle.law_sum_plays.proofs.Moved.{shape_of, SameIf}
use Rattle.law_sum_plays.proofs.Scenes.{Step, fetched, memory, sized}
use Rattle.law_sum_plays.proofs.Rows.{unprotected, known, kept, low, left, whole_at, IsWork, StepCase}
use Rattle.law_sum_plays.proofs.Plain.{one_row, dt_low, dt_high}
use Rattle.law_sum_plays.proofs.Prims.{alone}

-- ---- bytes that are written back

index_from : (m : Memory) (a n i : ℕ) → i < n → slice_index (bytes_from m a n) i ≡ m (a + i)
index_from m a zero i less = absurd (omega (arith, less))
index_from m a (suc n) zero less = let e : a ≡ a + 0 = omega arith in ap m e
index_from m a (suc n) (suc i) less =
    let e : suc a + i ≡ a + suc i = omega arith in
    index_from m (suc a) n i (omega (arith, less)) ∙ ap m e

restored_by : (p q : Bool) (m k : Memory) (a : ℕ) (b : List ℕ) (x : ℕ) → nat_lt x a ≡ p → nat_lt x (a + length b) ≡ q → Changed m k a b → bytes_from m a (length b) ≡ b → m x ≡ k x
restored_by true q m k a b x e d c is = c.stays x (inl (ltb-true x a e))
restored_by false false m k a b x e d c is = c.stays x (inr (ltb-false x (a + length b) d))
restored_by false true m k a b x e d c is =
    let low = ltb-false x a e in
    let high = ltb-true x (a + length b) d in
    let i = x - a in
    let at : a + i ≡ x = omega (arith, low) in
    let less : i < length b = omega (arith, low, high) in
    let one : m (a + i) ≡ k (a + i) =
    sym (index_from m a (length b) i less) ∙ (ap (λ (l : List ℕ). slice_index l i) (is ∙ sym c.there) ∙ index_from k a (length b) i less)
    in
    subst (λ (y : ℕ). m y ≡ k y) at one

-- bytes that are written over the same leave all
restored : (m k : Memory) (a : ℕ) (b : List ℕ) → Changed m k a b → bytes_from m a (length b) ≡ b → (x : ℕ) → m x ≡ k x
restored m k a b c is x = restored_by (nat_lt x a) (nat_lt x (a + length b)) m k a b x refl refl c is

-- ---- masks

masked_short : (p q r : Bool) (v x y z : List ℕ) (n : ℕ) → length v ≤ n → length (cond p (and_blocks v x) (cond q (or_blocks v y) (cond r (xor_blocks v z) v))) ≤ n
masked_short true q r v x y z n h = each_short bit_and v x n h
masked_short false true r v x y z n h = each_short bit_or v y n h
masked_short false false true v x y z n h = each_short bit_xor v z n h
masked_short false false false v x y z n h = h

masked_same : (p q r : Bool) (w x y v : List ℕ) → p ≡ false → q ≡ false → r ≡ false → cond p w (cond q x (cond r y v)) ≡ v
masked_same true q r w x y v e d h = absurd (cc e)
masked_same false true r w x y v e d h = absurd (cc d)
masked_same false false true w x y v e d h = absurd (cc h)
masked_same false false false w x y v e d h = refl

module _ (i : Ins) (s : Setting) (t : Tables) (u : SumsTable) (step : Step s t u i) (static : AreStatic s s.rules.totals) (n : ℕ) (mask : List ℕ) (over : dynamic_base + n ≤ step.frame.dt) where
  abbrev f : Frame
  f = fetched s t u i step

  abbrev d : ℕ
  d = step.frame.dt

  abbrev m : Memory
  m = memory s t u i step

  -- bytes over the top
  changed : (b : List ℕ) → length b ≤ n → Changed m (left s t u i step static d (Replaces b)) (d - length b) b
  changed b short =
      let high : d ≤ dynamic_end = dt_high s t u step in
      let w : Whole (low s t u i step static d) step.public = whole_at s t u i step static d (dt_low s t u step) high in
      stack_changed s.rules.totals step.sums.first (known s t u i step static) (kept s t u i step static) step.place.start step.place.standing.allowances step.place.calls step.frame step.public step.next d w (d - length b) b
      (omega (arith, short, over)) (omega (arith, short, over, high))

  stays : (b : List ℕ) → length b ≤ n → (x : ℕ) → (x < d - n) ⊎ (d - n + n ≤ x) → m x ≡ left s t u i step static d (Replaces b) x
  stays b short x beside =
      let c : Changed m (left s t u i step static d (Replaces b)) (d - length b) b = changed b short in
      c.stays x (elim beside [ inl below ↦ inl (omega (arith, below, short)) | inr up ↦ inr (omega (arith, up, short, over)) ])

  top_back : (b : List ℕ) → b ≡ top f n → (x : ℕ) → m x ≡ left s t u i step static d (Replaces b) x
  top_back b is =
      let read : top f n ≡ bytes_from m (d - n) n = top_is f step.public n (sized s t u i step) over in
      let long : length b ≡ n = ap (λ (l : List ℕ). length l) (is ∙ read) ∙ from_length m (d - n) n in
      let c : Changed m (left s t u i step static d (Replaces b)) (d - length b) b = changed b (omega (arith, long)) in
      restored m (left s t u i step static d (Replaces b)) (d - length b) b c
      (ap (λ (k : ℕ). bytes_from m (d - k) k) long ∙ sym (is ∙ read))

  mask_fits : (p q r : Bool) (b : List ℕ) → length b ≤ n → (p ≡ false → q ≡ false → r ≡ false → b ≡ top f n)
      → IsWork s t u i step static d (cond p (works And (d - n) n (These (not_block mask)) true false) (cond q (works Or (d - n) n (These mask) true false) (cond r (works Xor (d - n) n (These mask) true false) (works And (d - n) n (These mask) false false)))) (Replaces b)
  mask_fits true q r b short same = record { on = λ on. (stays b short, tt); off = λ no. absurd (cc no); reads = refl }
  mask_fits false true r b short same = record { on = λ on. (stays b short, tt); off = λ no. absurd (cc no); reads = refl }
  mask_fits false false true b short same = record { on = λ on. (stays b short, tt); off = λ no. absurd (cc no); reads = refl }
  mask_fits false false false b short same = record { on = λ on. absurd (cc on); off = λ no. top_back b (same refl refl refl); reads = refl }

  mask_works : (p q r : Bool) (a : Act) (c : List ℕ)
      → SameIf (cond p (works And (d - n) n (These (not_block mask)) true false) (cond q (works Or (d - n) n (These mask) true false) (cond r (works Xor (d - n) n (These mask) true false) (works And (d - n) n (These mask) false false)))) i a c
  mask_works true q r a c = tt
  mask_works false true r a c = tt
  mask_works false false true a c = tt
  mask_works false false false a c = tt

-- a row that manipulates the top n bytes
mask_row : (i : Ins) (n op : ℕ) (mask : List ℕ)
    → ((f : Frame) (public : List ℕ) (x : Around) → shape i f public x ≡ shape_of f.dt (Replaces (masked_bytes op (top f n) mask)) (Some (f.c, is_zero (cond (op == 3) (and_blocks (top f n) mask) (masked_bytes op (top f n) mask)))) Goes)
    → ((f : Frame) (public : List ℕ) (x : Around) → NoCause (causes i f public x) → is_under f n ≡ false) → ((f : Frame) (public : List ℕ) → work i f public ≡ mask_work f op n mask)
    → ((f : Frame) → deciders i f ≡ []) → ((st : Start) → Among nobody (arounds st (primitive_of i))) → takes_target i ≡ false → mode_of i ≡ None → StepCase i
mask_row i n op mask form under task none who takes mode s t u step static =
    let f : Frame = fetched s t u i step in
    let d = step.frame.dt in
    let v = top f n in
    let b = masked_bytes op v mask in
    one_row i s t u step static d (Replaces b) (Some (f.c, is_zero (cond (op == 3) (and_blocks v mask) b))) Goes takes none who (form f step.public step.around)
    (sym (ap (λ (m : Option ℕ). row_sums step.frame.protected m step.place.standing) mode ∙ unprotected step.frame.protected step.place.standing)) (λ free fixed dyn public fits.
    let e : Frame = with_bytes f fixed dyn in
    let b0 = masked_bytes op (top e n) mask in
    let enough = above f n (under f step.public step.around free) in
    let over : dynamic_base + n ≤ d = omega (arith, enough) in
    let m : Memory = memory s t u i step in
    let long : length v ≡ n = ap (λ (l : List ℕ). length l) (top_is f step.public n (sized s t u i step) over) ∙ from_length m (d - n) n in
    let short : length b ≤ n = masked_short (op == 0) (op == 1) (op == 2) v (not_block mask) mask mask n (omega (arith, long)) in
    record {
      bytes = b0;
      to = 0;
      flags = Some (f.c, is_zero (cond (op == 3) (and_blocks (top e n) mask) b0));
      later = Goes;
      stands = form e public nobody;
      same = subst (λ (w : Work). SameIf w i (Replaces b) b0) (sym (task e public)) (mask_works i s t u step static n mask over (op == 0) (op == 1) (op == 2) (Replaces b) b0);
      low = dt_low s t u step;
      high = dt_high s t u step;
      fits = subst (λ (w : Work). IsWork s t u i step static d w (Replaces b)) (sym (task e public))
          (mask_fits i s t u step static n mask over (op == 0) (op == 1) (op == 2) b short (λ p q r. masked_same (op == 0) (op == 1) (op == 2) (and_blocks v (not_block mask)) (or_blocks v mask) (xor_blocks v mask) v p q r));
      next = ap (λ (h : Shape). h.next) (form e public nobody);
    })

-- what is known for sums holds after the bits of the top byte are manipulated
pub bit_byte_case : (args : List ℕ) → StepCase (ins.Prim 2 1 args)
unfolding causes shape later_causes prim_shape
bit_byte_case args =
    mask_row (ins.Prim 2 1 args) 1 (slice_index args 0) (take 1 (drop 1 args)) (λ f public x. refl) (λ f public x none. none.1.1.0) (λ f public. refl) (λ f. refl) (alone (Some BitByte) refl) refl refl

-- what is known for sums holds after the bits of the top word are manipulated
pub bit_word_case : (args : List ℕ) → StepCase (ins.Prim 3 1 args)
unfolding causes shape later_causes prim_shape
bit_word_case args =
    mask_row (ins.Prim 3 1 args) 2 (slice_index args 0) (take 2 (drop 1 args)) (λ f public x. refl) (λ f public x none. none.1.1.0) (λ f public. refl) (λ f. refl) (alone (Some BitWord) refl) refl refl
