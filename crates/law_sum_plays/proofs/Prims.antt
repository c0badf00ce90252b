-- Primitives that write no address: flags, searches, comparisons, shifts, bits, protection, and the delegation.
use Rattle.std.proofs.Common.{◌≡◌, inl, inr, ℕ, ◌+◌, ◌-◌, ◌*◌, ◌/◌, ◌^◌, ◌≤◌, Bool, true, false, cond, List, [], ◌∷◌, length, Option, Some, None, refl, sym, ap, subst, ◌∙◌, arith}
use Rattle.std.specs.Prelude.{◌==◌, ◌&&◌, ◌||◌, not, slice_index, unwrap_or, is_some, position, ⊤}
use Rattle.law_sums.specs.model_device.specs.Bytes.{num}
use Rattle.law_sums.specs.model_device.proofs.ListLemmas.{length_bytes}
use Rattle.law_sums.specs.model_machine.specs.declared.instruction.Ins.{Ins}
use Rattle.law_sums.specs.model_machine.specs.declared.instruction.Ins.TheVariants as ins
use Rattle.law_sums.specs.model_machine.specs.Blocks.{Worked, sub_blocks, shift_left_block, shift_right_block}
use Rattle.law_sums.specs.model_machine.specs.Frame.{Frame, Effect, bytes_at, top, stack_bytes, is_under, dynamic_base, dynamic_end, frame_after_pop}
use Rattle.law_sums.specs.model_machine.specs.Primitives.{Around, Then, Goes, Delegates, Primitive, CheckCase, LoadCcr, StoreCcr, Lookup, MemoryCompare, DelegateTo, CompareFixed, SetProtection, ShiftLeft, ShiftRight, DelegatorAid, later_causes, number_below_top, count_at, has_bit}
use Rattle.law_sums.specs.model_machine.specs.Row.{causes}
use Rattle.law_sums.specs.model_machine.specs.Shapes.{Stays, Pushes, Replaces, Protects, Shape, shape, shape_effect, prim_shape}
use Rattle.law_sums.specs.model_rules.specs.Keeping.{Standing, mode_of}
use Rattle.law_sums.specs.model_prove.specs.Facts.{Facts}
use Rattle.law_sums.specs.model_prove.specs.Keys.{Start, Delegated, OfClass, Tables}
use Rattle.law_sums.specs.model_prove.specs.Laws.{Among}
use Rattle.law_sums.specs.model_prove.specs.Splits.{deciders}
use Rattle.law_sums.specs.model_prove.specs.Reach.{Coarse, PushesAny, Shifts, Compares, WritesWithin, Leads, coarse, takes_target}
use Rattle.law_sums.specs.model_prove.specs.Reach as reach
use Rattle.law_sums.specs.model_prove.specs.Work.{Work, AsShaped, work}
use Rattle.law_sums.specs.model_prove.specs.Arrivals.{Setting}
use Rattle.law_sums.specs.model_prove.specs.Steps.{arounds, primitive_of, coarse_for, coarse_around}
use Rattle.law_prove_closed.specs.law_prove.proofs.Alike.{from_length, top_is}
use Rattle.law_prove_closed.specs.law_prove.proofs.Plain.{above, over_is}
use Rattle.law_prove_closed.specs.law_prove.proofs.Turns.{NoCause, nobody}
use Rattle.law_prove_closed.specs.law_prove.proofs.ReachScenes.{with_bytes, fits_sized}
use Rattle.law_prove_closed.specs.law_prove.specs.Coverings.{frame_memory}
use Rattle.law_sums.specs.model_sums.specs.Sums.{SumsTable}
use Rattle.law_sums.specs.model_sums.specs.Says.{read_sums}
use Rattle.law_sums.specs.TurnLaws.{row_sums}
use Rattle.law_sum_plays.specs.Rows.{ComesNext, AreStatic}
use Rattle.law_sum_plays.proofs.Moved.{shape_of, SameIf}
use Rattle.law_sum_plays.proofs.Scenes.{Step, fetched, memory, base, sized, few_or_many}
use Rattle.law_sum_plays.proofs.Rows.{unprotected, IsWork, IsCoarsely, row_done, few_compared, stood, coarse_compared, StepCase}
use Rattle.law_sum_plays.proofs.Plain.{one_row, dt_low, dt_high, pop_low, pop_high}

-- ---- who is around

-- whether a primitive asks who delegated to its frame
abbrev asks_who : Option Primitive → Bool
asks_who (Some DelegatorAid) = true
asks_who p = false

-- nobody is around a frame whose instruction does not ask
pub alone : (o : Option Primitive) → asks_who o ≡ false → (st : Start) → Among nobody (arounds st o)
alone None e Delegated = inl refl
alone (Some DelegatorAid) e Delegated = absurd (cc e)
alone (Some _) e Delegated = inl refl
alone o e (OfClass class) = inl refl

-- ---- rows that pop and write nothing

-- what a row of too many combinations does that writes nothing
abbrev IsRest : Coarse → Type 0
IsRest Compares = ⊤
IsRest Leads = ⊤
IsRest c = ⊥

-- A row that pops bytes and sets flags at most, or delegates.
pub record IsStill (i : Ins) (k : ℕ) (flags : Frame → List ℕ → Around → Option (Bool × Bool)) (later : Frame → List ℕ → Around → Then) : Type 0 where
  pub form : (f : Frame) (public : List ℕ) (x : Around) → shape i f public x ≡ shape_of (f.dt - k) Stays (flags f public x) (later f public x)
  pub takes : takes_target i ≡ false
  pub mode : mode_of i ≡ None
  pub same : (e : Frame) (public : List ℕ) → SameIf (work i e public) i Stays []
  pub rough : (f : Frame) (facts : Facts) → IsRest (coarse i f facts)

rest_fits : (s : Setting) (t : Tables) (u : SumsTable) (i : Ins) (step : Step s t u i) (static : AreStatic s s.rules.totals) (d : ℕ) (e : Frame) (c : Coarse) → IsRest c → IsCoarsely s t u i step static d e (coarse_for Stays c) Stays
rest_fits s t u i step static d e (PushesAny n) h = absurd h
rest_fits s t u i step static d e (Shifts n) h = absurd h
rest_fits s t u i step static d e Compares h = refl
rest_fits s t u i step static d e reach.Searches h = absurd h
rest_fits s t u i step static d e (WritesWithin r) h = absurd h
rest_fits s t u i step static d e Leads h = refl

still_row : (i : Ins) (k : ℕ) (flags : Frame → List ℕ → Around → Option (Bool × Bool)) (later : Frame → List ℕ → Around → Then) → IsStill i k flags later
    → ((f : Frame) (public : List ℕ) (x : Around) → NoCause (causes i f public x) → is_under f k ≡ false) → ((st : Start) → Among nobody (arounds st (primitive_of i)))
    → ((f g : Frame) (p q : List ℕ) (x y : Around) (fr : Frame) (e : Effect) → ComesNext (later f p x) (shape_of (g.dt - k) Stays (flags g q y) (later g q y)) fr e)
    → ((s : Setting) (t : Tables) (u : SumsTable) (step : Step s t u i) (static : AreStatic s s.rules.totals) (e : Frame) (public : List ℕ) → IsWork s t u i step static (step.frame.dt - k) (work i e public) Stays) → StepCase i
still_row i k flags later is under_it alone_at nexts works s t u step static =
    let f : Frame = fetched s t u i step in
    let d = step.frame.dt - k in
    let fl = flags f step.public step.around in
    let n = later f step.public step.around in
    row_done s t u i step static d Stays fl n (is.form f step.public step.around)
    (sym (ap (λ (m : Option ℕ). row_sums step.frame.protected m step.place.standing) is.mode ∙ unprotected step.frame.protected step.place.standing)) (λ free.
    let under : is_under f k ≡ false = under_it f step.public step.around free in
    elim (few_or_many s t u i step nobody (alone_at step.place.start) is.takes) [
      | inl z ↦
          let e : Frame = with_bytes f z.fixed z.dyn in
          few_compared s t u i step static (deciders i (base s t u i step).frame) nobody z d Stays fl n
          (record {
            bytes = [];
            to = 0;
            flags = flags e z.public nobody;
            later = later e z.public nobody;
            stands = is.form e z.public nobody;
            same = is.same e z.public;
            low = pop_low step.frame k under;
            high = pop_high step.frame.dt k (dt_high s t u step);
            fits = works s t u step static e z.public;
            next = subst (λ (h : Shape). ComesNext n h step.frame (shape_effect (shape_of d Stays fl n) f step.public)) (sym (is.form e z.public nobody)) (nexts f e step.public z.public step.around nobody step.frame (shape_effect (shape_of d Stays fl n) f step.public));
          })
      | inr many ↦
          let e : Frame = stood s t u i step static in
          let shaped = is.form e (base s t u i step).public (coarse_around step.place.start) in
          coarse_compared s t u i step static many d Stays fl n
          (record {
            dt = ap (λ (h : Shape). h.dt) shaped;
            low = pop_low step.frame k under;
            high = pop_high step.frame.dt k (dt_high s t u step);
            fits = subst (λ (h : Shape). IsCoarsely s t u i step static d e (coarse_for h.act (coarse i e step.place.known.bytes)) Stays) (sym shaped) (rest_fits s t u i step static d e (coarse i e step.place.known.bytes) (is.rough e step.place.known.bytes));
            next = subst (λ (h : Shape). ComesNext n h step.frame (shape_effect (shape_of d Stays fl n) f step.public)) (sym shaped) (nexts f e step.public (base s t u i step).public step.around (coarse_around step.place.start) step.frame (shape_effect (shape_of d Stays fl n) f step.public));
          })
    ])

-- what is known for sums holds after the check of the case
pub check_case : (args : List ℕ) → StepCase (ins.Prim 0 1 args)
unfolding causes shape later_causes prim_shape
check_case args =
    still_row (ins.Prim 0 1 args) 1 (λ f public x. Some (f.c, num (top f 1) == x.case)) (λ f public x. Goes)
    (record { form = λ f public x. refl; takes = refl; mode = refl; same = λ e public. tt; rough = λ f facts. tt })
    (λ f public x none. none.1.1.0) (alone (Some CheckCase) refl) (λ f g p q x y fr e. refl) (λ s t u step static e public. refl)

-- what is known for sums holds after the flags are set from a byte
pub store_ccr_case : (args : List ℕ) → StepCase (ins.Prim 0 3 args)
unfolding causes shape later_causes prim_shape
store_ccr_case args =
    still_row (ins.Prim 0 3 args) 1 (λ f public x. Some (has_bit (num (top f 1)) 2, has_bit (num (top f 1)) 1)) (λ f public x. Goes)
    (record { form = λ f public x. refl; takes = refl; mode = refl; same = λ e public. tt; rough = λ f facts. tt })
    (λ f public x none. none.1.1.0) (alone (Some StoreCcr) refl) (λ f g p q x y fr e. refl) (λ s t u step static e public. (tt, tt))

abbrev flags_of : Worked → Option (Bool × Bool)
flags_of w = Some (w.c, w.z)

-- what is known for sums holds after a comparison of a number of bytes that the stack has
pub compare_case : (args : List ℕ) → StepCase (ins.Prim 0 5 args)
unfolding causes shape later_causes prim_shape
compare_case args =
    still_row (ins.Prim 0 5 args) 6
    (λ f public x. let g = frame_after_pop f 6 in let n = number_below_top f 6 in flags_of (sub_blocks (bytes_at g public (number_below_top f 4) n) (bytes_at g public (number_below_top f 2) n))) (λ f public x. Goes)
    (record { form = λ f public x. refl; takes = refl; mode = refl; same = λ e public. tt; rough = λ f facts. tt })
    (λ f public x none. none.1.1.0) (alone (Some MemoryCompare) refl) (λ f g p q x y fr e. refl) (λ s t u step static e public. record { on = λ on. absurd (cc on); off = λ no x. refl; reads = refl })

-- what is known for sums holds after a comparison of a fixed number of bytes
pub compare_fixed_case : (args : List ℕ) → StepCase (ins.Prim 1 1 args)
unfolding causes shape later_causes prim_shape
compare_fixed_case args =
    still_row (ins.Prim 1 1 args) 4
    (λ f public x. let g = frame_after_pop f 4 in let n = slice_index args 0 in flags_of (sub_blocks (bytes_at g public (number_below_top f 4) n) (bytes_at g public (number_below_top f 2) n))) (λ f public x. Goes)
    (record { form = λ f public x. refl; takes = refl; mode = refl; same = λ e public. tt; rough = λ f facts. tt })
    (λ f public x none. none.1.1.0) (alone (Some CompareFixed) refl) (λ f g p q x y fr e. refl) (λ s t u step static e public. record { on = λ on. absurd (cc on); off = λ no x. refl; reads = refl })

-- what is known for sums holds after a delegation
pub delegate_case : (args : List ℕ) → StepCase (ins.Prim 0 7 args)
unfolding causes shape later_causes prim_shape
delegate_case args =
    still_row (ins.Prim 0 7 args) 2 (λ f public x. None)
    (λ f public x. let g = frame_after_pop f 2 in let a = number_below_top f 2 in Delegates (bytes_at g public (a + 1) (count_at g public a)))
    (record { form = λ f public x. refl; takes = refl; mode = refl; same = λ e public. tt; rough = λ f facts. tt })
    (λ f public x none. none.1.1.0) (alone (Some DelegateTo) refl) (λ f g p q x y fr e. tt) (λ s t u step static e public. (tt, tt))

-- ---- flags as a byte, and protection

-- what is known for sums holds after the flags are pushed as a byte
pub load_ccr_case : (args : List ℕ) → StepCase (ins.Prim 0 2 args)
unfolding causes shape later_causes prim_shape
load_ccr_case args s t u step static =
    let b = (cond step.frame.c 2 0 + cond step.frame.z 1 0) ∷ [] in
    one_row (ins.Prim 0 2 args) s t u step static step.frame.dt (Pushes b) None Goes refl (λ f. refl) (alone (Some LoadCcr) refl) refl (sym (unprotected step.frame.protected step.place.standing)) (λ free fixed dyn public fits.
    record {
      bytes = b;
      to = 0;
      flags = None;
      later = Goes;
      stands = refl;
      same = (refl, λ number. absurd (cc number));
      low = dt_low s t u step;
      high = dt_high s t u step;
      fits = (over_is step.frame.dt 1 1 free.1.1.0 refl, tt);
      next = refl;
    })

protected_sums : (p : Bool) (mode : ℕ) (x : Standing) → cond (p && not (mode == 1 || mode == 3)) x.kept (read_sums p x) ≡ row_sums p (Some mode) x
protected_sums true mode x = refl
protected_sums false mode x = refl

-- what is known for sums holds after a change of protection
pub protection_case : (args : List ℕ) → StepCase (ins.Prim 1 3 args)
unfolding causes shape later_causes prim_shape
protection_case args s t u step static =
    one_row (ins.Prim 1 3 args) s t u step static step.frame.dt (Protects (slice_index args 0)) None Goes refl (λ f. refl) (alone (Some SetProtection) refl) refl (protected_sums step.frame.protected (slice_index args 0) step.place.standing) (λ free fixed dyn public fits.
    record { bytes = []; to = 0; flags = None; later = Goes; stands = refl; same = tt; low = dt_low s t u step; high = dt_high s t u step; fits = (tt, tt); next = refl })

-- ---- searches

-- what is known for sums holds after the search of a table
pub lookup_case : (args : List ℕ) → StepCase (ins.Prim 0 4 args)
unfolding causes shape later_causes prim_shape
lookup_case args s t u step static =
    let i : Ins = ins.Prim 0 4 args in
    let f : Frame = fetched s t u i step in
    let d = step.frame.dt - 3 in
    let found : Frame → List ℕ → Option ℕ = λ f public. position (λ b. b == num (stack_bytes f 3 1)) (bytes_at (frame_after_pop f 3) public (number_below_top f 2 + 1) (count_at (frame_after_pop f 3) public (number_below_top f 2))) in
    let b = unwrap_or (found f step.public) 0 ∷ [] in
    let fl : Option (Bool × Bool) = Some (f.c, is_some (found f step.public)) in
    row_done s t u i step static d (Pushes b) fl Goes refl (sym (unprotected step.frame.protected step.place.standing)) (λ free.
    let enough = above f 3 free.1.1.0 in
    let high : step.frame.dt ≤ dynamic_end = dt_high s t u step in
    elim (few_or_many s t u i step nobody (alone (Some Lookup) refl step.place.start) refl) [
      | inl z ↦
          let e : Frame = with_bytes f z.fixed z.dyn in
          few_compared s t u i step static (deciders i (base s t u i step).frame) nobody z d (Pushes b) fl Goes
          (record {
            bytes = unwrap_or (found e z.public) 0 ∷ [];
            to = 0;
            flags = Some (f.c, is_some (found e z.public));
            later = Goes;
            stands = refl;
            same = tt;
            low = omega (arith, enough);
            high = omega (arith, high);
            fits = (refl, omega (arith, high, enough));
            next = refl;
          })
      | inr many ↦
          coarse_compared s t u i step static many d (Pushes b) fl Goes
          (record { dt = refl; low = omega (arith, enough); high = omega (arith, high); fits = record { bytes = b; is = refl; long = refl; over = omega (arith, high, enough) }; next = refl })
    ])

-- ---- shifts

-- a row that shifts the top n bytes
shift_row : (i : Ins) (n : ℕ) (shift : List ℕ → Worked) → ((f : Frame) (public : List ℕ) (x : Around) → shape i f public x ≡ shape_of f.dt (Replaces (shift (top f n)).value) (flags_of (shift (top f n))) Goes)
    → ((f : Frame) (public : List ℕ) (x : Around) → NoCause (causes i f public x) → is_under f n ≡ false) → ((f : Frame) (public : List ℕ) → work i f public ≡ AsShaped) → ((f : Frame) (facts : Facts) → coarse i f facts ≡ Shifts n)
    → ((v : List ℕ) → length (shift v).value ≡ length v) → ((st : Start) → Among nobody (arounds st (primitive_of i))) → takes_target i ≡ false → mode_of i ≡ None → StepCase i
shift_row i n shift form under task rough size who takes mode s t u step static =
    let f : Frame = fetched s t u i step in
    let d = step.frame.dt in
    let b = (shift (top f n)).value in
    let fl = flags_of (shift (top f n)) in
    row_done s t u i step static d (Replaces b) fl Goes (form f step.public step.around)
    (sym (ap (λ (m : Option ℕ). row_sums step.frame.protected m step.place.standing) mode ∙ unprotected step.frame.protected step.place.standing)) (λ free.
    let enough = above f n (under f step.public step.around free) in
    let over : dynamic_base + n ≤ d = omega (arith, enough) in
    let long : length b ≡ n = size (top f n) ∙ (ap (λ (l : List ℕ). length l) (top_is f step.public n (sized s t u i step) over) ∙ from_length (memory s t u i step) (d - n) n) in
    let low : dynamic_base + length b ≤ d = omega (arith, long, over) in
    elim (few_or_many s t u i step nobody (who step.place.start) takes) [
      | inl z ↦
          let e : Frame = with_bytes f z.fixed z.dyn in
          let b0 = (shift (top e n)).value in
          let long0 : length b0 ≡ n = size (top e n) ∙ (ap (λ (l : List ℕ). length l) (top_is e z.public n (fits_sized f z.fixed z.dyn z.public z.fits) over) ∙ from_length (frame_memory e z.public) (d - n) n) in
          few_compared s t u i step static (deciders i (base s t u i step).frame) nobody z d (Replaces b) fl Goes
          (record {
            bytes = b0;
            to = 0;
            flags = flags_of (shift (top e n));
            later = Goes;
            stands = form e z.public nobody;
            same = subst (λ (w : Work). SameIf w i (Replaces b) b0) (sym (task e z.public)) (long0 ∙ sym long);
            low = dt_low s t u step;
            high = dt_high s t u step;
            fits = subst (λ (w : Work). IsWork s t u i step static d w (Replaces b)) (sym (task e z.public)) (low, tt);
            next = ap (λ (h : Shape). h.next) (form e z.public nobody);
          })
      | inr many ↦
          let e : Frame = stood s t u i step static in
          let shaped = form e (base s t u i step).public (coarse_around step.place.start) in
          coarse_compared s t u i step static many d (Replaces b) fl Goes
          (record {
            dt = ap (λ (h : Shape). h.dt) shaped;
            low = dt_low s t u step;
            high = dt_high s t u step;
            fits = grind (arith, IsCoarsely, rough);
            next = ap (λ (h : Shape). h.next) shaped;
          })
    ])

-- what is known for sums holds after a shift to the left
pub shift_left_case : (args : List ℕ) → StepCase (ins.Prim 2 2 args)
unfolding causes shape later_causes prim_shape
shift_left_case args =
    shift_row (ins.Prim 2 2 args) (slice_index args 0) (λ v. shift_left_block v (slice_index args 1)) (λ f public x. refl) (λ f public x none. none.1.1.0) (λ f public. refl) (λ f facts. refl)
    (λ v. length_bytes (length v) (num v * 2 ^ slice_index args 1)) (alone (Some ShiftLeft) refl) refl refl

-- what is known for sums holds after a shift to the right
pub shift_right_case : (args : List ℕ) → StepCase (ins.Prim 2 3 args)
unfolding causes shape later_causes prim_shape
shift_right_case args =
    shift_row (ins.Prim 2 3 args) (slice_index args 0) (λ v. shift_right_block v (slice_index args 1)) (λ f public x. refl) (λ f public x none. none.1.1.0) (λ f public. refl) (λ f facts. refl)
    (λ v. length_bytes (length v) (num v / 2 ^ slice_index args 1)) (alone (Some ShiftRight) refl) refl refl
