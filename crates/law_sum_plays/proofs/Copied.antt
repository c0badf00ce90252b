-- Rows that copy bytes between the stack and an address, or set an operand.
use Rattle.std.proofs.Common.{◌≡◌, ◌⊎◌, inl, ℕ, ◌+◌, ◌-◌, ◌*◌, ◌≤◌, false, List, [], ◌∷◌, length, ℤ, Option, Some, None, refl, sym, ap, subst, ◌∙◌, arith}
use Rattle.std.specs.Prelude.{◌==◌, nat_lt, is_none}
use Rattle.law_sums.specs.model_device.specs.Bytes.{bytes2}
use Rattle.law_sums.specs.model_machine.specs.declared.instruction.Ins.{Ins}
use Rattle.law_sums.specs.model_machine.specs.declared.instruction.Ins.TheVariants as ins
use Rattle.law_sums.specs.model_machine.specs.Frame.{Frame, Place, Static, Dynamic, Public, where_is, bytes_at, top, dynamic_base, dynamic_end, no_access, frame_after_pop}
use Rattle.law_sums.specs.model_machine.specs.Primitives.{Around, Goes, Primitive}
use Rattle.law_sums.specs.model_machine.specs.Row.{causes, operand, address_or_zero, place_of, value_of}
use Rattle.law_sums.specs.model_machine.specs.Shapes.{Pushes, Writes, Shape, shape}
use Rattle.law_sums.specs.model_prove.specs.Facts.{Memory}
use Rattle.law_sums.specs.model_prove.specs.Compares.{bytes_from}
use Rattle.law_sums.specs.model_prove.specs.Keys.{Tables}
use Rattle.law_sums.specs.model_prove.specs.Laws.{Among}
use Rattle.law_sums.specs.model_prove.specs.Splits.{deciders}
use Rattle.law_sums.specs.model_prove.specs.Reach.{takes_target}
use Rattle.law_sums.specs.model_prove.specs.Steps.{arounds, primitive_of}
use Rattle.law_sums.specs.model_prove.specs.Work.{Work, AsShaped, Copies, work}
use Rattle.law_sums.specs.model_prove.specs.Arrivals.{Setting}
use Rattle.law_prove_closed.specs.law_prove.specs.Coverings.{frame_memory}
use Rattle.law_prove_closed.specs.law_prove.proofs.Acts.{LiesIn, lies_in}
use Rattle.law_prove_closed.specs.law_prove.proofs.Alike.{Sized, from_length, read_is, top_is}
use Rattle.law_prove_closed.specs.law_prove.proofs.Moves.{inside_of, above_by}
use Rattle.law_prove_closed.specs.law_prove.proofs.Plain.{over_is}
use Rattle.law_prove_closed.specs.law_prove.proofs.Turns.{NoCause, nobody}
use Rattle.law_prove_closed.specs.law_prove.proofs.ReachScenes.{with_bytes, scene_of, Fits, fits_sized, same_operand}
use Rattle.law_prove_closed.specs.law_prove.proofs.Accesses.{read_length}
use Rattle.law_sums.specs.model_sums.specs.Moves.{pushes_number}
use Rattle.law_sums.specs.model_rules.specs.Keeping.{mode_of}
use Rattle.law_sums.specs.model_sums.specs.Sums.{SumsTable}
use Rattle.law_sums.specs.TurnLaws.{row_sums}
use Rattle.law_sum_plays.specs.Rows.{AreStatic}
use Rattle.law_sum_plays.proofs.Moved.{shape_of, SameIf, CopyFits}
use Rattle.law_sum_plays.proofs.Scenes.{Step, fetched, memory, sized, nobody_among}
use Rattle.law_sum_plays.proofs.Rows.{unprotected, known, kept, low, IsWork, Alike, StepCase}
use Rattle.law_sum_plays.proofs.Plain.{one_row, dt_low, dt_high}

-- ---- accesses

apart_by : (f : Frame) (a n : ℕ) (o : Option Place) → where_is f a n ≡ o → is_none o ≡ false → length f.fixed ≤ dynamic_base → dynamic_base ≤ f.dt → (a + n ≤ f.dt) ⊎ (dynamic_end ≤ a)
apart_by f a n None is some small low = absurd (cc some)
apart_by f a n (Some (Static i)) is some small low = grind (arith, LiesIn, lies_in)
apart_by f a n (Some (Dynamic i)) is some small low = let lies : LiesIn f a n (Dynamic i) = lies_in f a n (Dynamic i) is in inl lies.1
apart_by f a n (Some (Public i)) is some small low = grind (arith, LiesIn, lies_in)

-- bytes in a segment lie below DT, or above the stack
pub apart_of : (f : Frame) (a n : ℕ) → is_none (where_is f a n) ≡ false → length f.fixed ≤ dynamic_base → dynamic_base ≤ f.dt → (a + n ≤ f.dt) ⊎ (dynamic_end ≤ a)
apart_of f a n some small low = apart_by f a n (where_is f a n) refl some small low

module _ (i : Ins) (s : Setting) (t : Tables) (u : SumsTable) (step : Step s t u i) (static : AreStatic s s.rules.totals) where
  abbrev f : Frame
  f = fetched s t u i step

  abbrev m : Memory
  m = memory s t u i step

  -- ---- bytes that are pushed

  -- a row that pushes n bytes of a segment, from the same address in the scene
  pub loads : (fixed dyn public : List ℕ) (from0 from n : ℕ) → Fits f fixed dyn public → from0 ≡ from → pushes_number i ≡ false → (n == 0) ≡ false → is_none (where_is f from n) ≡ false → nat_lt dynamic_end (step.frame.dt + n) ≡ false
      → shape i (with_bytes f fixed dyn) public nobody ≡ shape_of step.frame.dt (Pushes (bytes_at (with_bytes f fixed dyn) public from0 n)) None Goes → work i (with_bytes f fixed dyn) public ≡ Copies from0
      → Alike s t u i step static step.frame.dt (Pushes (bytes_at f step.public from n)) None Goes (scene_of f fixed dyn public) nobody
  loads fixed dyn public from0 from n fits same number some within over stands works =
      let d = step.frame.dt in
      let z : Sized f step.public = sized s t u i step in
      let b = bytes_at f step.public from n in
      let b0 = bytes_at (with_bytes f fixed dyn) public from0 n in
      let read : b ≡ bytes_from m from n = read_is f step.public from n z some within in
      let long : length b ≡ n = ap (λ (l : List ℕ). length l) read ∙ from_length m from n in
      let long0 : length b0 ≡ n = ap (λ (a : ℕ). length (bytes_at (with_bytes f fixed dyn) public a n)) same ∙ read_length f fixed dyn public from n fits some within in
      let copy : CopyFits s.rules.totals step.sums.first (known s t u i step static) (kept s t u i step static) step.place.start step.place.standing.allowances step.place.calls step.frame step.public step.next d (Pushes b) from = (
        over_is d n (length b) over long,
        subst (λ (k : ℕ). b ≡ bytes_from m from k) (sym long) read,
        subst (λ (k : ℕ). (from + k ≤ d) ⊎ (dynamic_end ≤ from)) (sym long) (apart_of f from n within z.small (dt_low s t u step)),
      )
      in
      record {
        bytes = b0;
        to = 0;
        flags = None;
        later = Goes;
        stands = stands;
        same = subst (λ (w : Work). SameIf w i (Pushes b) b0) (sym works) (long0 ∙ sym long, λ on. absurd (cc (sym number ∙ on)));
        low = dt_low s t u step;
        high = dt_high s t u step;
        fits = subst (λ (w : Work). IsWork s t u i step static d w (Pushes b)) (sym (works ∙ ap (λ (a : ℕ). Copies a) same)) copy;
        next = ap (λ (h : Shape). h.next) stands;
      }

  -- ---- bytes that are written

  -- a row that writes bytes of the memory in a segment, at the same address in the scene
  pub stores : (fixed dyn public : List ℕ) (x : Around) (d to0 to n from0 from : ℕ) (b0 b : List ℕ) → to0 ≡ to → from0 ≡ from → length b0 ≡ n → b ≡ bytes_from m from n → is_none (where_is (low s t u i step static d) to n) ≡ false
      → dynamic_base ≤ d → d ≤ dynamic_end
      → shape i (with_bytes f fixed dyn) public x ≡ shape_of d (Writes to0 n b0) None Goes → work i (with_bytes f fixed dyn) public ≡ Copies from0
      → Alike s t u i step static d (Writes to n b) None Goes (scene_of f fixed dyn public) x
  stores fixed dyn public x d to0 to n from0 from b0 b same source long0 read within least most stands works =
      grind (arith, from_length, CopyFits, known, kept, low, shape_of, SameIf, IsWork)

-- ---- LOAD and STORE

-- what is known for sums holds after LOAD
pub load_case : (tag : ℕ) (off : ℤ) (n : ℕ) → StepCase (ins.Load tag off n)
unfolding causes shape
load_case tag off n s t u step static =
    let i : Ins = ins.Load tag off n in
    let f : Frame = fetched s t u i step in
    let o = operand f tag off n in
    one_row i s t u step static step.frame.dt (Pushes (value_of f step.public tag off n)) None Goes refl (λ f. refl) nobody_among refl (sym (unprotected step.frame.protected step.place.standing)) (λ free fixed dyn public fits.
    loads i s t u step static fixed dyn public (place_of (with_bytes f fixed dyn) tag off n) (address_or_zero o) n fits (ap address_or_zero (same_operand f fixed dyn tag off n fits.size)) refl free.0 (inside_of f o n free.0 free.1.1.0) free.1.1.1.0 refl refl)

-- what is known for sums holds after STORE
pub store_case : (tag : ℕ) (off : ℤ) (n : ℕ) → StepCase (ins.Store tag off n)
unfolding causes shape
store_case tag off n s t u step static =
    let i : Ins = ins.Store tag off n in
    let f : Frame = fetched s t u i step in
    let d = step.frame.dt - n in
    let o = operand f tag off (2 * n) in
    one_row i s t u step static d (Writes (place_of f tag off (2 * n)) n (top f n)) None Goes refl (λ f. refl) nobody_among refl (sym (unprotected step.frame.protected step.place.standing)) (λ free fixed dyn public fits.
    let e : Frame = with_bytes f fixed dyn in
    let over : dynamic_base + step.frame.session + n ≤ step.frame.dt = above_by f (tag == 0) n free.1.0 in
    let high : step.frame.dt ≤ dynamic_end = dt_high s t u step in
    let long0 : length (top e n) ≡ n = ap (λ (l : List ℕ). length l) (top_is e public n (fits_sized f fixed dyn public fits) (omega (arith, over))) ∙ from_length (frame_memory e public) d n in
    stores i s t u step static fixed dyn public nobody d (place_of e tag off (2 * n)) (address_or_zero o) n d d (top e n) (top f n) (ap address_or_zero (same_operand f fixed dyn tag off (2 * n) fits.size)) refl long0
    (top_is f step.public n (sized s t u i step) (omega (arith, over))) (inside_of (frame_after_pop f n) o n free.0 free.1.1.0) (omega (arith, over)) (omega (arith, high)) refl refl)

-- ---- SETB and SETW

-- n bytes that the instruction says are written to an operand
set_row : (i : Ins) (tag : ℕ) (off : ℤ) (n : ℕ) (b : List ℕ) → length b ≡ n → (n == 0) ≡ false
    → ((f : Frame) (public : List ℕ) (x : Around) → NoCause (causes i f public x) → no_access f (operand f tag off n) n ≡ false)
    → ((f : Frame) (public : List ℕ) (x : Around) → shape i f public x ≡ shape_of f.dt (Writes (place_of f tag off n) n b) None Goes) → ((f : Frame) (public : List ℕ) → work i f public ≡ AsShaped)
    → takes_target i ≡ false → ((f : Frame) → deciders i f ≡ []) → primitive_of i ≡ None → mode_of i ≡ None → StepCase i
set_row i tag off n b size some free shaped works takes none prim mode s t u step static =
    let f : Frame = fetched s t u i step in
    let o = operand f tag off n in
    let d = step.frame.dt in
    one_row i s t u step static d (Writes (place_of f tag off n) n b) None Goes takes none (λ st. subst (λ (o : Option Primitive). Among nobody (arounds st o)) (sym prim) (nobody_among st)) (shaped f step.public step.around)
    (sym (ap (λ (m : Option ℕ). row_sums step.frame.protected m step.place.standing) mode ∙ unprotected step.frame.protected step.place.standing)) (λ clear fixed dyn public fits.
    let e : Frame = with_bytes f fixed dyn in
    let stands : shape i e public nobody ≡ shape_of d (Writes (place_of f tag off n) n b) None Goes = grind (arith, nobody, shape_of, same_operand) in
    let within : is_none (where_is f (address_or_zero o) n) ≡ false = inside_of f o n some (free f step.public step.around clear) in
    record {
      bytes = b;
      to = 0;
      flags = None;
      later = Goes;
      stands = stands;
      same = subst (λ (w : Work). SameIf w i (Writes (place_of f tag off n) n b) b) (sym (works e public)) refl;
      low = dt_low s t u step;
      high = dt_high s t u step;
      fits = subst (λ (w : Work). IsWork s t u i step static d w (Writes (place_of f tag off n) n b)) (sym (works e public)) (subst (λ (k : ℕ). is_none (where_is f (address_or_zero o) k) ≡ false) (sym size) within, tt);
      next = ap (λ (h : Shape). h.next) stands;
    })

-- what is known for sums holds after SETB
pub setb_case : (tag : ℕ) (off : ℤ) (v : ℕ) → StepCase (ins.Setb tag off v)
unfolding causes shape
setb_case tag off v = set_row (ins.Setb tag off v) tag off 1 (v ∷ []) refl refl (λ f public x none. none.1.0) (λ f public x. refl) (λ f public. refl) refl (λ f. refl) refl refl

-- what is known for sums holds after SETW
pub setw_case : (tag : ℕ) (off : ℤ) (v : ℕ) → StepCase (ins.Setw tag off v)
unfolding causes shape
setw_case tag off v = set_row (ins.Setw tag off v) tag off 2 (bytes2 v) refl refl (λ f public x none. none.1.0) (λ f public x. refl) (λ f public. refl) refl (λ f. refl) refl refl
