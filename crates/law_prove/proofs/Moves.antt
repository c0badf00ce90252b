-- Rows of one outcome that read at an address or write there: LOAD and STORE, which copy bytes, SETB and SETW.
use Rattle.std.proofs.Common.{◌≡◌, ℕ, zero, suc, ◌+◌, ◌-◌, ◌*◌, ◌<◌, ◌≤◌, Bool, true, false, cond, List, [], ◌∷◌, ◌++◌, length, ℤ, Option, Some, None, refl, sym, ap, subst, ◌∙◌, arith}
use Rattle.std.specs.Prelude.{not, ◌==◌, ◌&&◌, is_none, nat_lt}
use Rattle.model_prove.specs.model_device.specs.Bytes.{bytes2}
use Rattle.model_prove.specs.model_machine.specs.declared.instruction.Ins.{Ins}
use Rattle.model_prove.specs.model_machine.specs.declared.instruction.Ins.TheVariants as ins
use Rattle.model_prove.specs.model_machine.specs.declared.machine.Abend.{Abend}
use Rattle.model_prove.specs.model_machine.specs.declared.machine.Abend.TheVariants.{A03, A04, A05, A06, A08}
use Rattle.model_prove.specs.model_machine.specs.Frame.{Frame, Place, where_is, dynamic_base, dynamic_end, is_under, bytes_at, top, no_access, too_many, frame_after_pop}
use Rattle.model_prove.specs.model_machine.specs.Primitives.{Around}
use Rattle.model_prove.specs.model_machine.specs.Row.{causes, operand, address_or_zero, on_stack}
use Rattle.model_prove.specs.model_machine.specs.Chain.{frame_at}
use Rattle.model_prove.specs.model_machine.specs.Shapes.{Pushes, Writes, shape}
use Rattle.model_prove.specs.Sets.{Set}
use Rattle.model_prove.specs.Facts.{Facts, Memory, values_from}
use Rattle.model_prove.specs.Compares.{bytes_from}
use Rattle.model_prove.specs.Splits.{stand_in_stack}
use Rattle.model_prove.specs.Work.{Copies, AsShaped, work}
use Rattle.model_prove.specs.Steps.{sets}
use Rattle.model_prove.specs.Arrivals.{Setting}
use Rattle.model_prove.specs.model_rules.specs.Loadable.{IsLoadable}
use Rattle.model_prove.specs.Keys.{Tables}
use Rattle.law_prove.specs.Coverings.{frame_memory}
use Rattle.law_prove.specs.Laws.{MoveLaw}
use Rattle.law_prove.proofs.Seen.{FitSets, fit_sets, fit_values}
use Rattle.law_prove.proofs.Turns.{like, blank, nobody}
use Rattle.law_prove.proofs.Alike.{Sized, same_operand, same_where, same_access, few_wait, many_wait, from_length, read_is, top_is, like_sized}
use Rattle.law_prove.proofs.Single.{going, Turn, RowCase, law_of, one_shaped, one_copied, here, there, moved_row, limited_row, led_pushes, led_writes}
use Rattle.law_prove.proofs.Plain.{over_is, above}

-- ---- accesses

inside_by : (f : Frame) (a n : ℕ) (b : Bool) → b ≡ false → (not b && is_none (where_is f a n)) ≡ false → is_none (where_is f a n) ≡ false
inside_by f a n true some e = absurd (cc some)
inside_by f a n false some e = e

-- an access that is tested lies in a segment
pub inside_of : (f : Frame) (o : Option ℕ) (n : ℕ) → (n == 0) ≡ false → no_access f o n ≡ false → is_none (where_is f (address_or_zero o) n) ≡ false
inside_of f None n some e = absurd (cc e)
inside_of f (Some a) n some e = inside_by f a n (n == 0) some e

-- a number that is not zero is above zero
pub positive : (n : ℕ) → (n == 0) ≡ false → 0 < n
positive zero e = absurd (cc e)
positive (suc n) e = omega arith

-- n bytes lie above the session bytes if a row can take n or twice as many
pub above_by : (f : Frame) (b : Bool) (n : ℕ) → is_under f (cond b (2 * n) n) ≡ false → dynamic_base + f.session + n ≤ f.dt
above_by f true n e = let h = above f (2 * n) e in omega (arith, h)
above_by f false n e = above f n e

-- the segments of a turn's frame have their lengths
pub turn_sized : (s : Setting) (u : Tables) (loadable : IsLoadable s.app) (i : Ins) (turn : Turn s u i) → Sized (frame_at turn.frame turn.next) turn.public
turn_sized s u loadable i turn = grind arith

-- bytes that were copied have values of the sets of those that are read
pub copied_fit : (f : Facts) (m : Memory) (from n k : ℕ) (b : List ℕ) → b ≡ bytes_from m from n → k ≡ n → FitSets (bytes_from m from n) (values_from f from n) → FitSets b (values_from f from k)
copied_fit f m from n k b is same fit =
    rw (same, is) fit

-- ---- LOAD

load_case : (tag : ℕ) (off : ℤ) (n : ℕ) → RowCase (ins.Load tag off n)
unfolding causes shape
load_case tag off n s u t g loadable leads turn includes =
    let i : Ins = ins.Load tag off n in
    let f : Frame = frame_at turn.frame turn.next in
    let l : Frame = like f (stand_in_stack turn.place.calls) in
    let d = turn.frame.dt in
    let o = operand f tag off n in
    let from = address_or_zero o in
    let b0 = bytes_at l blank (address_or_zero (operand l tag off n)) n in
    let b1 = bytes_at f turn.public from n in
    let m : Memory = frame_memory turn.frame turn.public in
    let same : operand l tag off n ≡ o = same_operand f (stand_in_stack turn.place.calls) tag off n in
    let access : no_access l (operand l tag off n) n ≡ no_access f o n = ap (λ (z : Option ℕ). no_access l z n) same ∙ same_access f (stand_in_stack turn.place.calls) o n in
    let cs : List (Abend × Bool) = (A06, n == 0) ∷ (A04, tag == 0 && is_under f n) ∷ (A03, no_access f o n) ∷ (A05, nat_lt dynamic_end (d + n)) ∷ [] in
    let ss : List Set = values_from turn.place.known.bytes from (length b0) in
    let sized : Sized f turn.public = turn_sized s u loadable i turn in
    moved_row s u t g loadable leads i turn cs d (Pushes b0) (Pushes b1) None (Copies from) ss includes
    (ap (λ (z : Bool). (A06, n == 0) ∷ (A04, tag == 0 && is_under f n) ∷ (A03, z) ∷ (A05, nat_lt dynamic_end (d + n)) ∷ []) access) refl refl refl
    (ap (λ (z : Option ℕ). Copies (address_or_zero z)) same) refl
    (λ none all. one_copied s t i d (Pushes b0) None from (here s u t g loadable leads i turn) (there s u t g loadable leads i turn) all)
    (λ none.
    let some : (n == 0) ≡ false = none.0 in
    let within : is_none (where_is f from n) ≡ false = inside_of f o n some none.1.1.0 in
    let read : b1 ≡ bytes_from m from n = read_is f turn.public from n sized some within in
    let stood : b0 ≡ bytes_from (frame_memory l blank) from n =
    ap (λ (z : Option ℕ). bytes_at l blank (address_or_zero z) n) same
    ∙ read_is l blank from n (like_sized f turn.public turn.place.calls sized turn.place.open_calls) some (ap (λ (z : Option Place). is_none z) (same_where f (stand_in_stack turn.place.calls) from n) ∙ within)
    in
    let count : length b0 ≡ n = ap (λ (z : List ℕ). length z) stood ∙ from_length (frame_memory l blank) from n in
    let long : length b1 ≡ n = ap (λ (z : List ℕ). length z) read ∙ from_length m from n in
    let fit : FitSets b1 ss = copied_fit turn.place.known.bytes m from n (length b0) b1 read count (fit_values turn.place.known.bytes m from n turn.place.holds turn.place.bytes) in
    led_pushes s u t g loadable leads i turn d b1 ss fit (over_is d n (length b1) none.1.1.1.0 long) turn.place.frame.low turn.place.frame.high)

-- ---- SETB and SETW

-- n bytes that the instruction says are written to an operand
module _ (i : Ins) (tag : ℕ) (off : ℤ) (n : ℕ) (b : List ℕ) (size : length b ≡ n) (some : (n == 0) ≡ false) (few : n ≤ 256) where
  -- the row's causes and shape, in any frame
  pub record IsSet : Type 0 where
    pub cause : (f : Frame) (public : List ℕ) (x : Around) → causes i f public x ≡ (A04, tag == 0 && is_under f n) ∷ (A03, no_access f (operand f tag off n) n) ∷ (A08, too_many f (address_or_zero (operand f tag off n)) n) ∷ []
    pub form : (f : Frame) (public : List ℕ) (x : Around) → shape i f public x ≡ going f.dt (Writes (address_or_zero (operand f tag off n)) n b) None
    pub task : (f : Frame) (public : List ℕ) → work i f public ≡ AsShaped

  -- a row that writes known bytes at an address is covered
  pub set_case : IsSet → RowCase i
  set_case is s u t g loadable leads turn includes =
      let f : Frame = frame_at turn.frame turn.next in
      let l : Frame = like f (stand_in_stack turn.place.calls) in
      let d = turn.frame.dt in
      let o = operand f tag off n in
      let a = address_or_zero o in
      let same : operand l tag off n ≡ o = same_operand f (stand_in_stack turn.place.calls) tag off n in
      let cs : List (Abend × Bool) = (A04, tag == 0 && is_under f n) ∷ (A03, no_access f o n) ∷ [] in
      let was = too_many l a n in
      let stand : causes i l blank nobody ≡ cs ++ (A08, was) ∷ [] =
      is.cause l blank nobody
      ∙ (ap (λ (z : Option ℕ). (A04, tag == 0 && is_under f n) ∷ (A03, no_access l z n) ∷ (A08, too_many l (address_or_zero z) n) ∷ []) same
      ∙ ap (λ (z : Bool). (A04, tag == 0 && is_under f n) ∷ (A03, z) ∷ (A08, was) ∷ []) (same_access f (stand_in_stack turn.place.calls) o n))
      in
      let unmet : was ≡ false = few_wait f (stand_in_stack turn.place.calls) a n few in
      limited_row s u t g loadable leads i turn cs was (too_many f a n) d (Writes a n b) (Writes a n b) None AsShaped (sets b) includes stand (is.cause f turn.public turn.around)
      (is.form l blank nobody ∙ ap (λ (z : Option ℕ). going d (Writes (address_or_zero z) n b) None) same) (is.form f turn.public turn.around) (is.task l blank) refl
      (λ none many less. many_wait s f a n n b (positive n some) turn.place.frame.size turn.place.frame.inside many)
      (λ none many. absurd (cc (sym unmet ∙ many)))
      (λ none all. one_shaped s t i d (Writes a n b) None (here s u t g loadable leads i turn) (there s u t g loadable leads i turn) all)
      (λ none.
      let within : is_none (where_is f a n) ≡ false = inside_of f o n some none.1.0 in
      led_writes s u t g loadable leads i turn d a n b (sets b) (subst (λ (k : ℕ). is_none (where_is f a k) ≡ false) (sym size) within) (fit_sets b) (subst (λ (k : ℕ). 0 < k) (sym size) (positive n some)) turn.place.frame.low turn.place.frame.high)

setb_case : (tag : ℕ) (off : ℤ) (v : ℕ) → RowCase (ins.Setb tag off v)
unfolding causes shape
setb_case tag off v = set_case (ins.Setb tag off v) tag off 1 (v ∷ []) refl refl (omega arith) (record { cause = λ f public x. refl; form = λ f public x. refl; task = λ f public. refl })

setw_case : (tag : ℕ) (off : ℤ) (v : ℕ) → RowCase (ins.Setw tag off v)
unfolding causes shape
setw_case tag off v = set_case (ins.Setw tag off v) tag off 2 (bytes2 v) refl refl (omega arith) (record { cause = λ f public x. refl; form = λ f public x. refl; task = λ f public. refl })

-- ---- STORE

store_case : (tag : ℕ) (off : ℤ) (n : ℕ) → RowCase (ins.Store tag off n)
unfolding causes shape
store_case tag off n s u t g loadable leads turn includes =
    let i : Ins = ins.Store tag off n in
    let f : Frame = frame_at turn.frame turn.next in
    let dyn = stand_in_stack turn.place.calls in
    let l : Frame = like f dyn in
    let d = turn.frame.dt - n in
    let low : Frame = frame_after_pop f n in
    let o = operand f tag off (2 * n) in
    let a = address_or_zero o in
    let m : Memory = frame_memory turn.frame turn.public in
    let same : operand l tag off (2 * n) ≡ o = same_operand f dyn tag off (2 * n) in
    let cs : List (Abend × Bool) = (A06, n == 0) ∷ (A04, is_under f (on_stack tag (2 * n) n)) ∷ (A03, no_access low o n) ∷ [] in
    let was = too_many (frame_after_pop l n) a n in
    let byte : n < 256 = turn.shaped.1 in
    let unmet : was ≡ false = few_wait low dyn a n (omega (arith, byte)) in
    let b0 = top l n in
    let b1 = top f n in
    let ss : List Set = values_from turn.place.known.bytes d (length b0) in
    let sized : Sized f turn.public = turn_sized s u loadable i turn in
    limited_row s u t g loadable leads i turn cs was (too_many low a n) d (Writes a n b0) (Writes a n b1) None (Copies d) ss includes
    (ap (λ (z : Option ℕ). (A06, n == 0) ∷ (A04, is_under f (on_stack tag (2 * n) n)) ∷ (A03, no_access (frame_after_pop l n) z n) ∷ (A08, too_many (frame_after_pop l n) (address_or_zero z) n) ∷ []) same
    ∙ ap (λ (z : Bool). (A06, n == 0) ∷ (A04, is_under f (on_stack tag (2 * n) n)) ∷ (A03, z) ∷ (A08, was) ∷ []) (same_access low dyn o n)) refl
    (ap (λ (z : Option ℕ). going d (Writes (address_or_zero z) n b0) None) same) refl refl refl
    (λ none many less. many_wait s low a n n b0 (positive n none.0) turn.place.frame.size turn.place.frame.inside many)
    (λ none many. absurd (cc (sym unmet ∙ many)))
    (λ none all. one_copied s t i d (Writes a n b0) None d (here s u t g loadable leads i turn) (there s u t g loadable leads i turn) all)
    (λ none.
    let some : (n == 0) ≡ false = none.0 in
    let over : dynamic_base + turn.frame.session + n ≤ turn.frame.dt = above_by f (tag == 0) n none.1.0 in
    let within : is_none (where_is low a n) ≡ false = inside_of low o n some none.1.1.0 in
    let read : b1 ≡ bytes_from m d n = top_is f turn.public n sized (omega (arith, over)) in
    let count : length b0 ≡ n =
    ap (λ (z : List ℕ). length z) (top_is l blank n (like_sized f turn.public turn.place.calls sized turn.place.open_calls) (omega (arith, over))) ∙ from_length (frame_memory l blank) d n
    in
    let long : length b1 ≡ n = ap (λ (z : List ℕ). length z) read ∙ from_length m d n in
    let fit : FitSets b1 ss = copied_fit turn.place.known.bytes m d n (length b0) b1 read count (fit_values turn.place.known.bytes m d n turn.place.holds turn.place.bytes) in
    let high : turn.frame.dt ≤ dynamic_end = turn.place.frame.high in
    led_writes s u t g loadable leads i turn d a n b1 ss (rw long within) fit (rw long (positive n some)) (omega (arith, over)) (omega (arith, high)))

-- ---- the laws

-- LOAD, STORE, SETB and SETW are covered
pub move_laws : MoveLaw
move_laws = (
  λ tag off n. law_of (ins.Load tag off n) (λ s u t g loadable leads turn e. e) (load_case tag off n),
  λ tag off n. law_of (ins.Store tag off n) (λ s u t g loadable leads turn e. e) (store_case tag off n),
  λ tag off b. law_of (ins.Setb tag off b) (λ s u t g loadable leads turn e. e) (setb_case tag off b),
  λ tag off w. law_of (ins.Setw tag off w) (λ s u t g loadable leads turn e. e) (setw_case tag off w),
)
