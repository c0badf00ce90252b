-- MEMORYCOPY: its length is on the stack beside the addresses.
use Rattle.std.proofs.Common.{◌≡◌, ◌⊎◌, inl, inr, ℕ, suc, ◌+◌, ◌-◌, ◌*◌, ◌<◌, ◌≤◌, Bool, true, false, cond, List, [], length, Some, None, refl, sym, ap, subst, ◌∙◌, arith}
use Rattle.std.specs.Prelude.{◌==◌, ◌&&◌, not, is_none, nat_lt, filter}
use Rattle.std.proofs.lemmas.Bool.{or_parts, and_parts, leb-true, lt-ltb}
use Rattle.law_prove.specs.model_device.specs.Bytes.{AreBytes, zeros}
use Rattle.law_prove.specs.model_machine.specs.declared.instruction.Ins.{Ins}
use Rattle.law_prove.specs.model_machine.specs.declared.instruction.Ins.TheVariants as ins
use Rattle.law_prove.specs.model_machine.specs.declared.machine.Abend.{Abend}
use Rattle.law_prove.specs.model_machine.specs.Frame.{Frame, where_is, is_outside, bytes_at, frame_after_pop}
use Rattle.law_prove.specs.model_machine.specs.Primitives.{MemoryCopy, in_range, number_below_top, later_causes}
use Rattle.law_prove.specs.model_machine.specs.Row.{causes, row}
use Rattle.law_prove.specs.model_machine.specs.Shapes.{shape, prim_shape}
use Rattle.law_prove.specs.model_rules.specs.Rules.{Target}
use Rattle.law_prove.specs.model_prove.specs.Sets.{Set, is_in}
use Rattle.law_prove.specs.model_prove.specs.Facts.{Facts, Memory, values_at}
use Rattle.law_prove.specs.model_prove.specs.Compares.{bytes_from}
use Rattle.law_prove.specs.model_prove.specs.Keys.{Start, Delegated, OfClass, Tables}
use Rattle.law_prove.specs.model_prove.specs.Laws.{Among}
use Rattle.law_prove.specs.model_prove.specs.Splits.{top_places}
use Rattle.law_prove.specs.model_prove.specs.Work.{Copies}
use Rattle.law_prove.specs.model_prove.specs.Reach.{lengths_at}
use Rattle.law_prove.specs.model_prove.specs.Arrivals.{Setting}
use Rattle.law_prove.specs.model_prove.specs.Steps.{arounds}
use Rattle.law_prove.specs.model_rules.specs.Loadable.{IsLoadable}
use Rattle.law_prove.specs.model_prove.proofs.FactLemmas.{value_holds}
use Rattle.law_prove.specs.model_prove.proofs.SetLemmas.{is_kept}
use Rattle.law_prove.specs.Laws.{LeadsInto, LeadLaw}
use Rattle.law_prove.proofs.Alike.{Sized}
use Rattle.law_prove.proofs.Moves.{turn_sized}
use Rattle.law_prove.proofs.Plain.{above}
use Rattle.law_prove.proofs.Turns.{NoCause, nobody, blank}
use Rattle.law_prove.proofs.Single.{Turn, IsRowCovered}
use Rattle.law_prove.proofs.ReachScenes.{with_bytes, pair_is, below_is}
use Rattle.law_prove.proofs.Stands.{number_less}
use Rattle.law_prove.proofs.Choices.{fetched_frame, memory, base, base_fits, Followed, IsCoarse, few_or_many, ChoiceCase, law_by}
use Rattle.law_prove.proofs.Tops.{Agree, Top, IsTop, cs, Ready, agree, copy_row, coarse_top}
use Rattle.law_prove.proofs.Accesses.{anybody, inside_of, not_true, not_zero, bytes_of, both_missed, both_same, both_numbers, fits_low, read_length, turn_read, turn_length}

copy_alone : (st : Start) → Among nobody (arounds st (Some MemoryCopy))
copy_alone Delegated = inl refl
copy_alone (OfClass class) = inl refl

abbrev copy : Top
copy =
    record {
      pops = 6;
      to = 4;
      bad = true;
      arg = false;
      denied = λ deny. false;
      missed = λ h x v. in_range 1 255 (v 6) && both_missed h (v 4) (v 2) (v 6);
      range = λ v. not (in_range 1 255 (v 6));
      count = λ x v. v 6;
      bytes = λ f public x. bytes_at (frame_after_pop f 6) public (number_below_top f 2) (number_below_top f 6);
      flags = λ c. None;
      task = λ v. Copies (v 2);
      lengths = λ k dt. lengths_at k (dt - 6);
    }

copy_top : (args : List ℕ) → IsTop (ins.Prim 0 6 args) copy anybody
unfolding causes shape later_causes prim_shape
copy_top args =
    record {
      cause = λ f public x good. refl;
      known = λ f public x good. refl;
      shaped = λ f public x good. refl;
      works = λ f public. refl;
      lasts = refl;
      reaches = λ f k. refl;
      low = omega arith;
      high = omega arith;
      same_missed = λ h fixed dyn x v w size a.
          ap (λ (n : ℕ). in_range 1 255 n && both_missed (with_bytes h fixed dyn) (v 4) (v 2) n) (a 6 (omega arith) (omega arith))
          ∙ (ap (λ (y : Bool). in_range 1 255 (w 6) && y) (both_numbers (with_bytes h fixed dyn) 6 v w (w 6) a (omega arith) ∙ both_same h fixed dyn (w 4) (w 2) (w 6) size));
      same_range = λ v w a. ap (λ (n : ℕ). not (in_range 1 255 n)) (a 6 (omega arith) (omega arith));
      same_count = λ x v w a. a 6 (omega arith) (omega arith);
      ranges = λ v e. refl;
    }

-- a count that is in range is from 1 to 255
pub range_of : (n : ℕ) → not (in_range 1 255 n) ≡ false → (1 ≤ n) × (n ≤ 255)
range_of n e = grind (arith, and_parts, not_true, leb-true)

-- if a conjunction fails while its first part holds, its second part fails
pub second_if : (x y : Bool) → x ≡ true → (x && y) ≡ false → y ≡ false
second_if true y e h = h
second_if false y e h = absurd (cc e)

-- a length that is not zero stays among the lengths that are followed
pub length_by : (b : Bool) (n : ℕ) (s : Set) → b ≡ true → is_in n (filter (λ v. nat_lt 0 v) s) ≡ true → is_in n (cond b (filter (λ v. nat_lt 0 v) s) []) ≡ true
length_by true n s e h = h
length_by false n s e h = absurd (cc e)

module _ (args : List ℕ) (s : Setting) (u t : Tables) (g : Target) (loadable : IsLoadable s.app) (leads : LeadsInto s u t) (turn : Turn s u (ins.Prim 0 6 args)) where
  abbrev i : Ins
  i = ins.Prim 0 6 args

  abbrev f : Frame
  f = fetched_frame s u t g loadable leads i turn

  abbrev m : Memory
  m = memory s u t g loadable leads i turn

  abbrev low : Frame
  low = frame_after_pop f 6

  abbrev n : ℕ
  n = number_below_top f 6

  abbrev from : ℕ
  from = number_below_top f 2

  abbrev causes_here : List (Abend × Bool)
  causes_here = cs s u t g loadable leads i turn copy anybody (copy_top args) tt

  sized : Sized f turn.public
  sized = turn_sized s u loadable i turn

  inside : NoCause causes_here → is_none (where_is low from n) ≡ false
  inside none = grind (arith, range_of, second_if, both_missed, not_true, inside_of, not_zero, or_parts)

  read : NoCause causes_here → bytes_at low turn.public from n ≡ bytes_from m from n
  read none = turn_read s u t g loadable leads i turn 6 from n (not_zero n (range_of n none.1.1.1.1.0).0) (inside none)

  ready : NoCause causes_here → Ready s u t g loadable leads i turn copy anybody (copy_top args) tt
  ready none =
      let range = range_of n none.1.1.1.1.0 in
      let one : 1 ≤ n = range.0 in
      let most : n ≤ 255 = range.1 in
      let some : (n == 0) ≡ false = not_zero n one in
      let enough = above f 6 none.1.1.0 in
      let missed = second_if (in_range 1 255 n) (both_missed low (number_below_top f 4) from n) (not_true (in_range 1 255 n) none.1.1.1.1.0) none.1.1.1.0 in
      let a = turn.frame.dt - 6 in
      let first : m a < 256 = turn.place.bytes a in
      let second : m (suc a) < 256 = turn.place.bytes (suc a) in
      let is : n ≡ m a * 256 + m (suc a) = below_is f turn.public 6 sized (omega (arith, enough)) (omega arith) ∙ pair_is m a in
      let high_zero : m a ≡ 0 = omega (arith, is, most) in
      let low_is : m (suc a) ≡ n = omega (arith, is, high_zero) in
      let k : Facts = turn.place.known.bytes in
      let zero_in : is_in 0 (values_at k a) ≡ true = subst (λ (v : ℕ). is_in v (values_at k a) ≡ true) high_zero (value_holds k m a turn.place.holds first) in
      let n_in : is_in n (values_at k (suc a)) ≡ true = subst (λ (v : ℕ). is_in v (values_at k (suc a)) ≡ true) low_is (value_holds k m (suc a) turn.place.holds second) in
      let less = number_less f turn.public (zeros (length turn.frame.fixed)) blank turn.place.calls 6 sized (base_fits s u t g loadable leads i turn) turn.place.open_calls (omega (arith, enough)) (omega arith) in
      record {
        few = omega (arith, most);
        some = one;
        inside = inside_of (n == 0) (is_none (where_is low (number_below_top f 4) n)) some (or_parts (is_outside low (number_below_top f 4) n) (is_outside low from n) missed).0;
        long = turn_length s u t g loadable leads i turn 6 from n some (inside none);
        bytes = subst (λ (z : List ℕ). AreBytes z) (sym (read none)) (bytes_of m from n turn.place.bytes);
        length_in = length_by (is_in 0 (values_at k a)) n (values_at k (suc a)) zero_in (is_kept (λ v. nat_lt 0 v) n (values_at k (suc a)) n_in (lt-ltb 0 n one));
        stands = omega (arith, less, most);
      }

  few_case : Followed s u t g loadable leads i turn (top_places (base s u t g loadable leads i turn).frame 6) nobody → IsRowCovered s u t g loadable leads i turn (row i f turn.public turn.around)
  few_case w =
      let e : Frame = with_bytes f w.fixed w.dyn in
      copy_row s u t g loadable leads i turn copy anybody (copy_top args) tt nobody tt (λ h v. refl) (λ v. refl) w 2 (omega arith) (omega arith) ready refl read
      (λ none.
      let a : Agree 6 (number_below_top e) (number_below_top f) = agree s u t g loadable leads i turn copy anybody (copy_top args) tt nobody tt (λ h v. refl) (λ v. refl) w none.1.1.0 in
      ap (λ (x : ℕ). length (bytes_at (frame_after_pop e 6) w.public x (number_below_top e 6))) (a 2 (omega arith) (omega arith))
      ∙ (ap (λ (x : ℕ). length (bytes_at (frame_after_pop e 6) w.public from x)) (a 6 (omega arith) (omega arith))
      ∙ read_length low w.fixed w.dyn w.public from n (fits_low f 6 w.fixed w.dyn w.public w.fits) (not_zero n (range_of n none.1.1.1.1.0).0) (inside none)))

  -- both ways to follow it
  pub copy_covered : Followed s u t g loadable leads i turn (top_places (base s u t g loadable leads i turn).frame 6) nobody ⊎ IsCoarse s u t g loadable leads i turn
      → IsRowCovered s u t g loadable leads i turn (row i f turn.public turn.around)
  copy_covered o =
      elim o [
        | inl w ↦ few_case w
        | inr includes ↦ coarse_top s u t g loadable leads i turn copy anybody (copy_top args) tt includes tt ready
      ]

copy_case : (args : List ℕ) → ChoiceCase (ins.Prim 0 6 args)
copy_case args s u t g loadable leads turn includes =
    copy_covered args s u t g loadable leads turn (few_or_many s u t g loadable leads (ins.Prim 0 6 args) turn nobody (λ f. refl) (copy_alone turn.place.start) includes)

-- the law of the row
pub memory_copy_law : (args : List ℕ) → LeadLaw (ins.Prim 0 6 args)
memory_copy_law args = law_by (ins.Prim 0 6 args) (copy_case args)
