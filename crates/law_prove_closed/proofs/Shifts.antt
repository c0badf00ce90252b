-- The primitives that shift the top of the stack.
use Rattle.std.proofs.Common.{◌≡◌, ℕ, ◌+◌, ◌-◌, ◌≤◌, Bool, true, false, List, [], ◌∷◌, length, map, Some, None, refl, sym, ap, subst, ◌∙◌, arith}
use Rattle.std.specs.Prelude.{not, ◌*◌, ◌&&◌, slice_index}
use Rattle.std.proofs.lemmas.List.{length-replicate}
use Rattle.law_prove.specs.model_device.specs.Bytes.{AreBytes}
use Rattle.law_prove.specs.model_device.proofs.ListLemmas.{length_bytes}
use Rattle.law_prove.specs.model_machine.specs.declared.instruction.Ins.{Ins}
use Rattle.law_prove.specs.model_machine.specs.declared.instruction.Ins.TheVariants as ins
use Rattle.law_prove.specs.model_machine.specs.declared.machine.Abend.{Abend}
use Rattle.law_prove.specs.model_machine.specs.declared.machine.Abend.TheVariants.{A04, A06, A0A}
use Rattle.law_prove.specs.model_machine.specs.Blocks.{Worked, shift_left_block, shift_right_block}
use Rattle.law_prove.specs.model_machine.specs.Frame.{Frame, dynamic_base, is_under, top}
use Rattle.law_prove.specs.model_machine.specs.Primitives.{Around, Goes, in_range, later_causes}
use Rattle.law_prove.specs.model_machine.specs.Row.{causes, row, first_cause}
use Rattle.law_prove.specs.model_machine.specs.Chain.{frame_at}
use Rattle.law_prove.specs.model_machine.specs.Shapes.{Replaces, Shape, act_effect, shape, prim_shape}
use Rattle.law_prove.specs.law_bytes.proofs.ByteLists.{number_bytes}
use Rattle.law_prove.specs.model_rules.specs.Rules.{Target}
use Rattle.law_prove.specs.model_prove.specs.Sets.{Set, numbers_from, all_bytes}
use Rattle.law_prove.specs.model_prove.specs.Facts.{Facts}
use Rattle.law_prove.specs.model_prove.specs.Digits.{Flags}
use Rattle.law_prove.specs.model_prove.specs.Keys.{Delegated, Tables}
use Rattle.law_prove.specs.model_prove.specs.Laws.{Among}
use Rattle.law_prove.specs.model_prove.specs.Splits.{Scene, deciders}
use Rattle.law_prove.specs.model_prove.specs.Reach.{Shifts, coarse, may_have_bad_length}
use Rattle.law_prove.specs.model_prove.specs.Work.{Work, AsShaped, work}
use Rattle.law_prove.specs.model_prove.specs.Arrivals.{Setting}
use Rattle.law_prove.specs.model_prove.specs.Steps.{Spot, sets, any_bytes, lowered, written, flagged, final_flags, settled_spot, follows, row_arrivals, arounds, primitive_of, is_return, no_calls}
use Rattle.law_prove.specs.model_rules.specs.Loadable.{IsLoadable}
use Rattle.law_prove.specs.model_prove.specs.Tables.{includes_all}
use Rattle.law_prove.specs.Coverings.{frame_memory}
use Rattle.law_prove.specs.Laws.{LeadsInto, LeadLaw}
use Rattle.law_prove.proofs.Seen.{FitSets, fit_sets, fit_any}
use Rattle.law_prove.proofs.Acts.{Led, flags_led}
use Rattle.law_prove.proofs.Turns.{NoCause, nobody, blank}
use Rattle.law_prove.proofs.Alike.{from_length, top_is}
use Rattle.law_prove.proofs.Single.{going, Turn, IsRowCovered, one_shaped, scene}
use Rattle.law_prove.proofs.Plain.{above}
use Rattle.law_prove.proofs.Blocks.{included_of, among_mapped}
use Rattle.law_prove_closed.specs.ReadLaws.{ShiftLaw}
use Rattle.law_prove_closed.proofs.Scenes.{drawn, scene_of}
use Rattle.law_prove_closed.proofs.Reading.{Alike, stack_alike, top_alike}
use Rattle.law_prove_closed.proofs.Chosen.{Chosen, IsCoarse, stand, real, memory, sized, before, after_fetch, knowing_spot, knowing_replaces, outcome_done, chosen_row, coarse_row, rough_is, law_of}

-- ---- lists of outcomes

-- any flags are among all
pub flags_there : (c z : Bool) → Among (record { c = c; z = z }) (final_flags true)
flags_there c z = grind arith

module _ (i : Ins) (n : ℕ) (bad : Bool) (shift : List ℕ → Worked) where
  -- the causes of a shift
  abbrev shift_causes : Frame → List (Abend × Bool)
  shift_causes f = (A06, bad) ∷ (A0A, false) ∷ (A04, is_under f n) ∷ []

  -- its shape, with these bytes on top
  abbrev shift_shape : ℕ → List ℕ → Shape
  shift_shape d v = going d (Replaces (shift v).value) (Some ((shift v).c, (shift v).z))

  -- the row shifts the top n bytes
  pub record IsShift : Type 0 where
    pub cause : (f : Frame) (public : List ℕ) (x : Around) → causes i f public x ≡ shift_causes f
    pub form : (f : Frame) (public : List ℕ) (x : Around) → shape i f public x ≡ shift_shape f.dt (top f n)
    pub task : (f : Frame) (public : List ℕ) → work i f public ≡ AsShaped
    pub decided : (f : Frame) → deciders i f ≡ numbers_from (f.dt - n) n
    pub rough : (f : Frame) (k : Facts) → coarse i f k ≡ Shifts n
    pub fine : may_have_bad_length (primitive_of i) ≡ false
    pub size : (v : List ℕ) → length (shift v).value ≡ length v
    pub bytes : (v : List ℕ) → AreBytes (shift v).value

  module _ (is : IsShift) (s : Setting) (u t : Tables) (g : Target) (loadable : IsLoadable s.app) (leads : LeadsInto s u t) (turn : Turn s u i) where
    abbrev f : Frame
    f = real s u t g loadable leads i turn

    -- the top, and what takes its place
    abbrev v : List ℕ
    v = top f n

    abbrev b : List ℕ
    b = (shift v).value

    abbrev m : Shape
    m = shift_shape f.dt v

    count : is_under f n ≡ false → length b ≡ n
    count over =
        let enough = above f n over in
        is.size v ∙ (ap (λ (l : List ℕ). length l) (top_is f turn.public n (sized s u t g loadable leads i turn) (omega (arith, enough))) ∙ from_length (frame_memory f turn.public) (f.dt - n) n)

    room : is_under f n ≡ false → dynamic_base + length b ≤ f.dt
    room over = let enough = above f n over in let size = count over in omega (arith, enough, size)

    few_covered : Chosen s u t g loadable leads i turn → IsRowCovered s u t g loadable leads i turn (row i (frame_at turn.frame turn.next) turn.public turn.around)
    few_covered z =
        let l : Frame = drawn f z.fixed z.dyn in
        chosen_row s u t g loadable leads i turn z (ap first_cause (is.cause l z.public nobody ∙ sym (is.cause f turn.public turn.around)))
        (λ none all.
        let no : NoCause (shift_causes f) = subst (λ (cs : List (Abend × Bool)). NoCause cs) (is.cause f turn.public turn.around) none in
        let over : is_under f n ≡ false = no.1.1.0 in
        let enough = above f n over in
        let zs : Scene = scene_of f z.fixed z.dyn z.public in
        let alike : Alike zs (memory s u t g loadable leads i turn) (f.dt - n) n =
        top_alike zs (memory s u t g loadable leads i turn) f n (omega (arith, enough)) (λ a there h. z.agrees a there (subst (λ (ps : List ℕ). Among a ps) (sym (is.decided (stand s u t g loadable leads i turn).frame)) h))
        in
        let tops : top l n ≡ v = stack_alike f turn.public z.fixed z.dyn z.public (sized s u t g loadable leads i turn) z.size z.room z.whole n n (omega (arith, enough)) (omega arith) alike in
        let form : shape i l z.public nobody ≡ m = is.form l z.public nobody ∙ ap (λ (u : List ℕ). shift_shape f.dt u) tops in
        let p : Spot = before s u t g loadable leads i turn in
        let q : Spot = knowing_spot s u t g loadable leads i turn z.facts in
        let one : includes_all t (row_arrivals false s i m AsShaped p q) ≡ true =
        subst (λ (w : Work). includes_all t (row_arrivals false s i m w p q) ≡ true) (is.task l z.public)
        (subst (λ (h : Shape). includes_all t (row_arrivals (is_return h.act && no_calls turn.place.calls) s i h (work i l z.public) p q) ≡ true) form all)
        in
        let st = turn.place.start in
        let al = turn.place.standing.allowances in
        outcome_done s u t g loadable leads i turn f.dt (Replaces b) (Some ((shift v).c, (shift v).z)) (is.form f turn.public turn.around)
        (record {
          spot = _;
          led = flags_led s st al _ false _ (Some ((shift v).c, (shift v).z)) (knowing_replaces s u t g loadable leads i turn z.facts z.holds f.dt turn.place.frame.low turn.place.frame.high b (sets b) (fit_sets b) (room over));
          included = one_shaped s t i f.dt (Replaces b) (Some ((shift v).c, (shift v).z)) p q one;
        }))

    many_covered : IsCoarse s u t g loadable leads i turn → IsRowCovered s u t g loadable leads i turn (row i (frame_at turn.frame turn.next) turn.public turn.around)
    many_covered rough =
        let l : Frame = scene s u t g loadable leads i turn in
        let p : Spot = before s u t g loadable leads i turn in
        let q : Spot = after_fetch s u t g loadable leads i turn in
        let h : Shape = shift_shape f.dt (top l n) in
        let st = turn.place.start in
        let al = turn.place.standing.allowances in
        coarse_row s u t g loadable leads i turn false h (Shifts n) l (shift_causes f) (is.cause f turn.public turn.around) ((λ e. absurd (cc e)), ((λ e. absurd (cc e)), ((λ e. absurd (cc e)), tt)))
        (rough_is s u t g loadable leads i turn false false h (shift_causes f) (Shifts n) is.fine (is.form l blank _) (is.rough l turn.place.known.bytes) refl (is.cause l blank _) rough)
        (λ none all.
        let over : is_under f n ≡ false = none.1.1.0 in
        let ss : List Set = any_bytes n in
        let fit : FitSets b ss = subst (λ (k : ℕ). FitSets b (any_bytes k)) (count over) (fit_any b (is.bytes v)) in
        let many : length ss ≡ n = length-replicate {A = Set} n all_bytes in
        let low : Spot = lowered f.dt q in
        let fl : Flags = record { c = (shift v).c; z = (shift v).z } in
        let one : Led s st al (written (f.dt - n) ss low) false (act_effect (Replaces b) (record f { dt = f.dt }) turn.public) =
        subst (λ (k : ℕ). Led s st al (written (f.dt - k) ss low) false (act_effect (Replaces b) (record f { dt = f.dt }) turn.public)) many
        (knowing_replaces s u t g loadable leads i turn turn.place.known.bytes turn.place.holds f.dt turn.place.frame.low turn.place.frame.high b ss fit (room over))
        in
        outcome_done s u t g loadable leads i turn f.dt (Replaces b) (Some (fl.c, fl.z)) (is.form f turn.public turn.around)
        (record {
          spot = flagged true fl (written (f.dt - n) ss low);
          led = flags_led s st al (written (f.dt - n) ss low) false (act_effect (Replaces b) (record f { dt = f.dt }) turn.public) (Some (fl.c, fl.z)) one;
          included = included_of t (λ r. follows s i false Goes p (settled_spot s r)) (map (λ g. flagged true g (written (f.dt - n) ss low)) (final_flags true)) (flagged true fl (written (f.dt - n) ss low))
              (among_mapped (λ g. flagged true g (written (f.dt - n) ss low)) fl (final_flags true) (flags_there fl.c fl.z)) all;
        }))

-- whether a shift's own bytes are out of their range
abbrev bad_shift : List ℕ → Bool
bad_shift args = not (in_range 1 16 (slice_index args 0) && in_range 1 (8 * slice_index args 0 - 1) (slice_index args 1))

left_is : (args : List ℕ) → IsShift (ins.Prim 2 2 args) (slice_index args 0) (bad_shift args) (λ v. shift_left_block v (slice_index args 1))
unfolding causes shape later_causes prim_shape
left_is args =
    record {
      cause = λ f public x. refl;
      form = λ f public x. refl;
      task = λ f public. refl;
      decided = λ f. refl;
      rough = λ f k. refl;
      fine = refl;
      size = λ v. length_bytes (length v) _;
      bytes = λ v. number_bytes (length v) _;
    }

right_is : (args : List ℕ) → IsShift (ins.Prim 2 3 args) (slice_index args 0) (bad_shift args) (λ v. shift_right_block v (slice_index args 1))
unfolding causes shape later_causes prim_shape
right_is args =
    record {
      cause = λ f public x. refl;
      form = λ f public x. refl;
      task = λ f public. refl;
      decided = λ f. refl;
      rough = λ f k. refl;
      fine = refl;
      size = λ v. length_bytes (length v) _;
      bytes = λ v. number_bytes (length v) _;
    }

shift_law : (args : List ℕ) (number : ℕ) (shift : List ℕ → Worked) → IsShift (ins.Prim 2 number args) (slice_index args 0) (bad_shift args) shift → arounds Delegated (primitive_of (ins.Prim 2 number args)) ≡ arounds Delegated None → LeadLaw (ins.Prim 2 number args)
shift_law args number shift is asks =
    law_of (ins.Prim 2 number args) (λ s u t g loadable leads turn e. e)
    (record {
      asks = asks;
      few = few_covered (ins.Prim 2 number args) (slice_index args 0) (bad_shift args) shift is;
      many = λ s u t g loadable leads turn few rough. many_covered (ins.Prim 2 number args) (slice_index args 0) (bad_shift args) shift is s u t g loadable leads turn rough;
    })

-- the shifts are covered
pub shift_laws : ShiftLaw
shift_laws = (
  λ args. shift_law args 2 (λ v. shift_left_block v (slice_index args 1)) (left_is args) refl,
  λ args. shift_law args 3 (λ v. shift_right_block v (slice_index args 1)) (right_is args) refl,
)
