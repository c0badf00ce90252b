-- The primitives whose flags are by the top byte of the stack: each of its values is followed.
use Rattle.std.proofs.Common.{◌≡◌, inl, inr, ℕ, ◌+◌, ◌-◌, ◌*◌, ◌≤◌, Bool, true, false, cond, List, [], ◌∷◌, length, Option, Some, None, refl, ap, subst, arith}
use Rattle.std.specs.Prelude.{not, ◌==◌, nat_le, min}
use Rattle.std.proofs.lemmas.Bool.{le-leb}
use Rattle.law_prove.specs.model_device.specs.Bytes.{num}
use Rattle.law_prove.specs.model_machine.specs.declared.instruction.Ins.{Ins}
use Rattle.law_prove.specs.model_machine.specs.declared.instruction.Ins.TheVariants as ins
use Rattle.law_prove.specs.model_machine.specs.declared.machine.Abend.TheVariants.{A04, A06}
use Rattle.law_prove.specs.model_machine.specs.Frame.{Frame, dynamic_base, dynamic_end, is_under, is_outside, top}
use Rattle.law_prove.specs.model_machine.specs.Primitives.{Goes, has_bit, in_range, later_causes}
use Rattle.law_prove.specs.model_machine.specs.Row.{causes, row, first_cause}
use Rattle.law_prove.specs.model_machine.specs.Chain.{frame_at}
use Rattle.law_prove.specs.model_machine.specs.Shapes.{Stays, act_effect, shape, prim_shape}
use Rattle.law_prove.specs.model_rules.specs.Rules.{Target}
use Rattle.law_prove.specs.model_prove.specs.Sets.{numbers_from}
use Rattle.law_prove.specs.model_prove.specs.Facts.{Facts, Memory, values_at}
use Rattle.law_prove.specs.model_prove.specs.Digits.{Flags}
use Rattle.law_prove.specs.model_prove.specs.Keys.{Tables}
use Rattle.law_prove.specs.model_prove.specs.Laws.{Among}
use Rattle.law_prove.specs.model_prove.specs.Splits.{Choice, combinations, count_of_combinations, most_combinations, few_if, few_combinations}
use Rattle.law_prove.specs.model_prove.specs.Work.{AsShaped}
use Rattle.law_prove.specs.model_prove.specs.Arrivals.{Setting, Arrival}
use Rattle.law_prove.specs.model_prove.specs.Steps.{Spot, lowered, flagged, settled_spot, follows, row_arrivals}
use Rattle.law_prove.specs.model_rules.specs.Loadable.{IsLoadable}
use Rattle.law_prove.specs.model_prove.specs.Tables.{includes_all}
use Rattle.law_prove.specs.Laws.{LeadsInto, LeadLaw}
use Rattle.law_prove.proofs.Acts.{flags_led}
use Rattle.law_prove.proofs.Single.{going, Turn, IsRowCovered, one_shaped}
use Rattle.law_prove.proofs.Plain.{above}
use Rattle.law_prove.proofs.Blocks.{included_of}
use Rattle.law_prove_closed.specs.ReadLaws.{FlagLaw}
use Rattle.law_prove_closed.proofs.Scenes.{drawn, scene_of, scene_memory}
use Rattle.law_prove_closed.proofs.Reading.{stack_alike, top_alike, first_same}
use Rattle.law_prove_closed.proofs.Chosen.{Chosen, stand, real, memory, sized, before, knowing_spot, knowing_stays, outcome_done, chosen_row, law_of}

-- ---- one byte is followed

few_by : (b : Bool) (all : List Choice) → b ≡ true → few_if b all ≡ None → ⊥
few_by true all e h = absurd (cc h)
few_by false all e h = absurd (cc e)

-- a byte has at most 256 values
one_byte : (k : Facts) (a : ℕ) → nat_le (count_of_combinations k (a ∷ [])) most_combinations ≡ true
one_byte k a = le-leb (min 256 (length (values_at k a)) * 1) 256 (omega arith)

one_by : (b : Bool) (k : Facts) (a : ℕ) → few_combinations k (cond (not b) (a ∷ []) []) ≡ None → ⊥
one_by true k a h = absurd (cc h)
one_by false k a h = few_by (nat_le (count_of_combinations k (a ∷ [])) most_combinations) (combinations k (a ∷ [])) (one_byte k a) h

module _ (s : Setting) (u t : Tables) (g : Target) (loadable : IsLoadable s.app) (leads : LeadsInto s u t) (i : Ins) (turn : Turn s u i) where
  abbrev f : Frame
  f = real s u t g loadable leads i turn

  abbrev m : Memory
  m = memory s u t g loadable leads i turn

  -- the top byte
  abbrev v : ℕ
  v = num (top f 1)

  bottom : is_under f 1 ≡ false → (dynamic_base + turn.frame.session ≤ f.dt - 1) × (f.dt - 1 ≤ dynamic_end)
  bottom over = grind (arith, above)

  -- the scene has it
  top_same : (z : Chosen s u t g loadable leads i turn) → is_under f 1 ≡ false → ((a : ℕ) → is_outside f a 1 ≡ false → Among a (numbers_from (f.dt - 1) 1) → scene_memory (scene_of f z.fixed z.dyn z.public) a ≡ m a) → num (top (drawn f z.fixed z.dyn) 1) ≡ v
  top_same z over agrees =
      let enough = above f 1 over in
      ap num (stack_alike f turn.public z.fixed z.dyn z.public (sized s u t g loadable leads i turn) z.size z.room z.whole 1 1 (omega (arith, enough)) (omega arith)
      (top_alike (scene_of f z.fixed z.dyn z.public) m f 1 (omega (arith, enough)) agrees))

-- ---- CHECK CASE

module _ (args : List ℕ) where
  abbrev check : Ins
  check = ins.Prim 0 1 args

  module _ (s : Setting) (u t : Tables) (g : Target) (loadable : IsLoadable s.app) (leads : LeadsInto s u t) (turn : Turn s u check) (z : Chosen s u t g loadable leads check turn) where
    abbrev l : Frame
    l = drawn (f s u t g loadable leads check turn) z.fixed z.dyn

    case_there : (x : Bool) (p : Spot) → Among (flagged false (record { c = false; z = x }) p) (flagged false (record { c = false; z = true }) p ∷ flagged false (record { c = false; z = false }) p ∷ [])
    case_there true p = inl refl
    case_there false p = inr (inl refl)

    check_covered : IsRowCovered s u t g loadable leads check turn (row check (frame_at turn.frame turn.next) turn.public turn.around)
    unfolding causes shape later_causes prim_shape
    check_covered =
        let fr : Frame = f s u t g loadable leads check turn in
        let same : is_under fr 1 ≡ false → num (top l 1) ≡ num (top fr 1) = λ over. top_same s u t g loadable leads check turn z over (λ a there h. z.agrees a there h) in
        chosen_row s u t g loadable leads check turn z
        (first_same A04 (is_under fr 1) ((A06, not (in_range 1 4 (num (top l 1)))) ∷ []) ((A06, not (in_range 1 4 (num (top fr 1)))) ∷ [])
        (λ over. ap (λ (v : ℕ). first_cause ((A06, not (in_range 1 4 v)) ∷ [])) (same over)))
        (λ none all.
        let over : is_under fr 1 ≡ false = none.1.1.0 in
        let bounds = bottom s u t g loadable leads check turn over in
        let d = fr.dt - 1 in
        let x : Bool = num (top fr 1) == turn.around.case in
        let p : Spot = before s u t g loadable leads check turn in
        let low : Spot = lowered d (knowing_spot s u t g loadable leads check turn z.facts) in
        let each : Spot → List Arrival = λ r. follows s check false Goes p (settled_spot s r) in
        let fl : Flags = record { c = false; z = x } in
        outcome_done s u t g loadable leads check turn d Stays (Some (fr.c, x)) refl
        (record {
          spot = flagged false fl low;
          led = flags_led s turn.place.start turn.place.standing.allowances low false (act_effect Stays (record fr { dt = d }) turn.public) (Some (fr.c, x))
              (knowing_stays s u t g loadable leads check turn z.facts z.holds d bounds.0 bounds.1 []);
          included = included_of t each (flagged false (record { c = false; z = true }) low ∷ flagged false (record { c = false; z = false }) low ∷ []) (flagged false fl low) (case_there x low) all;
        }))

  -- ---- STORE CCR

  abbrev store : Ins
  store = ins.Prim 0 3 args

  module _ (s : Setting) (u t : Tables) (g : Target) (loadable : IsLoadable s.app) (leads : LeadsInto s u t) (turn : Turn s u store) (z : Chosen s u t g loadable leads store turn) where
    store_covered : IsRowCovered s u t g loadable leads store turn (row store (frame_at turn.frame turn.next) turn.public turn.around)
    unfolding causes shape later_causes prim_shape
    store_covered =
        let fr : Frame = f s u t g loadable leads store turn in
        let v : ℕ = num (top fr 1) in
        chosen_row s u t g loadable leads store turn z refl
        (λ none all.
        let over : is_under fr 1 ≡ false = none.1.1.0 in
        let bounds = bottom s u t g loadable leads store turn over in
        let d = fr.dt - 1 in
        let p : Spot = before s u t g loadable leads store turn in
        let q : Spot = knowing_spot s u t g loadable leads store turn z.facts in
        let low : Spot = lowered d q in
        let fl : Option (Bool × Bool) = Some (has_bit v 2, has_bit v 1) in
        let one : includes_all t (row_arrivals false s store (going d Stays fl) AsShaped p q) ≡ true =
        subst (λ (v : ℕ). includes_all t (row_arrivals false s store (going d Stays (Some (has_bit v 2, has_bit v 1))) AsShaped p q) ≡ true) (top_same s u t g loadable leads store turn z over (λ a there h. z.agrees a there h)) all
        in
        outcome_done s u t g loadable leads store turn d Stays fl refl
        (record {
          spot = _;
          led = flags_led s turn.place.start turn.place.standing.allowances low false (act_effect Stays (record fr { dt = d }) turn.public) fl (knowing_stays s u t g loadable leads store turn z.facts z.holds d bounds.0 bounds.1 []);
          included = one_shaped s t store d Stays fl p q one;
        }))

check_law : (args : List ℕ) → LeadLaw (ins.Prim 0 1 args)
check_law args =
    law_of (ins.Prim 0 1 args) (λ s u t g loadable leads turn e. e)
    (record {
      asks = refl;
      few = check_covered args;
      many = λ s u t g loadable leads turn few rough.
          absurd (one_by (is_outside (stand s u t g loadable leads (ins.Prim 0 1 args) turn).frame (turn.frame.dt - 1) 1) turn.place.known.bytes (turn.frame.dt - 1) few);
    })

store_law : (args : List ℕ) → LeadLaw (ins.Prim 0 3 args)
store_law args =
    law_of (ins.Prim 0 3 args) (λ s u t g loadable leads turn e. e)
    (record {
      asks = refl;
      few = store_covered args;
      many = λ s u t g loadable leads turn few rough.
          absurd (one_by (is_outside (stand s u t g loadable leads (ins.Prim 0 3 args) turn).frame (turn.frame.dt - 1) 1) turn.place.known.bytes (turn.frame.dt - 1) few);
    })

-- the primitives that set flags by the top byte of the stack are covered
pub flag_laws : FlagLaw
flag_laws = (check_law, store_law)
