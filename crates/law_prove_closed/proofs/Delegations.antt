-- The row of a delegation: the bytes that have the address of its name, and the length of the name, are one of the choices
-- that are followed; or, if there are too many, what may follow is.
use Rattle.std.proofs.Common.{◌≡◌, inl, inr, ℕ, suc, ◌+◌, ◌-◌, ◌≤◌, Bool, true, false, cond, List, [], ◌∷◌, ◌++◌, length, Option, Some, None, refl, sym, ap, subst, ◌∙◌, arith}
use Rattle.std.specs.Prelude.{◌==◌, ◌&&◌, ◌||◌, not, nat_lt, nat_le, is_none, flat_map}
use Rattle.std.specs.List.{AllByRecursion}
use Rattle.std.proofs.lemmas.Bool.{ltb-false, leb-true, le-leb, and_parts, and_from}
use Rattle.std.proofs.lemmas.List.{length-replicate}
use Rattle.law_prove.specs.model_device.specs.Bytes.{num, zeros}
use Rattle.law_prove.specs.model_machine.specs.declared.instruction.Ins.{Ins}
use Rattle.law_prove.specs.model_machine.specs.declared.instruction.Ins.TheVariants as ins
use Rattle.law_prove.specs.model_machine.specs.declared.machine.Abend.{Abend}
use Rattle.law_prove.specs.model_machine.specs.declared.machine.Abend.TheVariants.{A03, A04, A06, A0A}
use Rattle.law_prove.specs.model_machine.specs.Code.{Decodes}
use Rattle.law_prove.specs.model_machine.specs.Frame.{Frame, Place, Static, Dynamic, Public, where_is, is_outside, is_under, frame_after_pop, dynamic_base, dynamic_end, public_base, public_end, bytes_in, bytes_at}
use Rattle.law_prove.specs.model_machine.specs.Primitives.{Around, Delegates, DelegateTo, in_range, has_bit, number_below_top, count_at, later_causes}
use Rattle.law_prove.specs.model_machine.specs.Row.{causes, row, first_cause, row_end, Does}
use Rattle.law_prove.specs.model_machine.specs.Chain.{frame_at}
use Rattle.law_prove.specs.model_machine.specs.Shapes.{Stays, Shape, act_effect, shape_effect, meaning, prim_shape, shape}
use Rattle.law_prove.specs.law_bytes.specs.OfBytes.{IsByteEffect}
use Rattle.law_prove.specs.model_rules.specs.Rules.{Target}
use Rattle.law_prove.specs.model_prove.specs.Facts.{Memory}
use Rattle.law_prove.specs.model_prove.specs.Compares.{bytes_from}
use Rattle.law_prove.specs.model_prove.specs.Keys.{Start, Delegated, OfClass, Known, Tables, calls_below}
use Rattle.law_prove.specs.model_prove.specs.Laws.{Among, values_in}
use Rattle.law_prove.specs.model_prove.specs.Splits.{Scene, Choice, stand_in, with_values, top_places, combinations, count_of_combinations, most_combinations, few_if, few_combinations}
use Rattle.law_prove.specs.model_prove.specs.Work.{AsShaped}
use Rattle.law_prove.specs.model_prove.specs.Arrivals.{Setting, Arrival, fails}
use Rattle.law_prove.specs.model_prove.specs.Steps.{Spot, lowered, settled_spot, follows, caused, instruction, arounds, chosen, with_first_choice, with_choice, inside, by_choices, coarse_around, coarse_for, coarse_done, coarse_arrivals}
use Rattle.law_prove.specs.model_prove.specs.Reach.{Coarse, Leads, may_miss, known_causes}
use Rattle.law_prove.specs.model_rules.specs.Loadable.{IsLoadable}
use Rattle.law_prove.specs.model_prove.specs.Tables.{includes_all}
use Rattle.law_prove.specs.model_prove.proofs.ChangeLemmas.{choice_is_there}
use Rattle.law_prove.specs.Coverings.{frame_memory, IsFrameOf}
use Rattle.law_prove.specs.Laws.{LeadsInto, LeadLaw}
use Rattle.law_prove.proofs.Acts.{spot_of, Framed, Led, stays_led, led_covers, lowered_seen}
use Rattle.law_prove.proofs.Alike.{Sized, read_is, top_is, stack_length}
use Rattle.law_prove.proofs.Closed.{included_first, included_second}
use Rattle.law_prove.proofs.Places.{of_closed, fails_by}
use Rattle.law_prove.proofs.Seen.{Seen}
use Rattle.law_prove.proofs.Single.{Turn, here, there, IsRowCovered, row_is, shape_bytes, law_from}
use Rattle.law_prove.proofs.Turns.{frame_of, nobody, walked, included_at, decoded_at, leaves_bytes}
use Rattle.law_prove.proofs.Scenes.{both_inside}
use Rattle.law_prove_closed.specs.Laws.{DelegateLaw}
use Rattle.law_prove_closed.proofs.Stands.{Stands, place_in, same_outside, stands_sized, scene_memory, memory_is, HasValues, values_set, all_inside, filtered_inside, chosen_facts, chosen_holds}
use Rattle.law_prove_closed.proofs.Delegated.{delegates_covered}
use Rattle.law_prove.proofs.Blocks.{among_left, among_right}
use Rattle.law_prove_closed.proofs.Scenes.{values_both}
use Rattle.law_prove.proofs.Choices.{one_of, chosen_is}

-- ---- causes and shape

-- whether n bytes at an address lie in no segment, by the number of static bytes and DT
abbrev out : ℕ → ℕ → ℕ → ℕ → Bool
out size dt a n = not (n == 0) && is_none (place_in size dt a n)

-- the causes of a delegation: by the access list, the height of the stack, the static bytes, DT after it, the address of
-- the name and its length
abbrev delegate_causes : Bool → Bool → ℕ → ℕ → ℕ → ℕ → List (Abend × Bool)
delegate_causes denied under size dt a n =
    (A06, false) ∷ (A0A, denied) ∷ (A04, under) ∷ (A03, out size dt a 1 || (in_range 5 16 n && out size dt (a + 1) n)) ∷ (A06, not (in_range 5 16 n)) ∷ []

-- those of a frame
abbrev causes_in : Frame → List ℕ → List (Abend × Bool)
causes_in f public = delegate_causes (has_bit f.deny 2) (is_under f 2) (length f.fixed) (f.dt - 2) (number_below_top f 2) (count_at (frame_after_pop f 2) public (number_below_top f 2))

-- the name of the delegate
abbrev name_in : Frame → List ℕ → List ℕ
name_in f public = bytes_at (frame_after_pop f 2) public (number_below_top f 2 + 1) (count_at (frame_after_pop f 2) public (number_below_top f 2))

-- a shape that delegates
abbrev delegating : ℕ → List ℕ → Shape
delegating d name = record { dt = d; act = Stays; flags = None; next = Delegates name }

delegate_cause : (args : List ℕ) (f : Frame) (public : List ℕ) (x : Around) → causes (ins.Prim 0 7 args) f public x ≡ causes_in f public
unfolding causes later_causes
delegate_cause args f public x = refl

delegate_shape : (args : List ℕ) (f : Frame) (public : List ℕ) (x : Around) → shape (ins.Prim 0 7 args) f public x ≡ delegating (f.dt - 2) (name_in f public)
unfolding shape prim_shape
delegate_shape args f public x = refl

-- who delegated to a frame does not matter to a delegation
around_delegate : (t : Tables) (f : Around → List Arrival) (start : Start) → includes_all t (flat_map f (arounds start (Some DelegateTo))) ≡ true → includes_all t (f nobody) ≡ true
around_delegate t f Delegated e = included_first t (f nobody) [] e
around_delegate t f (OfClass class) e = included_first t (f nobody) [] e

-- ---- bytes that are read

in_more_by : (x y w z : Bool) (p q r : Place) → (y ≡ true → w ≡ true) → is_none (cond x (Some p) (cond y (Some q) (cond z (Some r) None))) ≡ false → is_none (cond x (Some p) (cond w (Some q) (cond z (Some r) None))) ≡ false
in_more_by true y w z p q r more e = refl
in_more_by false y true z p q r more e = refl
in_more_by false true false z p q r more e = absurd (cc (more refl))
in_more_by false false false z p q r more e = e

-- a byte that lies in a segment once the stack has fewer bytes lies in one before
in_more : (f : Frame) (a : ℕ) → is_none (where_is (frame_after_pop f 2) a 1) ≡ false → is_outside f a 1 ≡ false
in_more f a there =
    in_more_by (nat_le (a + 1) (length f.fixed)) (nat_le dynamic_base a && nat_le (a + 1) (f.dt - 2)) (nat_le dynamic_base a && nat_le (a + 1) f.dt) (nat_le public_base a && nat_le (a + 1) public_end)
    (Static a) (Dynamic (a - dynamic_base)) (Public (a - public_base))
    (λ e.
    let parts = and_parts (nat_le dynamic_base a) (nat_le (a + 1) (f.dt - 2)) e in
    let low = leb-true (a + 1) (f.dt - 2) parts.1 in
    and_from (nat_le dynamic_base a) (nat_le (a + 1) f.dt) parts.0 (le-leb (a + 1) f.dt (omega (arith, low)))) there

-- a frame has as much on its stack after two bytes were popped
popped_sized : (f : Frame) (public : List ℕ) → Sized f public → Sized (frame_after_pop f 2) public
popped_sized f public z = let high : f.dt ≤ dynamic_end = z.high in record { small = z.small; room = z.room; high = omega (arith, high); inside = z.inside; whole = z.whole }

-- a byte at an address
byte_read : (f : Frame) (public : List ℕ) (a : ℕ) → Sized f public → is_none (where_is (frame_after_pop f 2) a 1) ≡ false → bytes_at (frame_after_pop f 2) public a 1 ≡ frame_memory f public a ∷ []
byte_read f public a z there = read_is (frame_after_pop f 2) public a 1 (popped_sized f public z) refl there

-- at an address in no segment there is none
none_read : (f : Frame) (public : List ℕ) (a : ℕ) → where_is (frame_after_pop f 2) a 1 ≡ None → bytes_at (frame_after_pop f 2) public a 1 ≡ []
unfolding bytes_at
none_read f public a is = ap (λ (o : Option Place). bytes_in (frame_after_pop f 2) public 1 o) is

-- two frames whose memories agree on a byte have the same number there
count_by : (e f : Frame) (segment public : List ℕ) (a : ℕ) (o : Option Place) → where_is (frame_after_pop e 2) a 1 ≡ where_is (frame_after_pop f 2) a 1 → where_is (frame_after_pop f 2) a 1 ≡ o → Sized e segment → Sized f public
    → (is_none (where_is (frame_after_pop f 2) a 1) ≡ false → frame_memory e segment a ≡ frame_memory f public a) → count_at (frame_after_pop e 2) segment a ≡ count_at (frame_after_pop f 2) public a
count_by e f segment public a None same is x y agree = ap num (none_read e segment a (same ∙ is) ∙ sym (none_read f public a is))
count_by e f segment public a (Some p) same is x y agree =
    let there : is_none (where_is (frame_after_pop f 2) a 1) ≡ false = ap (λ (o : Option Place). is_none o) is in
    let other : is_none (where_is (frame_after_pop e 2) a 1) ≡ false = ap (λ (o : Option Place). is_none o) same ∙ there in
    ap num (byte_read e segment a x other ∙ (ap (λ (v : ℕ). v ∷ []) (agree there) ∙ sym (byte_read f public a y there)))

-- two frames whose memories agree on the top two bytes have the same number there
number_by : (e f : Frame) (segment public : List ℕ) → e.dt ≡ f.dt → dynamic_base + 2 ≤ f.dt → Sized e segment → Sized f public → frame_memory e segment (f.dt - 2) ≡ frame_memory f public (f.dt - 2) → frame_memory e segment (suc (f.dt - 2)) ≡ frame_memory f public (suc (f.dt - 2))
    → number_below_top e 2 ≡ number_below_top f 2
number_by e f segment public dt over x y first second =
    ap num (top_is e segment 2 x (omega (arith, dt, over))
    ∙ (ap (λ (d : ℕ). bytes_from (frame_memory e segment) (d - 2) 2) dt
    ∙ (ap (λ (v : ℕ). v ∷ frame_memory e segment (suc (f.dt - 2)) ∷ []) first ∙ (ap (λ (v : ℕ). frame_memory f public (f.dt - 2) ∷ v ∷ []) second ∙ sym (top_is f public 2 y over)))))

-- ---- the row

module _ (s : Setting) (u t : Tables) (g : Target) (loadable : IsLoadable s.app) (leads : LeadsInto s u t) (args : List ℕ) (turn : Turn s u (ins.Prim 0 7 args)) where
  abbrev delegation : Ins
  delegation = ins.Prim 0 7 args

  abbrev before : Spot
  before = here s u t g loadable leads delegation turn

  abbrev fetched_spot : Spot
  fetched_spot = there s u t g loadable leads delegation turn

  -- the frame after the fetch, and its bytes
  abbrev fetched_frame : Frame
  fetched_frame = frame_at turn.frame turn.next

  abbrev memory : Memory
  memory = frame_memory fetched_frame turn.public

  -- the scene that stands for the place
  abbrev scene : Scene
  scene = let e = stand_in s.app before.key in record e { frame = frame_at e.frame turn.next }

  abbrev real_causes : List (Abend × Bool)
  real_causes = causes_in fetched_frame turn.public

  abbrev real_shape : Shape
  real_shape = delegating (turn.frame.dt - 2) (name_in fetched_frame turn.public)

  abbrev IsCovered : Type 0
  IsCovered = IsRowCovered s u t g loadable leads delegation turn (row delegation fetched_frame turn.public turn.around)

  static_low : length turn.frame.fixed ≤ dynamic_base
  static_low =
      let frame : IsFrameOf s.app turn.frame = turn.place.frame in
      let size : length turn.frame.fixed ≡ length s.app.fixed = frame.size in
      subst (λ (n : ℕ). n ≤ dynamic_base) (sym size) loadable.static

  top_low : turn.frame.dt ≤ dynamic_end
  top_low = let frame : IsFrameOf s.app turn.frame = turn.place.frame in frame.high

  stands : Stands scene fetched_frame
  stands =
      let frame : IsFrameOf s.app turn.frame = turn.place.frame in
      let whole : length (zeros (public_end - public_base)) ≡ public_end - public_base = length-replicate {A = ℕ} (public_end - public_base) 0 in
      record {
        dt = refl;
        session = sym frame.session;
        deny = sym frame.deny;
        size = length-replicate {A = ℕ} (length s.app.fixed) 0 ∙ sym frame.size;
        pieces = refl;
        room = stack_length (dynamic_base + turn.frame.session) turn.frame.dt turn.frame.lb turn.frame.dyn turn.place.calls (omega arith) top_low turn.place.open_calls;
        whole = omega (arith, whole);
      }

  real_sized : Sized fetched_frame turn.public
  real_sized = let frame : IsFrameOf s.app turn.frame = turn.place.frame in record { small = static_low; room = frame.room; high = top_low; inside = frame.inside; whole = turn.whole }

  -- what a scene with values of the memory has is so of the frame
  agrees : (z : Scene) (a : ℕ) → Stands z fetched_frame → scene_memory z a ≡ memory a → frame_memory z.frame z.public a ≡ memory a
  agrees z a stood is = memory_is z fetched_frame a stood ∙ is

  -- ---- what follows

  above : is_under fetched_frame 2 ≡ false → dynamic_base + turn.frame.session + 2 ≤ turn.frame.dt
  above over = ltb-false turn.frame.dt (dynamic_base + turn.frame.session + 2) over

  abbrev low_frame : Frame
  low_frame = frame_after_pop fetched_frame 2

  low_framed : is_under fetched_frame 2 ≡ false → Framed s.app low_frame
  low_framed over =
      let frame : IsFrameOf s.app turn.frame = turn.place.frame in
      let enough = above over in
      let highest = top_low in
      record { code = frame.code; deny = frame.deny; session = frame.session; size = frame.size; room = frame.room; inside = frame.inside; settled = frame.settled; low = omega (arith, enough); high = omega (arith, highest); base = frame.base }

  -- a place with more facts
  abbrev spot_with : Known → Spot
  spot_with k = spot_of turn.place.start turn.place.standing.allowances fetched_frame turn.place.calls k

  done_covered : (k : Known) (n : List ℕ) → is_under fetched_frame 2 ≡ false → Seen turn.place.calls k fetched_frame turn.public
      → includes_all t (follows s delegation false (Delegates n) before (settled_spot s (lowered (turn.frame.dt - 2) (spot_with k)))) ≡ true
      → IsRowCovered s u t g loadable leads delegation turn (Does (meaning real_shape fetched_frame turn.public))
  done_covered k n over seen all =
      let p = turn.place in
      let d = turn.frame.dt - 2 in
      let low : Seen (calls_below d p.calls) (lowered d (spot_with k)).known low_frame turn.public = lowered_seen d p.start p.standing.allowances fetched_frame turn.public p.calls k seen in
      let led : Led s p.start p.standing.allowances (lowered d (spot_with k)) false (act_effect Stays low_frame turn.public) =
      stays_led s loadable.static p.start p.standing.allowances low_frame turn.public (calls_below d p.calls) (lowered d (spot_with k)).known [] (low_framed over) low
      in
      let bytes : IsByteEffect (shape_effect real_shape fetched_frame turn.public) = shape_bytes s u t g loadable leads delegation turn real_shape (delegate_shape args fetched_frame turn.public turn.around) turn.after in
      delegates_covered s u t g loadable leads turn.entry turn.history turn.frame turn.public turn.depth p turn.deep delegation n (name_in fetched_frame turn.public) (settled_spot s (lowered d (spot_with k))) low_frame refl
      (led_covers s p.start p.standing.allowances (lowered d (spot_with k)) false (act_effect Stays low_frame turn.public) led) (frame_of s.app low_frame (low_framed over) bytes.frame) bytes.frame all

  -- the row by its causes
  by_causes : IsRowCovered s u t g loadable leads delegation turn (row_end (first_cause real_causes) (meaning real_shape fetched_frame turn.public)) → IsCovered
  by_causes covered =
      subst (IsRowCovered s u t g loadable leads delegation turn)
      (row_is s u t g loadable leads delegation turn real_causes real_shape (delegate_cause args fetched_frame turn.public turn.around) (delegate_shape args fetched_frame turn.public turn.around)) covered

  -- ---- one choice

  -- the bytes of a choice: the top two, as far as they lie in a segment, and the length of the name
  abbrev first_places : List ℕ
  first_places = inside scene (top_places scene.frame 2)

  abbrev first_scene : Scene
  first_scene = with_values scene (values_in memory first_places)

  abbrev last_places : List ℕ
  last_places = inside first_scene (number_below_top first_scene.frame 2 ∷ [])

  abbrev places : List ℕ
  places = first_places ++ last_places

  first_inside : AllByRecursion {X = ℕ} (λ a. is_outside fetched_frame a 1 ≡ false) first_places
  first_inside = filtered_inside scene fetched_frame (top_places scene.frame 2) stands

  first_set : HasValues fetched_frame static_low top_low scene first_scene memory first_places
  first_set = values_set fetched_frame static_low top_low memory first_places scene stands first_inside

  places_inside : AllByRecursion {X = ℕ} (λ a. is_outside fetched_frame a 1 ≡ false) places
  places_inside = all_inside fetched_frame first_places last_places first_inside (filtered_inside first_scene fetched_frame (number_below_top first_scene.frame 2 ∷ []) first_set.stands)

  abbrev last_scene : Scene
  last_scene = with_values scene (values_in memory places)

  last_set : HasValues fetched_frame static_low top_low scene last_scene memory places
  last_set = values_set fetched_frame static_low top_low memory places scene stands places_inside

  abbrev chosen_known : Known
  chosen_known = record turn.place.known { bytes = chosen_facts (values_in memory places) turn.place.known.bytes }

  chosen_seen : Seen turn.place.calls chosen_known fetched_frame turn.public
  chosen_seen =
      record {
        open_calls = turn.place.open_calls;
        holds = chosen_holds memory places turn.place.known.bytes turn.place.holds;
        compares = turn.place.compares;
        keeps = λ on session d. turn.place.keeps session d;
      }

  -- ---- the causes in the scene of a choice

  top_first : (a : ℕ) → is_under fetched_frame 2 ≡ false → Among a ((turn.frame.dt - 2) ∷ suc (turn.frame.dt - 2) ∷ []) → Among a first_places
  top_first a over among =
      let enough = above over in
      subst (λ (l : List ℕ). Among a l) (sym (both_inside scene.frame (turn.frame.dt - 2) (omega (arith, enough)) (omega (arith, enough)))) among

  number_in : (z : Scene) (l : List ℕ) → HasValues fetched_frame static_low top_low scene z memory l → is_under fetched_frame 2 ≡ false → ((a : ℕ) → Among a first_places → Among a l) → number_below_top z.frame 2 ≡ number_below_top fetched_frame 2
  number_in z l set over more =
      let enough = above over in
      let has : (a : ℕ) → Among a ((turn.frame.dt - 2) ∷ suc (turn.frame.dt - 2) ∷ []) → frame_memory z.frame z.public a ≡ memory a = λ a among. agrees z a set.stands (set.has a (more a (top_first a over among))) in
      number_by z.frame fetched_frame z.public turn.public set.stands.dt (omega (arith, enough)) (stands_sized z fetched_frame static_low top_low set.stands) real_sized (has (turn.frame.dt - 2) (inl refl)) (has (suc (turn.frame.dt - 2)) (inr (inl refl)))

  abbrev name_at : ℕ
  name_at = number_below_top fetched_frame 2

  -- the length of the name is one of the places, if it lies in a segment
  count_among : is_under fetched_frame 2 ≡ false → is_none (where_is (frame_after_pop fetched_frame 2) name_at 1) ≡ false → Among name_at places
  count_among over there =
      let same : number_below_top first_scene.frame 2 ≡ name_at = number_in first_scene first_places first_set over (λ a among. among) in
      let inside_it : is_outside first_scene.frame name_at 1 ≡ false = same_outside first_scene fetched_frame name_at 1 first_set.stands ∙ in_more fetched_frame name_at there in
      let one : inside first_scene (name_at ∷ []) ≡ name_at ∷ [] = ap (λ (b : Bool). cond (not b) (name_at ∷ []) []) inside_it in
      among_right name_at first_places last_places (subst (λ (l : List ℕ). Among name_at l) (sym (ap (λ (a : ℕ). inside first_scene (a ∷ [])) same ∙ one)) (inl refl))

  same_pop : (z : Scene) (a n : ℕ) → Stands z fetched_frame → where_is (frame_after_pop z.frame 2) a n ≡ where_is (frame_after_pop fetched_frame 2) a n
  same_pop z a n stood = ap (λ (k : ℕ). place_in k (z.frame.dt - 2) a n) stood.size ∙ ap (λ (k : ℕ). place_in (length turn.frame.fixed) (k - 2) a n) stood.dt

  same_under : (z : Scene) → Stands z fetched_frame → is_under z.frame 2 ≡ is_under fetched_frame 2
  same_under z stood = ap (λ (n : ℕ). nat_lt n (dynamic_base + z.frame.session + 2)) stood.dt ∙ ap (λ (n : ℕ). nat_lt turn.frame.dt (dynamic_base + n + 2)) stood.session

  over_same : is_under fetched_frame 2 ≡ false → causes_in last_scene.frame last_scene.public ≡ real_causes
  over_same over =
      let z : Scene = last_scene in
      let stood : Stands z fetched_frame = last_set.stands in
      let f : Frame = fetched_frame in
      let number : number_below_top z.frame 2 ≡ name_at = number_in z places last_set over (λ a among. among_left a first_places last_places among) in
      let count : count_at (frame_after_pop z.frame 2) z.public name_at ≡ count_at (frame_after_pop f 2) turn.public name_at =
      count_by z.frame f z.public turn.public name_at (where_is (frame_after_pop f 2) name_at 1) (same_pop z name_at 1 stood) refl (stands_sized z f static_low top_low stood) real_sized
      (λ there. agrees z name_at stood (last_set.has name_at (count_among over there)))
      in
      ap (λ (a : ℕ). delegate_causes (has_bit z.frame.deny 2) (is_under z.frame 2) (length z.frame.fixed) (z.frame.dt - 2) a (count_at (frame_after_pop z.frame 2) z.public a)) number
      ∙ (ap (λ (n : ℕ). delegate_causes (has_bit z.frame.deny 2) (is_under z.frame 2) (length z.frame.fixed) (z.frame.dt - 2) name_at n) count
      ∙ (ap (λ (d : ℕ). delegate_causes (has_bit d 2) (is_under z.frame 2) (length z.frame.fixed) (z.frame.dt - 2) name_at (count_at (frame_after_pop f 2) turn.public name_at)) stood.deny
      ∙ (ap (λ (b : Bool). delegate_causes (has_bit f.deny 2) b (length z.frame.fixed) (z.frame.dt - 2) name_at (count_at (frame_after_pop f 2) turn.public name_at)) (same_under z stood)
      ∙ (ap (λ (k : ℕ). delegate_causes (has_bit f.deny 2) (is_under f 2) k (z.frame.dt - 2) name_at (count_at (frame_after_pop f 2) turn.public name_at)) stood.size
      ∙ ap (λ (k : ℕ). delegate_causes (has_bit f.deny 2) (is_under f 2) (length f.fixed) (k - 2) name_at (count_at (frame_after_pop f 2) turn.public name_at)) stood.dt))))

  -- the first cause in a frame that is under
  first_under : (e : Frame) (segment : List ℕ) → is_under e 2 ≡ true → first_cause (causes_in e segment) ≡ cond (has_bit e.deny 2) (Some A0A) (Some A04)
  first_under e segment under =
      ap (λ (b : Bool). first_cause (delegate_causes (has_bit e.deny 2) b (length e.fixed) (e.dt - 2) (number_below_top e 2) (count_at (frame_after_pop e 2) segment (number_below_top e 2)))) under

  first_same : (b : Bool) → is_under fetched_frame 2 ≡ b → first_cause (causes_in last_scene.frame last_scene.public) ≡ first_cause real_causes
  first_same true under =
      first_under last_scene.frame last_scene.public (same_under last_scene last_set.stands ∙ under)
      ∙ (ap (λ (d : ℕ). cond (has_bit d 2) (Some A0A) (Some A04)) last_set.stands.deny ∙ sym (first_under fetched_frame turn.public under))
  first_same false over = ap first_cause (over_same over)

  -- ---- few choices

  chosen_covered : includes_all t (instruction s delegation last_scene before (chosen (values_in memory places) fetched_spot) nobody) ≡ true → IsCovered
  chosen_covered includes =
      let z : Scene = last_scene in
      let name : List ℕ = name_in z.frame z.public in
      let m : Shape = delegating (turn.frame.dt - 2) name in
      let q : Spot = spot_with chosen_known in
      let shaped : shape delegation z.frame z.public nobody ≡ m = delegate_shape args z.frame z.public nobody ∙ ap (λ (d : ℕ). delegating (d - 2) name) last_set.stands.dt in
      let one : includes_all t (caused (first_cause (causes delegation z.frame z.public nobody)) s delegation (shape delegation z.frame z.public nobody) AsShaped before q) ≡ true =
      subst (λ (p : Spot). includes_all t (instruction s delegation z before p nobody) ≡ true) (chosen_is (values_in memory places) fetched_spot) includes
      in
      let two : includes_all t (caused (first_cause (causes delegation z.frame z.public nobody)) s delegation m AsShaped before q) ≡ true =
      subst (λ (w : Shape). includes_all t (caused (first_cause (causes delegation z.frame z.public nobody)) s delegation w AsShaped before q) ≡ true) shaped one
      in
      let all : includes_all t (caused (first_cause real_causes) s delegation m AsShaped before q) ≡ true =
      subst (λ (o : Option Abend). includes_all t (caused o s delegation m AsShaped before q) ≡ true)
      (ap first_cause (delegate_cause args z.frame z.public nobody) ∙ first_same (is_under fetched_frame 2) refl) two
      in
      by_causes
      (walked s u t g loadable leads turn.entry turn.history turn.frame turn.public turn.depth turn.place turn.deep delegation q real_causes m AsShaped (meaning real_shape fetched_frame turn.public) all
      (λ none more. done_covered chosen_known name none.1.1.0 chosen_seen (included_first t (follows s delegation false (Delegates name) before (settled_spot s (lowered (turn.frame.dt - 2) q))) [] more)))

  few_is : (b : Bool) (all cs : List Choice) → few_if b all ≡ Some cs → all ≡ cs
  few_is true all cs e = cc e
  few_is false all cs e = absurd (cc e)

  few_covered : (cs : List Choice) → few_combinations turn.place.known.bytes first_places ≡ Some cs → includes_all t (flat_map (with_first_choice s delegation scene before fetched_spot) cs) ≡ true → IsCovered
  few_covered cs e includes =
      let known = turn.place.known.bytes in
      let c : Choice = values_in memory first_places in
      let d : Choice = values_in memory last_places in
      let is : combinations known first_places ≡ cs = few_is (nat_le (count_of_combinations known first_places) most_combinations) (combinations known first_places) cs e in
      let among : Among c cs = subst (λ (l : List Choice). Among c l) is (choice_is_there known first_places memory turn.place.holds turn.place.bytes) in
      let one : includes_all t (flat_map (λ d. with_choice s delegation scene before fetched_spot (c ++ d)) (combinations known last_places)) ≡ true = one_of t (with_first_choice s delegation scene before fetched_spot) c cs among includes in
      let two : includes_all t (with_choice s delegation scene before fetched_spot (c ++ d)) ≡ true =
      one_of t (λ d. with_choice s delegation scene before fetched_spot (c ++ d)) d (combinations known last_places) (choice_is_there known last_places memory turn.place.holds turn.place.bytes) one
      in
      let three : includes_all t (with_choice s delegation scene before fetched_spot (values_in memory places)) ≡ true =
      subst (λ (z : Choice). includes_all t (with_choice s delegation scene before fetched_spot z) ≡ true) (values_both memory first_places last_places) two
      in
      chosen_covered (around_delegate t (instruction s delegation last_scene before (chosen (values_in memory places) fetched_spot)) turn.place.start three)

  -- ---- too many choices

  coarse_by : (denied under x y : Bool) (m : Shape) → is_under fetched_frame 2 ≡ under → includes_all t (fails s before.key before.known A03) ≡ true → includes_all t (fails s before.key before.known A06) ≡ true
      → includes_all t (coarse_done (first_cause ((A0A, denied) ∷ (A04, under) ∷ [])) s delegation (record scene.frame { dt = m.dt }) m Leads before fetched_spot) ≡ true
      → (is_under fetched_frame 2 ≡ false → includes_all t (coarse_done None s delegation (record scene.frame { dt = m.dt }) m Leads before fetched_spot) ≡ true → IsRowCovered s u t g loadable leads delegation turn (Does (meaning real_shape fetched_frame turn.public)))
      → IsRowCovered s u t g loadable leads delegation turn (row_end (first_cause ((A06, false) ∷ (A0A, denied) ∷ (A04, under) ∷ (A03, x) ∷ (A06, y) ∷ [])) (meaning real_shape fetched_frame turn.public))
  coarse_by true under x y m is misses long includes rest = fails_by s u t g loadable leads turn.entry turn.history turn.frame turn.public turn.place A0A s.rules.abends before.key refl refl refl includes
  coarse_by false true x y m is misses long includes rest = fails_by s u t g loadable leads turn.entry turn.history turn.frame turn.public turn.place A04 s.rules.abends before.key refl refl refl includes
  coarse_by false false true y m is misses long includes rest = fails_by s u t g loadable leads turn.entry turn.history turn.frame turn.public turn.place A03 s.rules.abends before.key refl refl refl misses
  coarse_by false false false true m is misses long includes rest = fails_by s u t g loadable leads turn.entry turn.history turn.frame turn.public turn.place A06 s.rules.abends before.key refl refl refl long
  coarse_by false false false false m is misses long includes rest = rest is includes

  abbrev around_there : Around
  around_there = coarse_around turn.place.start

  -- the outcomes of a delegation of too many choices, by what its causes and its shape are
  abbrev coarse_of : List (Abend × Bool) → Shape → List Arrival
  coarse_of cs m =
      let c : Coarse = coarse_for m.act Leads in
      (cond (may_miss (Some DelegateTo) c) (fails s before.key before.known A03) [])
      ++ fails s before.key before.known A06
      ++ coarse_done (first_cause (known_causes true cs)) s delegation (record scene.frame { dt = m.dt }) m c before fetched_spot

  coarse_covered : includes_all t (coarse_arrivals s delegation scene before fetched_spot around_there) ≡ true → IsCovered
  coarse_covered includes =
      let f : Frame = fetched_frame in
      let name : List ℕ = name_in scene.frame scene.public in
      let m : Shape = delegating (turn.frame.dt - 2) name in
      let deny : has_bit scene.frame.deny 2 ≡ has_bit f.deny 2 = ap (λ (d : ℕ). has_bit d 2) stands.deny in
      let under : is_under scene.frame 2 ≡ is_under f 2 = same_under scene stands in
      let one : includes_all t (coarse_of (causes delegation scene.frame scene.public around_there) m) ≡ true =
      subst (λ (w : Shape). includes_all t (coarse_of (causes delegation scene.frame scene.public around_there) w) ≡ true) (delegate_shape args scene.frame scene.public around_there) (coarse_form includes)
      in
      let two : includes_all t (coarse_of (causes_in scene.frame scene.public) m) ≡ true = subst (λ (cs : List (Abend × Bool)). includes_all t (coarse_of cs m) ≡ true) (delegate_cause args scene.frame scene.public around_there) one in
      let misses : List Arrival = fails s before.key before.known A03 in
      let long : List Arrival = fails s before.key before.known A06 in
      let known : Bool → Bool → List Arrival = λ x y. coarse_done (first_cause ((A0A, x) ∷ (A04, y) ∷ [])) s delegation (record scene.frame { dt = m.dt }) m Leads before fetched_spot in
      let there : List Arrival = known (has_bit scene.frame.deny 2) (is_under scene.frame 2) in
      let both : includes_all t (misses ++ long) ≡ true = included_first t (misses ++ long) there two in
      let last : includes_all t (known (has_bit f.deny 2) (is_under f 2)) ≡ true =
      subst (λ (b : Bool). includes_all t (known b (is_under f 2)) ≡ true) deny
      (subst (λ (b : Bool). includes_all t (known (has_bit scene.frame.deny 2) b) ≡ true) under (included_second t (misses ++ long) there two))
      in
      let n = count_at (frame_after_pop f 2) turn.public name_at in
      let size = length f.fixed in
      let dt = f.dt - 2 in
      by_causes
      (coarse_by (has_bit f.deny 2) (is_under f 2) (out size dt name_at 1 || (in_range 5 16 n && out size dt (name_at + 1) n)) (not (in_range 5 16 n)) m refl
      (included_first t misses long both) (included_second t misses long both) last
      (λ over more. done_covered turn.place.known name over (record { open_calls = turn.place.open_calls; holds = turn.place.holds; compares = turn.place.compares; keeps = λ on session d. turn.place.keeps session d })
      (included_first t (follows s delegation false (Delegates name) before (settled_spot s (lowered (turn.frame.dt - 2) (spot_with turn.place.known)))) [] more)))
    where
      coarse_form : includes_all t (coarse_arrivals s delegation scene before fetched_spot around_there) ≡ true
          → includes_all t (coarse_of (causes delegation scene.frame scene.public around_there) (shape delegation scene.frame scene.public around_there)) ≡ true
      coarse_form e = e

  covered_by : (o : Option (List Choice)) → few_combinations turn.place.known.bytes first_places ≡ o → includes_all t (by_choices o false s delegation scene before fetched_spot) ≡ true → IsCovered
  covered_by (Some cs) e includes = few_covered cs e includes
  covered_by None e includes = coarse_covered includes

-- the row of a delegation leads from covered places into the tables
pub delegate_lead : (args : List ℕ) → LeadLaw (ins.Prim 0 7 args)
delegate_lead args =
    law_from (ins.Prim 0 7 args) (λ s u t g loadable leads turn names e.
    covered_by s u t g loadable leads args turn (few_combinations turn.place.known.bytes (first_places s u t g loadable leads args turn)) refl e)

-- the row of a delegation is covered
pub delegate_law : DelegateLaw
delegate_law args = of_closed (ins.Prim 0 7 args) (delegate_lead args)
