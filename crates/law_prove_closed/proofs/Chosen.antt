-- An instruction that bytes of the memory decide: one of its outcomes is that of the values that they have; or, if they
-- have too many combinations, its outcomes are the coarse ones.
use Rattle.std.proofs.Common.{◌≡◌, ◌⊎◌, inl, inr, ℕ, ◌+◌, ◌≤◌, Bool, true, false, cond, List, [], ◌∷◌, ◌++◌, length, Option, Some, None, Ok, refl, sym, ap, subst, ◌∙◌, arith}
use Rattle.std.specs.Prelude.{◌&&◌, nat_le, flat_map}
use Rattle.std.specs.List.{AllByRecursion}
use Rattle.std.proofs.lemmas.List.{length-replicate}
use Rattle.law_prove.specs.model_machine.specs.declared.instruction.Ins.{Ins}
use Rattle.law_prove.specs.model_machine.specs.declared.machine.Abend.{Abend}
use Rattle.law_prove.specs.model_machine.specs.declared.machine.Abend.TheVariants.{A03, A06}
use Rattle.law_prove.specs.model_machine.specs.Frame.{Frame, Effect, is_outside, dynamic_base, dynamic_end}
use Rattle.law_prove.specs.model_machine.specs.Primitives.{Around, Primitive, Done, effect_and_next}
use Rattle.law_prove.specs.model_machine.specs.Row.{causes, effect, row, first_cause, row_end, Does}
use Rattle.law_prove.specs.model_machine.specs.Chain.{frame_at}
use Rattle.law_prove.specs.model_machine.specs.Shapes.{Act, Stays, Pushes, Replaces, Shape, act_effect, shape_effect, shape}
use Rattle.law_prove.specs.law_rows.proofs.RowShapes.{shapes}
use Rattle.law_prove.specs.law_bytes.specs.OfBytes.{IsByteEffect}
use Rattle.law_prove.specs.model_rules.specs.Rules.{Target}
use Rattle.law_prove.specs.model_prove.specs.Sets.{Set}
use Rattle.law_prove.specs.model_prove.specs.Facts.{Facts, Memory, Holds}
use Rattle.law_prove.specs.model_prove.specs.Keys.{Start, Delegated, OfClass, PlaceKey, Known, Tables, calls_below}
use Rattle.law_prove.specs.model_prove.specs.Laws.{Among, values_in}
use Rattle.law_prove.specs.model_prove.specs.Splits.{Scene, Choice, stand_in, with_values, deciders, later_deciders, combinations, count_of_combinations, most_combinations, few_if, few_combinations}
use Rattle.law_prove.specs.model_prove.specs.Reach.{Coarse, coarse, is_known_cause, known_causes, may_have_bad_length, may_miss}
use Rattle.law_prove.specs.model_prove.specs.Work.{Work, work}
use Rattle.law_prove.specs.model_prove.specs.Arrivals.{Setting, Arrival, fails}
use Rattle.law_prove.specs.model_prove.specs.Steps.{Spot, lowered, acted, inside, chosen, settled_spot, makes_write, row_arrivals, caused, instruction, arounds, primitive_of, with_choice, with_first_choice, coarse_for, coarse_done, coarse_arrivals, coarse_around, by_choices, fetched, is_return, no_calls}
use Rattle.law_prove.specs.model_rules.specs.Loadable.{IsLoadable}
use Rattle.law_prove.specs.model_prove.specs.Tables.{includes_all}
use Rattle.law_prove.specs.model_prove.proofs.ChangeLemmas.{choice_is_there}
use Rattle.law_prove.specs.Coverings.{frame_memory}
use Rattle.law_prove.specs.Laws.{LeadsInto, LeadLaw}
use Rattle.law_prove.proofs.Closed.{included_first}
use Rattle.law_prove.proofs.Places.{fails_by}
use Rattle.law_prove.proofs.Seen.{FitSets, Seen}
use Rattle.law_prove.proofs.Acts.{spot_of, Led, stays_led, pushes_led, replaces_led, led_covers, lowered_seen}
use Rattle.law_prove.proofs.Turns.{NoCause, like, blank, nobody, stand_in_like, framed_of, frame_of, memory_of_bytes, walked, goes_covered}
use Rattle.law_prove.proofs.Alike.{Sized, stack_length}
use Rattle.law_prove.proofs.Single.{going, Turn, here, there, scene, IsRowCovered, shape_bytes, low_framed, law_from}
use Rattle.law_prove.proofs.Moves.{turn_sized}
use Rattle.law_prove.proofs.Blocks.{Outcome, included_of, among_left, among_right}
use Rattle.law_prove_closed.proofs.Scenes.{drawn, scene_of, scene_memory, IsScene, Agrees, agreeing, all_inside, all_both, among_inside, values_both, Choosing, choosing}

-- a scene with a public segment of zeros
abbrev pub blank_scene : Frame → Scene
blank_scene f = record { frame = f; public = blank }

-- who delegated does not matter to an instruction that does not ask
nobody_asks : (t : Tables) (f : Around → List Arrival) (p : Option Primitive) (start : Start) → arounds Delegated p ≡ arounds Delegated None → includes_all t (flat_map f (arounds start p)) ≡ true → includes_all t (f nobody) ≡ true
nobody_asks t f p Delegated same e = included_first t (f nobody) [] (subst (λ (xs : List Around). includes_all t (flat_map f xs) ≡ true) same e)
nobody_asks t f p (OfClass class) same e = included_first t (f nobody) [] e

-- the coarse outcomes of a row of this shape and these causes
abbrev pub coarse_list : Setting → Ins → Bool → Bool → Shape → List (Abend × Bool) → Coarse → Frame → Spot → Spot → List Arrival
coarse_list s i miss bad h cs c f p q =
    (cond miss (fails s p.key p.known A03) []) ++ (cond bad (fails s p.key p.known A06) []) ++ coarse_done (first_cause (known_causes bad cs)) s i (record f { dt = h.dt }) h c p q

few_is : (b : Bool) (all cs : List Choice) → few_if b all ≡ Some cs → all ≡ cs
few_is true all cs e = cc e
few_is false all cs e = absurd (cc e)

module _ (s : Setting) (u t : Tables) (g : Target) (loadable : IsLoadable s.app) (leads : LeadsInto s u t) (i : Ins) (turn : Turn s u i) where
  -- the places before and after the fetch
  abbrev pub before : Spot
  before = here s u t g loadable leads i turn

  -- the place after the fetch
  abbrev pub after_fetch : Spot
  after_fetch = there s u t g loadable leads i turn

  -- the frame after the fetch, and its bytes
  abbrev pub real : Frame
  real = frame_at turn.frame turn.next

  -- the bytes of the frame before the fetch
  abbrev pub memory : Memory
  memory = frame_memory turn.frame turn.public

  -- the scene that stands for the place
  abbrev pub stand : Scene
  stand = let e = stand_in s.app before.key in record e { frame = frame_at e.frame turn.next }

  -- its bytes that decide
  abbrev pub places : List ℕ
  places = inside stand (deciders i stand.frame)

  -- a row that was done is covered by an outcome that is included
  outcome_covered : (m : Shape) → IsByteEffect (shape_effect m real turn.public) → Outcome s u t g loadable leads i turn m → IsRowCovered s u t g loadable leads i turn (Does (effect_and_next (shape_effect m real turn.public)))
  outcome_covered m bytes o =
      let d : Effect = shape_effect m real turn.public in
      let w = makes_write s turn.frame.protected m.act in
      goes_covered s u t g loadable leads turn.entry turn.history turn.frame turn.public turn.depth turn.place turn.deep i d (settled_spot s o.spot) w (ap (λ (k : PlaceKey). k.start) o.led.key)
      (led_covers s turn.place.start turn.place.standing.allowances o.spot w d o.led) (frame_of s.app d.frame o.led.framed bytes.frame) (memory_of_bytes d.frame d.public bytes.frame bytes.public) bytes.frame.stack o.led.writes o.included

  -- a row with an included outcome that leads to what is seen is covered
  pub outcome_done : (d : ℕ) (a : Act) (fl : Option (Bool × Bool)) → shape i real turn.public turn.around ≡ going d a fl → Outcome s u t g loadable leads i turn (going d a fl)
      → IsRowCovered s u t g loadable leads i turn (Does (effect i real turn.public turn.around))
  outcome_done d a fl is o = grind (arith, going, shapes, IsRowCovered, outcome_covered, shape_bytes)

  -- ---- what is known

  -- the place after the fetch with these facts
  abbrev pub knowing : Facts → Known
  knowing facts = record turn.place.known { bytes = facts }

  -- the spot after the fetch with these facts
  abbrev pub knowing_spot : Facts → Spot
  knowing_spot facts = spot_of turn.place.start turn.place.standing.allowances real turn.place.calls (knowing facts)

  -- if these facts hold, what is known with them is seen
  pub knowing_seen : (facts : Facts) → Holds facts memory → Seen turn.place.calls (knowing facts) real turn.public
  knowing_seen facts h = record { open_calls = turn.place.open_calls; holds = h; compares = turn.place.compares; keeps = λ on session d. turn.place.keeps session d }

  -- so it is once the stack has fewer bytes
  pub knowing_low : (facts : Facts) (d : ℕ) → Holds facts memory → Seen (calls_below d turn.place.calls) (lowered d (knowing_spot facts)).known (record real { dt = d }) turn.public
  knowing_low facts d h = lowered_seen d turn.place.start turn.place.standing.allowances real turn.public turn.place.calls (knowing facts) (knowing_seen facts h)

  -- acts with these facts
  module _ (facts : Facts) (h : Holds facts memory) (d : ℕ) (low : dynamic_base + turn.frame.session ≤ d) (high : d ≤ dynamic_end) where
    -- with these facts an act that does nothing leads to what is seen
    pub knowing_stays : (ss : List Set) → Led s turn.place.start turn.place.standing.allowances (acted s Stays ss (lowered d (knowing_spot facts))) false (act_effect Stays (record real { dt = d }) turn.public)
    knowing_stays ss =
        stays_led s loadable.static turn.place.start turn.place.standing.allowances (record real { dt = d }) turn.public (calls_below d turn.place.calls) (lowered d (knowing_spot facts)).known ss (low_framed s u t g loadable leads i turn d low high) (knowing_low facts d h)

    -- so does a push for which there is room
    pub knowing_pushes : (b : List ℕ) (ss : List Set) → FitSets b ss → d + length b ≤ dynamic_end → Led s turn.place.start turn.place.standing.allowances (acted s (Pushes b) ss (lowered d (knowing_spot facts))) false (act_effect (Pushes b) (record real { dt = d }) turn.public)
    knowing_pushes b ss fit over =
        pushes_led s loadable.static turn.place.start turn.place.standing.allowances (record real { dt = d }) turn.public (calls_below d turn.place.calls) (lowered d (knowing_spot facts)).known b ss fit over (low_framed s u t g loadable leads i turn d low high) (knowing_low facts d h)

    -- so does an act that replaces the top bytes of the stack
    pub knowing_replaces : (b : List ℕ) (ss : List Set) → FitSets b ss → dynamic_base + length b ≤ d → Led s turn.place.start turn.place.standing.allowances (acted s (Replaces b) ss (lowered d (knowing_spot facts))) false (act_effect (Replaces b) (record real { dt = d }) turn.public)
    knowing_replaces b ss fit over =
        replaces_led s loadable.static turn.place.start turn.place.standing.allowances (record real { dt = d }) turn.public (calls_below d turn.place.calls) (lowered d (knowing_spot facts)).known b ss fit over (low_framed s u t g loadable leads i turn d low high) (knowing_low facts d h)

  -- ---- the segments

  -- the segments of the frame after the fetch have their lengths
  pub sized : Sized real turn.public
  sized = turn_sized s u loadable i turn

  -- the scene that stands for the place has the registers of the frame
  pub stand_is : IsScene real stand
  stand_is = grind (arith, like, stand_in_like, framed_of, length-replicate, stack_length)

  -- ---- the choice that the bytes have

  -- The values that the deciding bytes have were followed: in a scene that has these bytes, with facts that hold of the
  -- memory; and in a first one, which has the bytes that decide at first alone.
  pub record Chosen : Type 0 where
    pub fixed : List ℕ
    pub dyn : List ℕ
    pub public : List ℕ
    pub size : length fixed ≡ length turn.frame.fixed
    pub room : length dyn ≡ 512
    pub whole : length public ≡ 1041
    pub facts : Facts
    pub holds : Holds facts memory
    pub included : includes_all t (instruction s i (scene_of real fixed dyn public) before (knowing_spot facts) nobody) ≡ true
    pub agrees : (a : ℕ) → is_outside real a 1 ≡ false → Among a (deciders i stand.frame) → scene_memory (scene_of real fixed dyn public) a ≡ memory a
    pub first : Scene
    pub first_is : IsScene real first
    pub first_agrees : (a : ℕ) → is_outside real a 1 ≡ false → Among a (deciders i stand.frame) → scene_memory first a ≡ memory a
    pub later : (a : ℕ) → is_outside real a 1 ≡ false → Among a (later_deciders i first.frame) → scene_memory (scene_of real fixed dyn public) a ≡ memory a

  -- the scene with the values of the bytes that decide at first
  abbrev first_scene : Scene
  first_scene = with_values stand (values_in memory places)

  -- the bytes that then decide
  abbrev later_places : List ℕ
  later_places = inside first_scene (later_deciders i first_scene.frame)

  first_agreeing : Agrees real stand first_scene memory places
  first_agreeing = agreeing real memory places stand sized.small sized.high (all_inside real stand (deciders i stand.frame) stand_is) stand_is

  -- the scene with the values of both
  abbrev last_scene : Scene
  last_scene = with_values stand (values_in memory (places ++ later_places))

  last_agreeing : Agrees real stand last_scene memory (places ++ later_places)
  last_agreeing =
      agreeing real memory (places ++ later_places) stand sized.small sized.high
      (all_both real places later_places (all_inside real stand (deciders i stand.frame) stand_is) (all_inside real first_scene (later_deciders i first_scene.frame) first_agreeing.scene)) stand_is

  followed : (cs : List Choice) → arounds Delegated (primitive_of i) ≡ arounds Delegated None → few_combinations turn.place.known.bytes places ≡ Some cs → includes_all t (flat_map (with_first_choice s i stand before after_fetch) cs) ≡ true
      → includes_all t (instruction s i last_scene before (chosen (values_in memory (places ++ later_places)) after_fetch) nobody) ≡ true
  followed cs asks few includes =
      let c : Choice = values_in memory places in
      let d : Choice = values_in memory later_places in
      let is : combinations turn.place.known.bytes places ≡ cs = few_is (nat_le (count_of_combinations turn.place.known.bytes places) most_combinations) (combinations turn.place.known.bytes places) cs few in
      let among : Among c cs = subst (λ (l : List Choice). Among c l) is (choice_is_there turn.place.known.bytes places memory turn.place.holds turn.place.bytes) in
      let one : includes_all t (with_first_choice s i stand before after_fetch c) ≡ true = included_of t (with_first_choice s i stand before after_fetch) cs c among includes in
      let two : includes_all t (with_choice s i stand before after_fetch (c ++ d)) ≡ true =
      included_of t (λ d. with_choice s i stand before after_fetch (c ++ d)) (combinations turn.place.known.bytes later_places) d (choice_is_there turn.place.known.bytes later_places memory turn.place.holds turn.place.bytes) one
      in
      let three : includes_all t (instruction s i (with_values stand (c ++ d)) before (chosen (c ++ d) after_fetch) nobody) ≡ true = grind (arith, nobody_asks) in
      subst (λ (b : Choice). includes_all t (instruction s i (with_values stand b) before (chosen b after_fetch) nobody) ≡ true) (values_both memory places later_places) three

  chosen_of : (cs : List Choice) → arounds Delegated (primitive_of i) ≡ arounds Delegated None → few_combinations turn.place.known.bytes places ≡ Some cs → includes_all t (flat_map (with_first_choice s i stand before after_fetch) cs) ≡ true → Chosen
  chosen_of cs asks few includes =
      let all : List ℕ = places ++ later_places in
      let c : Choosing memory all after_fetch = choosing memory all after_fetch turn.place.holds in
      let z : IsScene real last_scene = last_agreeing.scene in
      let at : (a : ℕ) → Among a all → scene_memory (scene_of real z.fixed z.dyn last_scene.public) a ≡ memory a = λ a h. sym (ap (λ (w : Scene). scene_memory w a) z.is) ∙ last_agreeing.there a h in
      record {
        fixed = z.fixed;
        dyn = z.dyn;
        public = last_scene.public;
        size = z.size;
        room = z.room;
        whole = z.whole;
        facts = c.facts;
        holds = c.holds;
        included = grind (arith, nobody, followed);
        agrees = λ a there h. at a (among_left a places later_places (among_inside real stand a (deciders i stand.frame) stand_is there h));
        first = first_scene;
        first_is = first_agreeing.scene;
        first_agrees = λ a there h. first_agreeing.there a (among_inside real stand a (deciders i stand.frame) stand_is there h);
        later = λ a there h. at a (among_right a places later_places (among_inside real first_scene a (later_deciders i first_scene.frame) first_agreeing.scene there h));
      }

  -- a row with the values that decide it: its first cause is the machine's, and if it has none it was done
  pub chosen_row : (z : Chosen) → first_cause (causes i (drawn real z.fixed z.dyn) z.public nobody) ≡ first_cause (causes i real turn.public turn.around)
      → (NoCause (causes i real turn.public turn.around)
      → includes_all t (row_arrivals (is_return (shape i (drawn real z.fixed z.dyn) z.public nobody).act && no_calls turn.place.calls) s i (shape i (drawn real z.fixed z.dyn) z.public nobody) (work i (drawn real z.fixed z.dyn) z.public) before (knowing_spot z.facts)) ≡ true
      → IsRowCovered s u t g loadable leads i turn (Does (effect i real turn.public turn.around)))
      → IsRowCovered s u t g loadable leads i turn (row i real turn.public turn.around)
  unfolding row
  chosen_row z same done =
      let m : Shape = shape i (drawn real z.fixed z.dyn) z.public nobody in
      let w : Work = work i (drawn real z.fixed z.dyn) z.public in
      walked s u t g loadable leads turn.entry turn.history turn.frame turn.public turn.depth turn.place turn.deep i (knowing_spot z.facts) (causes i real turn.public turn.around) m w (effect i real turn.public turn.around)
      (subst (λ (o : Option Abend). includes_all t (caused o s i m w before (knowing_spot z.facts)) ≡ true) same z.included) done

  -- ---- too many combinations

  -- the coarse outcomes are included
  abbrev pub IsCoarse : Type 0
  IsCoarse = includes_all t (coarse_arrivals s i (blank_scene (scene s u t g loadable leads i turn)) before after_fetch (coarse_around turn.place.start)) ≡ true

  -- causes that the key does not decide are among the outcomes
  abbrev pub AreIncluded : Bool → List (Abend × Bool) → Type 0
  AreIncluded bad cs = AllByRecursion (λ c. is_known_cause bad c.0 ≡ false → includes_all t (fails s before.key before.known c.0) ≡ true) cs

  abend_covered : (c : Abend) → includes_all t (fails s before.key before.known c) ≡ true → (d : Done) → IsRowCovered s u t g loadable leads i turn (row_end (Some c) d)
  abend_covered c includes d = fails_by s u t g loadable leads turn.entry turn.history turn.frame turn.public turn.place c s.rules.abends before.key refl refl refl includes

  module _ (bad : Bool) (h : Shape) (c : Coarse) (fr : Frame) (d : Done) where
    coarse_by : (k b : Bool) (a : Abend) (cs : List (Abend × Bool)) → is_known_cause bad a ≡ k → (is_known_cause bad a ≡ false → includes_all t (fails s before.key before.known a) ≡ true)
        → includes_all t (coarse_done (first_cause (cond k ((a, b) ∷ known_causes bad cs) (known_causes bad cs))) s i fr h c before after_fetch) ≡ true
        → (b ≡ false → includes_all t (coarse_done (first_cause (known_causes bad cs)) s i fr h c before after_fetch) ≡ true → IsRowCovered s u t g loadable leads i turn (row_end (first_cause cs) d))
        → IsRowCovered s u t g loadable leads i turn (row_end (cond b (Some a) (first_cause cs)) d)
    coarse_by true true a cs e unknown includes rest = abend_covered a includes d
    coarse_by true false a cs e unknown includes rest = rest refl includes
    coarse_by false true a cs e unknown includes rest = abend_covered a (unknown e) d
    coarse_by false false a cs e unknown includes rest = rest refl includes

    coarse_walked : (cs : List (Abend × Bool)) → AreIncluded bad cs → includes_all t (coarse_done (first_cause (known_causes bad cs)) s i fr h c before after_fetch) ≡ true
        → (NoCause cs → includes_all t (coarse_done None s i fr h c before after_fetch) ≡ true → IsRowCovered s u t g loadable leads i turn (Does d)) → IsRowCovered s u t g loadable leads i turn (row_end (first_cause cs) d)
    coarse_walked [] unknown includes done = done tt includes
    coarse_walked (x ∷ cs) unknown includes done =
        coarse_by (is_known_cause bad x.0) x.1 x.0 cs refl unknown.0 includes (λ none more. coarse_walked cs unknown.1 more (λ others. done (none, others)))

  -- a row by its causes: each that the key does not decide is included, and those that it decides are the machine's
  pub coarse_row : (bad : Bool) (h : Shape) (c : Coarse) (fr : Frame) (cs : List (Abend × Bool)) → causes i real turn.public turn.around ≡ cs → AreIncluded bad cs
      → includes_all t (coarse_done (first_cause (known_causes bad cs)) s i fr h c before after_fetch) ≡ true
      → (NoCause cs → includes_all t (coarse_done None s i fr h c before after_fetch) ≡ true → IsRowCovered s u t g loadable leads i turn (Does (effect i real turn.public turn.around)))
      → IsRowCovered s u t g loadable leads i turn (row i real turn.public turn.around)
  unfolding row
  coarse_row bad h c fr cs is unknown includes done =
      subst (λ (z : List (Abend × Bool)). IsRowCovered s u t g loadable leads i turn (row_end (first_cause z) (effect i real turn.public turn.around))) (sym is)
      (coarse_walked bad h c fr (effect i real turn.public turn.around) cs unknown includes done)

  -- the coarse outcomes, by what the row is
  pub rough_is : (miss bad : Bool) (h : Shape) (cs : List (Abend × Bool)) (c : Coarse) → let l : Frame = scene s u t g loadable leads i turn in let x : Around = coarse_around turn.place.start in
      may_have_bad_length (primitive_of i) ≡ bad → shape i l blank x ≡ h → coarse_for h.act (coarse i l turn.place.known.bytes) ≡ c → may_miss (primitive_of i) c ≡ miss → causes i l blank x ≡ cs → IsCoarse
      → includes_all t (coarse_list s i miss bad h cs c l before after_fetch) ≡ true
  rough_is miss bad h cs c bad_is form rough miss_is cause includes = grind (arith, scene, blank)

  -- ---- both

  coarse_of : includes_all t (coarse_arrivals s i stand before after_fetch (coarse_around turn.place.start)) ≡ true → IsCoarse
  coarse_of includes = grind (arith, stand_in_like, framed_of)

  -- included choices have the one of the memory, or are too many and coarse
  pub split_by : (o : Option (List Choice)) → arounds Delegated (primitive_of i) ≡ arounds Delegated None → few_combinations turn.place.known.bytes places ≡ o → includes_all t (by_choices o false s i stand before after_fetch) ≡ true
      → Chosen ⊎ ((few_combinations turn.place.known.bytes places ≡ None) × IsCoarse)
  split_by (Some cs) asks few includes = inl (chosen_of cs asks few includes)
  split_by None asks few includes = inr (few, coarse_of includes)

-- An instruction is covered with the values that decide it, and coarsely.
pub record IsDecided (i : Ins) : Type 0 where
  pub asks : arounds Delegated (primitive_of i) ≡ arounds Delegated None
  pub few : (s : Setting) (u t : Tables) (g : Target) (loadable : IsLoadable s.app) (leads : LeadsInto s u t) (turn : Turn s u i) → Chosen s u t g loadable leads i turn
      → IsRowCovered s u t g loadable leads i turn (row i (frame_at turn.frame turn.next) turn.public turn.around)
  pub many : (s : Setting) (u t : Tables) (g : Target) (loadable : IsLoadable s.app) (leads : LeadsInto s u t) (turn : Turn s u i)
      → few_combinations turn.place.known.bytes (places s u t g loadable leads i turn) ≡ None → IsCoarse s u t g loadable leads i turn
      → IsRowCovered s u t g loadable leads i turn (row i (frame_at turn.frame turn.next) turn.public turn.around)

-- what was fetched is the choices of the deciding bytes, and no target
abbrev pub IsSplit : Ins → Type 0
IsSplit i =
    (s : Setting) (u t : Tables) (g : Target) (loadable : IsLoadable s.app) (leads : LeadsInto s u t) (turn : Turn s u i) → includes_all t (fetched s (before s u t g loadable leads i turn) (Ok (i, turn.next))) ≡ true
    → includes_all t (by_choices (few_combinations turn.place.known.bytes (places s u t g loadable leads i turn)) false s i (stand s u t g loadable leads i turn) (before s u t g loadable leads i turn) (after_fetch s u t g loadable leads i turn)) ≡ true

-- such an instruction is covered in each of its turns
pub law_of : (i : Ins) → IsSplit i → IsDecided i → LeadLaw i
law_of i split decided =
    law_from i (λ s u t g loadable leads turn names e.
    elim (split_by s u t g loadable leads i turn (few_combinations turn.place.known.bytes (places s u t g loadable leads i turn)) decided.asks refl (split s u t g loadable leads turn e)) [
      | inl chosen ↦ decided.few s u t g loadable leads turn chosen
      | inr coarse ↦ decided.many s u t g loadable leads turn coarse.0 coarse.1
    ])
