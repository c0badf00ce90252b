-- JUMP and CALL to a place that the stack has: the two bytes on its top are one of the choices that are followed.
use Rattle.std.proofs.Common.{◌≡◌, ◌⊎◌, inl, inr, ℕ, suc, ◌+◌, ◌-◌, ◌*◌, ◌/◌, ◌%◌, ◌<◌, ◌≤◌, Bool, true, false, cond, List, [], ◌∷◌, ◌++◌, length, Option, Some, None, refl, sym, ap, subst, ◌∙◌, arith}
use Rattle.std.specs.Prelude.{◌&&◌, not, nat_lt, nat_le, flat_map, slice_index}
use Rattle.std.proofs.lemmas.Bool.{ltb-true, ltb-false, false_from_ne_true}
use Rattle.std.proofs.lemmas.List.{length-replicate}
use Rattle.law_prove.specs.model_device.specs.Bytes.{num}
use Rattle.law_prove.specs.model_machine.specs.declared.instruction.Ins.{Ins}
use Rattle.law_prove.specs.model_machine.specs.declared.instruction.Ins.TheVariants as ins
use Rattle.law_prove.specs.model_machine.specs.declared.machine.Abend.{Abend}
use Rattle.law_prove.specs.model_machine.specs.declared.machine.Abend.TheVariants.{A02, A04, A05}
use Rattle.law_prove.specs.model_machine.specs.Frame.{Frame, Effect, dynamic_base, dynamic_end, public_base, floor, is_under, top, static_bytes}
use Rattle.law_prove.specs.model_machine.specs.Primitives.{Around}
use Rattle.law_prove.specs.model_machine.specs.Row.{causes, row, first_cause, Does}
use Rattle.law_prove.specs.model_machine.specs.Chain.{frame_at}
use Rattle.law_prove.specs.model_machine.specs.Shapes.{Act, Jumps, Calls, Shape, act_effect, shape_effect, meaning, shape}
use Rattle.law_prove.specs.law_bytes.specs.OfBytes.{IsByteEffect}
use Rattle.law_prove.specs.model_rules.specs.Rules.{Target}
use Rattle.law_prove.specs.model_rules.specs.Keeping.{Amounts}
use Rattle.law_prove.specs.model_prove.specs.Sets.{Set, is_in}
use Rattle.law_prove.specs.model_prove.specs.Facts.{Memory, Holds, values_at, know}
use Rattle.law_prove.specs.model_prove.specs.Keys.{Start, Call, PlaceKey, Known, Tables, calls_below}
use Rattle.law_prove.specs.model_prove.specs.Laws.{Among, HoldsBytes, values_in}
use Rattle.law_prove.specs.model_prove.specs.Splits.{Scene, Choice, stand_in, with_values, top_places, combinations, count_of_combinations, most_combinations, few_if, few_combinations}
use Rattle.law_prove.specs.model_prove.specs.Reach.{target_choices, greatest_value, address_choice}
use Rattle.law_prove.specs.model_prove.specs.Work.{Work, AsShaped, work}
use Rattle.law_prove.specs.model_prove.specs.Arrivals.{Setting, Arrival, static_size, fails}
use Rattle.law_prove.specs.model_prove.specs.Steps.{Spot, lowered, acted, settled_spot, makes_write, row_arrivals, caused, instruction, arounds, chosen, inside, by_choices, is_return, no_calls, returned_sets}
use Rattle.law_prove.specs.model_rules.specs.Loadable.{IsLoadable}
use Rattle.law_prove.specs.model_prove.specs.Tables.{includes_all}
use Rattle.law_prove.specs.model_prove.proofs.ChangeLemmas.{written_holds, choice_is_there}
use Rattle.law_prove.specs.model_prove.proofs.FactLemmas.{value_holds}
use Rattle.law_prove.specs.model_prove.proofs.SetLemmas.{is_first}
use Rattle.law_prove.specs.Coverings.{frame_memory, IsFrameOf}
use Rattle.law_prove.specs.Laws.{LeadsInto, LeadLaw}
use Rattle.law_prove.proofs.Alike.{stack_length}
use Rattle.law_prove.proofs.Closed.{included_first, included_second}
use Rattle.law_prove.proofs.Known.{around_none}
use Rattle.law_prove.proofs.Parts.{memory_dynamic}
use Rattle.law_prove.proofs.Places.{fails_by}
use Rattle.law_prove.proofs.Seen.{Seen}
use Rattle.law_prove.proofs.Acts.{spot_of, Framed, Led, jumps_led, calls_led, led_covers, lowered_seen}
use Rattle.law_prove.proofs.Turns.{frame_of, memory_of_bytes, NoCause, nobody, goes_covered, walked}
use Rattle.law_prove.proofs.Single.{going, one_shaped, Turn, here, there, IsRowCovered, row_is, shape_bytes, law_from}
use Rattle.law_prove.specs.TargetLaws.{TargetLaw}
use Rattle.law_prove.proofs.Scenes.{SameRegisters, values_same, two_values, two_bytes, top_number, scene_number, both_inside, target_inside, target_outside}

-- ---- rows to a target

-- the causes of a row to a target, by DT, the session bytes, the code and the target
abbrev target_causes : (ℕ → List (Abend × Bool)) → Frame → ℕ → List (Abend × Bool)
target_causes rest f v = (A04, is_under f 2) ∷ (A02, not (nat_lt v f.code_len)) ∷ rest (f.dt - 2)

-- An instruction that goes on at the address on top of the stack: what it does there, and which causes it has besides.
record IsTargeted (i : Ins) (act : ℕ → Act) (rest : ℕ → List (Abend × Bool)) : Type 0 where
  cause : (f : Frame) (public : List ℕ) (x : Around) → causes i f public x ≡ target_causes rest f (num (top f 2))
  shaped : (f : Frame) (public : List ℕ) (x : Around) → shape i f public x ≡ going (f.dt - 2) (act (num (top f 2))) None
  works : (f : Frame) (public : List ℕ) → work i f public ≡ AsShaped
  other : (v : ℕ) → is_return (act v) ≡ false
  led : (s : Setting) (small : static_size s ≤ dynamic_base) (st : Start) (al : Amounts) (f : Frame) (public : List ℕ) (calls : List Call) (k : Known) (ss : List Set) (v : ℕ) → NoCause (rest f.dt) → f.at < 65536 → Framed s.app f → Seen calls k f public
      → Led s st al (acted s (act v) ss (spot_of st al f calls k)) (makes_write s f.protected (act v)) (act_effect (act v) f public)

-- the outcomes of such a row, by whether there are few choices
abbrev targets_of : Option (List Choice) → Setting → Ins → Scene → Spot → Spot → List Arrival
targets_of (Some cs) s i z p q = flat_map (λ c. flat_map (instruction s i (with_values z (c ++ [])) p (chosen (c ++ []) q)) (arounds p.key.start None) ++ []) cs
targets_of None s i z p q = flat_map (λ c. flat_map (instruction s i (with_values z c) p (chosen c q)) (arounds p.key.start None)) (target_choices p.known.bytes (p.key.dt - 2) (length s.app.code))

-- an outcome of a choice among some
one_of : (t : Tables) (f : Choice → List Arrival) (c : Choice) (cs : List Choice) → Among c cs → includes_all t (flat_map f cs) ≡ true → includes_all t (f c) ≡ true
one_of t f c [] a e = absurd a
one_of t f c (d ∷ cs) a e =
    elim a [
      | inl is ↦ rw (← is) (included_first t (f d) (flat_map f cs) e)
      | inr more ↦ one_of t f c cs more (included_second t (f d) (flat_map f cs) e)
    ]

-- the first cause of such a row

first_under : (rest : ℕ → List (Abend × Bool)) (f : Frame) (v : ℕ) → is_under f 2 ≡ true → first_cause (target_causes rest f v) ≡ Some A04
first_under rest f v e = ap (λ (b : Bool). cond {A = Option Abend} b (Some A04) (first_cause ((A02, not (nat_lt v f.code_len)) ∷ rest (f.dt - 2)))) e

first_outside : (rest : ℕ → List (Abend × Bool)) (f : Frame) (v : ℕ) → is_under f 2 ≡ false → f.code_len ≤ v → first_cause (target_causes rest f v) ≡ Some A02
first_outside rest f v e more =
    let none : nat_lt v f.code_len ≡ false = false_from_ne_true (nat_lt v f.code_len) (λ is. let less = ltb-true v f.code_len is in omega (arith, more, less)) in
    ap (λ (b : Bool). cond {A = Option Abend} b (Some A04) (first_cause ((A02, not (nat_lt v f.code_len)) ∷ rest (f.dt - 2)))) e
    ∙ ap (λ (b : Bool). cond {A = Option Abend} (not b) (Some A02) (first_cause (rest (f.dt - 2)))) none

module _ (s : Setting) (u t : Tables) (g : Target) (loadable : IsLoadable s.app) (leads : LeadsInto s u t) (i : Ins) (act : ℕ → Act) (rest : ℕ → List (Abend × Bool)) (targeted : IsTargeted i act rest) (turn : Turn s u i) where
  abbrev before : Spot
  before = here s u t g loadable leads i turn

  abbrev fetched_spot : Spot
  fetched_spot = there s u t g loadable leads i turn

  -- the frame after the fetch, and its bytes
  abbrev fetched_frame : Frame
  fetched_frame = frame_at turn.frame turn.next

  abbrev memory : Memory
  memory = frame_memory fetched_frame turn.public

  -- the place of the target, and its two bytes
  abbrev place : ℕ
  place = turn.frame.dt - 2

  abbrev high_byte : ℕ
  high_byte = memory place

  abbrev low_byte : ℕ
  low_byte = memory (suc place)

  abbrev pair : Choice
  pair = (place, high_byte) ∷ (suc place, low_byte) ∷ []

  -- the scene that stands for the place
  abbrev scene : Scene
  scene = let e = stand_in s.app before.key in record e { frame = frame_at e.frame turn.next }

  holds : Holds turn.place.known.bytes memory
  holds = turn.place.holds

  bytes : HoldsBytes memory
  bytes = turn.place.bytes

  first_in : is_in high_byte (values_at turn.place.known.bytes place) ≡ true
  first_in = value_holds turn.place.known.bytes memory place holds (bytes place)

  second_in : is_in low_byte (values_at turn.place.known.bytes (suc place)) ≡ true
  second_in = value_holds turn.place.known.bytes memory (suc place) holds (bytes (suc place))

  -- ---- an outcome that is followed

  abbrev IsFollowed : Choice → Type 0
  IsFollowed c = includes_all t (instruction s i (with_values scene c) before (chosen c fetched_spot) nobody) ≡ true

  few_is : (b : Bool) (all cs : List Choice) → few_if b all ≡ Some cs → all ≡ cs
  few_is true all cs e = cc e
  few_is false all cs e = absurd (cc e)

  few_followed : (places : List ℕ) (cs : List Choice) → few_combinations turn.place.known.bytes places ≡ Some cs → includes_all t (targets_of (Some cs) s i scene before fetched_spot) ≡ true → IsFollowed (values_in memory places ++ [])
  few_followed places cs e includes =
      let c : Choice = values_in memory places in
      let is : combinations turn.place.known.bytes places ≡ cs = few_is (nat_le (count_of_combinations turn.place.known.bytes places) most_combinations) (combinations turn.place.known.bytes places) cs e in
      let among : Among c cs = rw (← is) (choice_is_there turn.place.known.bytes places memory holds bytes) in
      let one = one_of t (λ c. flat_map (instruction s i (with_values scene (c ++ [])) before (chosen (c ++ []) fetched_spot)) (arounds before.key.start None) ++ []) c cs among includes in
      let all = flat_map (instruction s i (with_values scene (c ++ [])) before (chosen (c ++ []) fetched_spot)) (arounds before.key.start None) in
      around_none t (instruction s i (with_values scene (c ++ [])) before (chosen (c ++ []) fetched_spot)) before.key.start (included_first t all [] one)

  many_followed : (c : Choice) → Among c (target_choices turn.place.known.bytes place (length s.app.code)) → includes_all t (targets_of None s i scene before fetched_spot) ≡ true → IsFollowed c
  many_followed c among includes =
      around_none t (instruction s i (with_values scene c) before (chosen c fetched_spot)) before.key.start
      (one_of t (λ c. flat_map (instruction s i (with_values scene c) before (chosen c fetched_spot)) (arounds before.key.start None)) c (target_choices turn.place.known.bytes place (length s.app.code)) among includes)

  abbrev most : ℕ
  most = greatest_value (values_at turn.place.known.bytes place) * 256 + greatest_value (values_at turn.place.known.bytes (suc place))

  -- a target that is not in the code, if one is followed in its place
  record Outside : Type 0 where
    real : length s.app.code ≤ high_byte * 256 + low_byte
    stands : length s.app.code ≤ most
    is : IsFollowed (address_choice place most)

  many_by : (b : Bool) → nat_lt (high_byte * 256 + low_byte) (length s.app.code) ≡ b → includes_all t (targets_of None s i scene before fetched_spot) ≡ true → IsFollowed pair ⊎ Outside
  many_by true e includes =
      inl (many_followed pair (target_inside turn.place.known.bytes place (length s.app.code) high_byte low_byte (bytes place) (bytes (suc place)) first_in second_in (ltb-true (high_byte * 256 + low_byte) (length s.app.code) e)) includes)
  many_by false e includes =
      let more = ltb-false (high_byte * 256 + low_byte) (length s.app.code) e in
      let out = target_outside turn.place.known.bytes place (length s.app.code) high_byte low_byte first_in second_in more in
      inr (record { real = more; stands = out.0; is = many_followed (address_choice place most) out.1 includes })

  -- some outcome, whatever lies inside
  record SomeOutcome : Type 0 where
    choice : Choice
    is : IsFollowed choice

  some_by : (places : List ℕ) (o : Option (List Choice)) → few_combinations turn.place.known.bytes places ≡ o → includes_all t (targets_of o s i scene before fetched_spot) ≡ true → SomeOutcome
  some_by places (Some cs) e includes = record { choice = values_in memory places ++ []; is = few_followed places cs e includes }
  some_by places None e includes =
      elim (many_by (nat_lt (high_byte * 256 + low_byte) (length s.app.code)) refl includes) [
        | inl is ↦ record { choice = pair; is = is }
        | inr out ↦ record { choice = address_choice place most; is = out.is }
      ]

  pair_by : (places : List ℕ) (o : Option (List Choice)) → places ≡ place ∷ suc place ∷ [] → few_combinations turn.place.known.bytes places ≡ o → includes_all t (targets_of o s i scene before fetched_spot) ≡ true → IsFollowed pair ⊎ Outside
  pair_by places (Some cs) both e includes = inl (subst (λ (l : List ℕ). IsFollowed (values_in memory l ++ [])) both (few_followed places cs e includes))
  pair_by places None both e includes = many_by (nat_lt (high_byte * 256 + low_byte) (length s.app.code)) refl includes

  -- ---- abends

  abbrev number : ℕ
  number = num (top fetched_frame 2)

  abbrev real_shape : Shape
  real_shape = going (turn.frame.dt - 2) (act number) None

  abends_by : (c : Abend) → first_cause (target_causes rest fetched_frame number) ≡ Some c → includes_all t (fails s before.key before.known c) ≡ true
      → IsRowCovered s u t g loadable leads i turn (row i fetched_frame turn.public turn.around)
  abends_by c first includes =
      let p = turn.place in
      rw (← row_is s u t g loadable leads i turn (target_causes rest fetched_frame number) real_shape (targeted.cause fetched_frame turn.public turn.around) (targeted.shaped fetched_frame turn.public turn.around), first)
      (fails_by s u t g loadable leads turn.entry turn.history turn.frame turn.public p c s.rules.abends before.key refl refl refl includes)

  -- an outcome by the first cause in a scene
  failed_in : (z : Scene) (q : Spot) (c : Abend) → first_cause (target_causes rest z.frame (num (top z.frame 2))) ≡ Some c → includes_all t (instruction s i z before q nobody) ≡ true → includes_all t (fails s before.key before.known c) ≡ true
  failed_in z q c first includes =
      let m = shape i z.frame z.public nobody in
      let w = work i z.frame z.public in
      subst (λ (o : Option Abend). includes_all t (caused o s i m w before q) ≡ true) (ap first_cause (targeted.cause z.frame z.public nobody) ∙ first) includes

  session_is : s.app.session ≡ turn.frame.session
  session_is = let frame : IsFrameOf s.app turn.frame = turn.place.frame in sym frame.session

  code_is : length s.app.code ≡ turn.frame.code_len
  code_is = let frame : IsFrameOf s.app turn.frame = turn.place.frame in sym frame.code

  -- a frame with the registers of the scene is under exactly if the frame is
  under_same : (e : Frame) → SameRegisters e scene.frame → is_under e 2 ≡ is_under fetched_frame 2
  under_same e same =
      ap (λ (n : ℕ). nat_lt n (dynamic_base + e.session + 2)) same.dt ∙ ap (λ (n : ℕ). nat_lt turn.frame.dt (dynamic_base + n + 2)) (same.session ∙ session_is)

  under_covered : is_under fetched_frame 2 ≡ true → SomeOutcome → IsRowCovered s u t g loadable leads i turn (row i fetched_frame turn.public turn.around)
  under_covered under o =
      let z : Scene = with_values scene o.choice in
      abends_by A04 (first_under rest fetched_frame number under)
      (failed_in z (chosen o.choice fetched_spot) A04 (first_under rest z.frame (num (top z.frame 2)) (under_same z.frame (values_same o.choice scene) ∙ under)) o.is)

  -- ---- a target

  module _ (over : is_under fetched_frame 2 ≡ false) where
    above : dynamic_base + turn.frame.session + 2 ≤ turn.frame.dt
    above = ltb-false turn.frame.dt (floor fetched_frame + 2) over

    top_low : turn.frame.dt ≤ dynamic_end
    top_low = let frame : IsFrameOf s.app turn.frame = turn.place.frame in frame.high

    small : length scene.frame.fixed ≤ dynamic_base
    small = let is = length-replicate {A = ℕ} (length s.app.fixed) 0 in let low : length s.app.fixed ≤ dynamic_base = loadable.static in omega (arith, is, low)

    stack_size : length scene.frame.dyn ≡ 512
    stack_size = stack_length (dynamic_base + turn.frame.session) turn.frame.dt turn.frame.lb turn.frame.dyn turn.place.calls (omega arith) top_low turn.place.open_calls

    static_low : length turn.frame.fixed ≤ dynamic_base
    static_low =
        let frame : IsFrameOf s.app turn.frame = turn.place.frame in
        let size : length turn.frame.fixed ≡ length s.app.fixed = frame.size in
        subst (λ (n : ℕ). n ≤ dynamic_base) (sym size) loadable.static

    byte_is : (a : ℕ) → dynamic_base ≤ a → a < public_base → memory a ≡ slice_index turn.frame.dyn (a - dynamic_base)
    byte_is a low high = memory_dynamic (length turn.frame.fixed) (static_bytes fetched_frame) turn.frame.dyn turn.public a static_low low high

    -- the target is the number of its two bytes
    number_is : number ≡ high_byte * 256 + low_byte
    number_is =
        let frame : IsFrameOf s.app turn.frame = turn.place.frame in
        let room : length turn.frame.dyn ≡ 512 = frame.room in
        let enough = above in
        let highest = top_low in
        let next : suc (turn.frame.dt - 2 - dynamic_base) ≡ suc place - dynamic_base = omega (arith, enough) in
        top_number fetched_frame (omega (arith, enough)) (omega (arith, highest, room))
        ∙ (ap (λ (v : ℕ). v * 256 + slice_index turn.frame.dyn (suc (turn.frame.dt - 2 - dynamic_base))) (sym (byte_is place (omega (arith, enough)) (omega (arith, highest))))
        ∙ ap (λ (v : ℕ). high_byte * 256 + v) (ap (λ (j : ℕ). slice_index turn.frame.dyn j) next ∙ sym (byte_is (suc place) (omega (arith, enough)) (omega (arith, highest, enough)))))

    values_are : (x y : ℕ) → with_values scene ((place, x) ∷ (suc place, y) ∷ []) ≡ two_values scene place x y
    values_are x y = let enough = above in let highest = top_low in two_bytes scene place x y small (omega (arith, enough)) (omega (arith, highest, enough))

    scene_is : (x y : ℕ) → num (top (two_values scene place x y).frame 2) ≡ x * 256 + y
    scene_is x y = let enough = above in let highest = top_low in let size = stack_size in scene_number scene place x y refl (omega (arith, enough)) (omega (arith, highest, size))

    outside_covered : Outside → IsRowCovered s u t g loadable leads i turn (row i fetched_frame turn.public turn.around)
    outside_covered out =
        let x = most / 256 in
        let y = most % 256 in
        let z : Scene = two_values scene place x y in
        let whole : x * 256 + y ≡ most = omega arith in
        let code : length s.app.code ≡ turn.frame.code_len = code_is in
        let reach : length s.app.code ≤ most = out.stands in
        let real : length s.app.code ≤ high_byte * 256 + low_byte = out.real in
        let is = number_is in
        let follows_it : includes_all t (instruction s i z before (chosen (address_choice place most) fetched_spot) nobody) ≡ true =
        subst (λ (w : Scene). includes_all t (instruction s i w before (chosen (address_choice place most) fetched_spot) nobody) ≡ true) (values_are x y) out.is
        in
        let stood = scene_is x y in
        abends_by A02 (first_outside rest fetched_frame number over (omega (arith, code, real, is)))
        (failed_in z (chosen (address_choice place most) fetched_spot) A02 (first_outside rest z.frame (num (top z.frame 2)) (under_same z.frame (record { dt = refl; session = refl; code = refl }) ∙ over) (omega (arith, stood, whole, reach))) follows_it)

    -- ---- the place of a target

    abbrev known_pair : Known
    known_pair = record turn.place.known { bytes = know (suc place) (low_byte ∷ []) (know place (high_byte ∷ []) turn.place.known.bytes) }

    pair_holds : Holds known_pair.bytes memory
    pair_holds =
        written_holds (suc place) ((low_byte ∷ []) ∷ []) (know place (high_byte ∷ []) turn.place.known.bytes) memory memory (λ b outside. refl) (is_first low_byte [], tt)
        (written_holds place ((high_byte ∷ []) ∷ []) turn.place.known.bytes memory memory (λ b outside. refl) (is_first high_byte [], tt) holds)

    pair_seen : Seen turn.place.calls known_pair fetched_frame turn.public
    pair_seen = record { open_calls = turn.place.open_calls; holds = pair_holds; compares = turn.place.compares; keeps = λ on session d. turn.place.keeps session d }

    abbrev pair_spot : Spot
    pair_spot = spot_of turn.place.start turn.place.standing.allowances fetched_frame turn.place.calls known_pair

    abbrev low_frame : Frame
    low_frame = record fetched_frame { dt = place }

    low_framed : Framed s.app low_frame
    low_framed =
        let frame : IsFrameOf s.app turn.frame = turn.place.frame in
        let enough = above in
        let highest = top_low in
        record { code = frame.code; deny = frame.deny; session = frame.session; size = frame.size; room = frame.room; inside = frame.inside; settled = frame.settled; low = omega (arith, enough); high = omega (arith, highest); base = frame.base }

    abbrev moved : List Set → Spot
    moved ss = acted s (act number) ss (lowered place pair_spot)

    moved_led : (ss : List Set) → NoCause (rest place) → Led s turn.place.start turn.place.standing.allowances (moved ss) (makes_write s turn.frame.protected (act number)) (act_effect (act number) low_frame turn.public)
    moved_led ss none =
        let inside : turn.next ≤ length s.app.code = turn.inside in
        let places : length s.app.code < 65536 = loadable.places in
        targeted.led s loadable.static turn.place.start turn.place.standing.allowances low_frame turn.public (calls_below place turn.place.calls) (lowered place pair_spot).known ss number none (omega (arith, inside, places)) low_framed
        (lowered_seen place turn.place.start turn.place.standing.allowances fetched_frame turn.public turn.place.calls known_pair pair_seen)

    goes_there : NoCause (target_causes rest fetched_frame number) → includes_all t (row_arrivals (is_return (act number) && no_calls turn.place.calls) s i real_shape AsShaped before pair_spot) ≡ true
        → IsRowCovered s u t g loadable leads i turn (Does (meaning real_shape fetched_frame turn.public))
    goes_there none all =
        let p = turn.place in
        let ss : List Set = returned_sets (act number) known_pair.bytes turn.frame.dt in
        let w = makes_write s turn.frame.protected (act number) in
        let d : Effect = act_effect (act number) low_frame turn.public in
        let led = moved_led ss none.1.1 in
        let byte_effect : IsByteEffect (shape_effect real_shape fetched_frame turn.public) = shape_bytes s u t g loadable leads i turn real_shape (targeted.shaped fetched_frame turn.public turn.around) turn.after in
        let plain : includes_all t (row_arrivals false s i real_shape AsShaped before pair_spot) ≡ true = subst (λ (b : Bool). includes_all t (row_arrivals (b && no_calls p.calls) s i real_shape AsShaped before pair_spot) ≡ true) (targeted.other number) all in
        goes_covered s u t g loadable leads turn.entry turn.history turn.frame turn.public turn.depth p turn.deep i d (settled_spot s (moved ss)) w (ap (λ (k : PlaceKey). k.start) led.key)
        (led_covers s p.start p.standing.allowances (moved ss) w d led) (frame_of s.app d.frame led.framed byte_effect.frame) (memory_of_bytes d.frame d.public byte_effect.frame byte_effect.public) byte_effect.frame.stack led.writes
        (one_shaped s t i place (act number) None before pair_spot plain)

    pair_covered : IsFollowed pair → IsRowCovered s u t g loadable leads i turn (row i fetched_frame turn.public turn.around)
    pair_covered followed =
        let p = turn.place in
        let z : Scene = two_values scene place high_byte low_byte in
        let cs : List (Abend × Bool) = target_causes rest fetched_frame number in
        let at_scene : includes_all t (instruction s i z before pair_spot nobody) ≡ true = subst (λ (w : Scene). includes_all t (instruction s i w before pair_spot nobody) ≡ true) (values_are high_byte low_byte) followed in
        let same : num (top z.frame 2) ≡ number = scene_is high_byte low_byte ∙ sym number_is in
        let cause : causes i z.frame z.public nobody ≡ cs =
        targeted.cause z.frame z.public nobody
        ∙ (ap (λ (v : ℕ). target_causes rest z.frame v) same
        ∙ (ap (λ (n : ℕ). (A04, nat_lt turn.frame.dt (dynamic_base + n + 2)) ∷ (A02, not (nat_lt number (length s.app.code))) ∷ rest place) session_is
        ∙ ap (λ (n : ℕ). (A04, is_under fetched_frame 2) ∷ (A02, not (nat_lt number n)) ∷ rest place) code_is))
        in
        let shaped : shape i z.frame z.public nobody ≡ real_shape = targeted.shaped z.frame z.public nobody ∙ ap (λ (v : ℕ). going place (act v) None) same in
        let all : includes_all t (caused (first_cause cs) s i real_shape AsShaped before pair_spot) ≡ true =
        subst (λ (c : List (Abend × Bool)). includes_all t (caused (first_cause c) s i real_shape AsShaped before pair_spot) ≡ true) cause
        (subst (λ (m : Shape). includes_all t (caused (first_cause (causes i z.frame z.public nobody)) s i m AsShaped before pair_spot) ≡ true) shaped
        (subst (λ (w : Work). includes_all t (caused (first_cause (causes i z.frame z.public nobody)) s i (shape i z.frame z.public nobody) w before pair_spot) ≡ true) (targeted.works z.frame z.public) at_scene))
        in
        subst (IsRowCovered s u t g loadable leads i turn) (row_is s u t g loadable leads i turn cs real_shape (targeted.cause fetched_frame turn.public turn.around) (targeted.shaped fetched_frame turn.public turn.around))
        (walked s u t g loadable leads turn.entry turn.history turn.frame turn.public turn.depth p turn.deep i pair_spot cs real_shape AsShaped (meaning real_shape fetched_frame turn.public) all goes_there)

  -- ---- by the height of the stack

  covered_by : (b : Bool) → is_under fetched_frame 2 ≡ b → includes_all t (targets_of (few_combinations turn.place.known.bytes (inside scene (top_places scene.frame 2))) s i scene before fetched_spot) ≡ true
      → IsRowCovered s u t g loadable leads i turn (row i fetched_frame turn.public turn.around)
  covered_by true under includes = under_covered under (some_by (inside scene (top_places scene.frame 2)) (few_combinations turn.place.known.bytes (inside scene (top_places scene.frame 2))) refl includes)
  covered_by false over includes =
      let enough = above over in
      let both : inside scene (top_places scene.frame 2) ≡ place ∷ suc place ∷ [] = both_inside scene.frame place (omega (arith, enough)) (omega (arith, enough)) in
      elim (pair_by (inside scene (top_places scene.frame 2)) (few_combinations turn.place.known.bytes (inside scene (top_places scene.frame 2))) both refl includes) [
        | inl followed ↦ pair_covered over followed
        | inr out ↦ outside_covered over out
      ]

-- ---- the two rows

jump_is : (to : ℕ) → IsTargeted (ins.Jump 0 to) (Jumps true) (λ dt. [])
unfolding causes shape
jump_is to =
    record {
      cause = λ f public x. refl;
      shaped = λ f public x. refl;
      works = λ f public. refl;
      other = λ v. refl;
      led = λ s small st al f public calls k ss v none placed framed seen. jumps_led s small st al f public calls k ss true v framed seen;
    }

call_is : (to : ℕ) → IsTargeted (ins.Call 0 to) (Calls true) (λ dt. (A05, nat_lt dynamic_end (dt + 4)) ∷ [])
unfolding causes shape
call_is to =
    record {
      cause = λ f public x. refl;
      shaped = λ f public x. refl;
      works = λ f public. refl;
      other = λ v. refl;
      led = λ s small st al f public calls k ss v none placed framed seen. calls_led s small st al f public calls k ss true v (λ is. ltb-false dynamic_end (f.dt + 4) none.0) placed framed seen;
    }

jump_form : (o : Option (List Choice)) (t : Tables) (s : Setting) (to : ℕ) (z : Scene) (p q : Spot) → includes_all t (by_choices o true s (ins.Jump 0 to) z p q) ≡ true → includes_all t (targets_of o s (ins.Jump 0 to) z p q) ≡ true
jump_form (Some cs) t s to z p q e = e
jump_form None t s to z p q e = e

call_form : (o : Option (List Choice)) (t : Tables) (s : Setting) (to : ℕ) (z : Scene) (p q : Spot) → includes_all t (by_choices o true s (ins.Call 0 to) z p q) ≡ true → includes_all t (targets_of o s (ins.Call 0 to) z p q) ≡ true
call_form (Some cs) t s to z p q e = e
call_form None t s to z p q e = e

jump_law : (to : ℕ) → LeadLaw (ins.Jump 0 to)
jump_law to =
    law_from (ins.Jump 0 to) (λ s u t g loadable leads turn names includes.
    let z : Scene = scene s u t g loadable leads (ins.Jump 0 to) (Jumps true) (λ dt. []) (jump_is to) turn in
    let p : Spot = here s u t g loadable leads (ins.Jump 0 to) turn in
    covered_by s u t g loadable leads (ins.Jump 0 to) (Jumps true) (λ dt. []) (jump_is to) turn (is_under (frame_at turn.frame turn.next) 2) refl
    (jump_form (few_combinations p.known.bytes (inside z (top_places z.frame 2))) t s to z p (there s u t g loadable leads (ins.Jump 0 to) turn) includes))

call_law : (to : ℕ) → LeadLaw (ins.Call 0 to)
call_law to =
    law_from (ins.Call 0 to) (λ s u t g loadable leads turn names includes.
    let more : ℕ → List (Abend × Bool) = λ dt. (A05, nat_lt dynamic_end (dt + 4)) ∷ [] in
    let z : Scene = scene s u t g loadable leads (ins.Call 0 to) (Calls true) more (call_is to) turn in
    let p : Spot = here s u t g loadable leads (ins.Call 0 to) turn in
    covered_by s u t g loadable leads (ins.Call 0 to) (Calls true) more (call_is to) turn (is_under (frame_at turn.frame turn.next) 2) refl
    (call_form (few_combinations p.known.bytes (inside z (top_places z.frame 2))) t s to z p (there s u t g loadable leads (ins.Call 0 to) turn) includes))

-- JUMP and CALL to a place that the stack has are covered
pub target_laws : TargetLaw
target_laws = (jump_law, call_law)
