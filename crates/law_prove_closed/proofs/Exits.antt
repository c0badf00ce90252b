-- An exit leads to a moment that closed tables have: after the answer of a command, and at the end of a delegation.
use Rattle.std.proofs.Common.{◌≡◌, inl, inr, ℕ, ◌+◌, ◌*◌, ◌<◌, ◌≤◌, Bool, true, false, cond, min, List, [], ◌∷◌, ◌++◌, length, take, Option, Some, None, Ok, refl, sym, ap, subst, ◌∙◌, arith}
use Rattle.std.specs.Prelude.{nat_lt, map, flat_map, slice_index, unwrap_or}
use Rattle.std.proofs.lemmas.Bool.{ltb-true, ltb-false}
use Rattle.std.proofs.lemmas.List.{length-take}
use Rattle.law_prove.specs.model_device.specs.Bytes.{AreBytes, bytes2}
use Rattle.law_prove.specs.model_machine.specs.declared.instruction.Ins.{Ins}
use Rattle.law_prove.specs.model_machine.specs.declared.instruction.Ins.TheVariants as ins
use Rattle.law_prove.specs.model_machine.specs.declared.machine.Abend.TheVariants.{A09}
use Rattle.law_prove.specs.model_machine.specs.Apdu.{ApduParts}
use Rattle.law_prove.specs.model_machine.specs.Frame.{Frame, dynamic_base, public_base, session_of, la_of, sw_of}
use Rattle.law_prove.specs.model_machine.specs.Primitives.{Around, Exits}
use Rattle.law_prove.specs.model_machine.specs.Row.{causes, first_cause, Does}
use Rattle.law_prove.specs.model_machine.specs.Chain.{Outcome, Abended, frame_at}
use Rattle.law_prove.specs.model_text.specs.Listing.{hex_text}
use Rattle.law_prove.specs.model_text.specs.TurnText.{outcome_text}
use Rattle.law_prove.specs.model_machine.specs.Shapes.{Answers, Shape, act_effect, shape_effect, with_status, with_length, shape}
use Rattle.law_prove.specs.law_bytes.specs.OfBytes.{IsByteEffect}
use Rattle.law_prove.specs.law_bytes.proofs.ByteLists.{indexed, taken}
use Rattle.law_prove.specs.model_rules.specs.model_events.specs.Deeds.{Deed}
use Rattle.law_prove.specs.law_promise.specs.History.{with_event, done_event}
use Rattle.law_prove.specs.law_promise.specs.Outline.{Entry, BySelection, ByDelegation, is_direct, reply_to}
use Rattle.law_prove.specs.law_promise.specs.Domain.{AnswerCovered, EndCovered, StopCovered, AbendCovered, RowCovered, FitsDepth}
use Rattle.law_prove.specs.model_rules.specs.model_events.specs.Matching.{fits}
use Rattle.law_prove.specs.model_rules.specs.Rules.{Target}
use Rattle.law_prove.specs.model_rules.specs.Happenings.{Event, History, Did, Failed, Answers as Answered}
use Rattle.law_prove.specs.model_rules.specs.Keeping.{Amounts, Standing, after_occasion, OnTurn, line_of, line_of_deed, after_deed, standing_after}
use Rattle.law_prove.specs.law_rules.specs.Law.{domain_of_rules}
use Rattle.law_prove.specs.model_prove.specs.Sets.{is_in}
use Rattle.law_prove.specs.model_prove.specs.Facts.{Memory, Holds, values_at}
use Rattle.law_prove.specs.model_prove.specs.Keys.{Start, Delegated, OfClass, PlaceKey, Tables}
use Rattle.law_prove.specs.model_prove.specs.Laws.{Among, HoldsBytes}
use Rattle.law_prove.specs.model_prove.specs.Work.{AsShaped, work}
use Rattle.law_prove.specs.model_prove.specs.Arrivals.{Setting, Arrival, Lengths, lengths_of, la_at, session_facts, in_session, fails, after_turn, after_answer, result_patterns, replies, exited, arrive}
use Rattle.law_prove.specs.model_prove.specs.Steps.{Spot, lowered, acted, settled_spot, caused, exits_from}
use Rattle.law_prove.specs.model_rules.specs.Loadable.{IsLoadable}
use Rattle.law_prove.specs.model_prove.specs.Tables.{includes_all}
use Rattle.law_prove.specs.model_prove.proofs.FactLemmas.{value_holds}
use Rattle.law_prove.specs.Coverings.{moment_memory, IsMoment, frame_memory, class_of, StartsAs, IsFrameOf, IsPlace, covering_of}
use Rattle.law_prove.specs.Laws.{LeadsInto}
use Rattle.law_prove.proofs.Closed.{included_first, included_second, Arrives, arrives, moment_included}
use Rattle.law_prove.proofs.Moments.{memory_bytes, within_holds, from_memory}
use Rattle.law_prove.proofs.Parts.{memory_public}
use Rattle.law_prove.proofs.Places.{holds_both, answer_stands, session_same, fails_by}
use Rattle.law_prove.proofs.Spots.{place_key, did_stands, turn_arrives, Covers}
use Rattle.law_prove.proofs.Acts.{spot_of, Led, led_covers}
use Rattle.law_prove.proofs.Turns.{blank, nobody, memory_of_bytes}
use Rattle.law_prove.proofs.Single.{RowCase, law_of, here, there, scene, row_is, shape_bytes, stood, led_answers, IsRowCovered}
use Rattle.law_prove_closed.specs.CommandLaws.{ExitLaw}
use Rattle.law_prove_closed.proofs.Replies.{reply_among, no_length, may_fit, may_be_long}

-- ---- replies

-- the status of a public segment of bytes is its two last bytes
status_bytes : (x y : ℕ) → x < 256 → y < 256 → bytes2 (256 * x + y) ≡ x ∷ y ∷ []
status_bytes x y a b = grind arith

-- the outcome of a reply that is among some
one_of : (t : Tables) (f : List Bool → List Arrival) (m : List Bool) (ms : List (List Bool)) → Among m ms → includes_all t (flat_map f ms) ≡ true → includes_all t (f m) ≡ true
one_of t f m [] a e = absurd a
one_of t f m (n ∷ ms) a e =
    elim a [
      | inl is ↦ subst (λ (z : List Bool). includes_all t (f z) ≡ true) is (included_first t (f n) (flat_map f ms) e)
      | inr more ↦ one_of t f m ms more (included_second t (f n) (flat_map f ms) e)
    ]

least : (n m : ℕ) → min n m ≤ n
least n m = omega arith

module _ (s : Setting) (u t : Tables) (g : Target) (loadable : IsLoadable s.app) (leads : LeadsInto s u t) (i : Ins) (next : ℕ) (after : List ℕ) where
  -- an exit that was done, from a frame and a public segment
  abbrev exit_deed : Bool → Frame → List ℕ → ℕ → Deed
  exit_deed direct f public depth =
      record { frame = f; public = public; direct = direct; depth = depth; ins = i; effect = record { frame = frame_at f next; public = after; changes = None } }

  -- what an exit leads to is covered
  abbrev ExitIsCovered : Entry Event → History → Frame → List ℕ → ℕ → Type 0
  ExitIsCovered e h f public depth =
      RowCovered (domain_of_rules g (covering_of s t)) e h f public depth i (Does (record { effect = record { frame = frame_at f next; public = after; changes = None }; next = Exits }))

  -- the event of an exit, with what follows it
  record Exited (h : History) (d : Deed) (x : Standing) (more : Amounts → List Arrival) : Type 0 where
    allowances : Amounts
    stands : standing_after s.rules (Did d ∷ h) ≡ Ok (record (after_deed s.rules d.frame.protected d x) { allowances = allowances })
    rest : includes_all t (more allowances) ≡ true

  exits_so : (e : Entry Event) (h : History) (f : Frame) (public : List ℕ) (depth : ℕ) (p : IsPlace s u e h f public) (q : Spot) → FitsDepth e depth → Covers q (frame_at f next) after → (more : Amounts → List Arrival)
      → includes_all t (after_turn s (place_key p.start p.standing.allowances f p.calls) i q.key.dt q.key.c q.key.z more) ≡ true → Exited h (exit_deed (is_direct e) f public depth) p.standing more
  exits_so e h f public depth p q deep covers more includes =
      let k : PlaceKey = place_key p.start p.standing.allowances f p.calls in
      let deed : Deed = exit_deed (is_direct e) f public depth in
      let line : List ℕ = line_of depth f.at i q.key.dt q.key.c q.key.z in
      let n : Arrives t (after_occasion s.rules.ons (OnTurn line) p.standing.allowances) more = turn_arrives s t e k i q.key.dt q.key.c q.key.z more depth p.starts deep includes in
      let alike : line ≡ line_of_deed deed = ap (λ (z : PlaceKey). line_of depth f.at i z.dt z.c z.z) (covers.key []) in
      let is : after_occasion s.rules.ons (OnTurn (line_of_deed deed)) p.standing.allowances ≡ Ok n.allowances = sym (ap (λ (z : List ℕ). after_occasion s.rules.ons (OnTurn z) p.standing.allowances) alike) ∙ n.is in
      record { allowances = n.allowances; stands = did_stands s h deed p.standing n.allowances p.stands is; rest = n.rest }

  -- a byte of the public segment
  public_byte : (f : Frame) (k : ℕ) → length f.fixed ≤ dynamic_base → frame_memory (frame_at f next) after (public_base + k) ≡ slice_index after k
  public_byte f k low = grind (arith, memory_public)

  module _ (f : Frame) (q : Spot) (framed : IsFrameOf s.app f) (dyn : AreBytes f.dyn) (bytes : AreBytes after) (covers : Covers q (frame_at f next) after) (memory : HoldsBytes (frame_memory (frame_at f next) after)) where
    after_framed : IsFrameOf s.app (frame_at f next)
    after_framed = grind arith

    static_low : length f.fixed ≤ dynamic_base
    static_low = let size : length f.fixed ≡ length s.app.fixed = framed.size in subst (λ (n : ℕ). n ≤ dynamic_base) (sym size) loadable.static

    -- a byte of La or SW has one of the values that are known
    known_byte : (k : ℕ) → is_in (slice_index after k) (values_at q.known.bytes (public_base + k)) ≡ true
    known_byte k =
        subst (λ (v : ℕ). is_in v (values_at q.known.bytes (public_base + k)) ≡ true) (public_byte f k static_low)
        (value_holds q.known.bytes (frame_memory (frame_at f next) after) (public_base + k) covers.holds (memory (public_base + k)))

    abbrev lengths : Lengths
    lengths = lengths_of (values_at q.known.bytes la_at) (values_at q.known.bytes (la_at + 1))

    fitting : nat_lt 1024 (la_of after) ≡ false → lengths.fitting ≡ true
    fitting e = may_fit (values_at q.known.bytes la_at) (values_at q.known.bytes (la_at + 1)) (slice_index after 1037) (slice_index after 1038) (known_byte 1037) (known_byte 1038) (ltb-false 1024 (la_of after) e)

    too_long : nat_lt 1024 (la_of after) ≡ true → lengths.too_long ≡ true
    too_long e =
        may_be_long (values_at q.known.bytes la_at) (values_at q.known.bytes (la_at + 1)) (slice_index after 1037) (slice_index after 1038) (known_byte 1037) (known_byte 1038) (indexed after 1038 bytes) (ltb-true 1024 (la_of after) e)

    no_body : (le : ℕ) → lengths.some ≡ false → take (min (la_of after) le) after ≡ []
    no_body le none =
        let zero_length : la_of after ≡ 0 = no_length (values_at q.known.bytes la_at) (values_at q.known.bytes (la_at + 1)) (slice_index after 1037) (slice_index after 1038) (known_byte 1037) (known_byte 1038) none in
        let least_of : min (la_of after) le ≤ la_of after = least (la_of after) le in
        let zero_is : min (la_of after) le ≡ 0 = omega (arith, least_of, zero_length) in
        ap (λ (n : ℕ). take n after) zero_is

    -- the reply is one of those that the tables follow
    reply_is : (apdu : ApduParts) → nat_lt 1024 (la_of after) ≡ false → Among (map (λ r. fits r (outcome_text (reply_to apdu after))) (result_patterns s.rules.ons)) (replies s q.known)
    reply_is apdu e =
        let le = unwrap_or apdu.le 0 in
        let body : List ℕ = take (min (la_of after) le) after in
        let most = ltb-false 1024 (la_of after) e in
        let size = length-take (min (la_of after) le) after in
        let low = least (la_of after) le in
        let x = slice_index after 1039 in
        let y = slice_index after 1040 in
        let status : bytes2 (sw_of after) ≡ x ∷ y ∷ [] = status_bytes x y (indexed after 1039 bytes) (indexed after 1040 bytes) in
        subst (λ (b : List ℕ). Among (map (λ r. fits r (hex_text (body ++ b))) (result_patterns s.rules.ons)) (replies s q.known)) (sym status)
        (reply_among s q.known body x y (no_body le) (omega (arith, most, size, low)) (known_byte 1039) (known_byte 1040))

    -- the answer leads to a moment of the session
    answered_arrives : (bytes : List ℕ) (outcome : Outcome) (k : History) (class : List Bool) (x : Standing) → class ≡ class_of bytes s.rules.ons → standing_after s.rules k ≡ Ok x
        → includes_all t (arrive None (after_answer s class (map (λ r. fits r (outcome_text outcome)) (result_patterns s.rules.ons)) x.allowances) (in_session s q.known)) ≡ true
        → IsMoment s t true (Answered bytes outcome ∷ k) f.fixed (session_of f)
    answered_arrives bytes outcome k class x starts stands includes =
        let r = after_answer s class (map (λ r. fits r (outcome_text outcome)) (result_patterns s.rules.ons)) x.allowances in
        let n : Arrives t r (in_session s q.known) = arrives t None r (in_session s q.known) includes in
        let m : Memory = moment_memory f.fixed (session_of f) in
        let session : AreBytes (session_of f) = taken f.session f.dyn dyn in
        let own : Holds (session_facts s q.known) m = grind (arith, within_holds, session_same, after_framed) in
        from_memory s t true (Answered bytes outcome ∷ k) f.fixed (session_of f) (record x { allowances = n.allowances }) (answer_stands s k bytes outcome class x n.allowances starts stands n.is)
        framed.size framed.static session
        (moment_included t (record { selected = true; allowances = n.allowances }) (q.known.kept ++ session_facts s q.known) m n.rest (holds_both q.known.kept (session_facts s q.known) m (covers.keeps (session_of f) session) own)
        (memory_bytes f.fixed (session_of f) framed.static session))

  -- ---- by how the frame began

  -- what is covered after the exit of a command, by whether its reply is too long
  abbrev CommandExits : Bool → List ℕ → ApduParts → History → History → Frame → List ℕ → ℕ → Type 0
  CommandExits long bytes apdu before h f public depth =
      let o = domain_of_rules g (covering_of s t) in
      let k : History = with_event (done_event long o.watch (exit_deed true f public depth)) h in
      let outcome : Outcome = cond long (Abended A09) (reply_to apdu after) in
      EndCovered o (BySelection bytes apdu before) k f.fixed (session_of f) outcome × AnswerCovered o bytes apdu before k outcome × (o.anywhere → StopCovered o (BySelection bytes apdu before) k f.fixed)

  command_exits : (long : Bool) (bytes : List ℕ) (apdu : ApduParts) (before h : History) (f : Frame) (public : List ℕ) (depth : ℕ) (p : IsPlace s u (BySelection bytes apdu before) h f public) (q : Spot) (class : List Bool) → nat_lt 1024 (la_of after) ≡ long → class ≡ class_of bytes s.rules.ons
      → depth ≡ 1 → AreBytes after → Covers q (frame_at f next) after → HoldsBytes (frame_memory (frame_at f next) after)
      → includes_all t (exits_from s i (OfClass class) (lengths_of (values_at q.known.bytes la_at) (values_at q.known.bytes (la_at + 1))) (spot_of p.start p.standing.allowances f p.calls p.known) q) ≡ true
      → CommandExits long bytes apdu before h f public depth
  command_exits true bytes apdu before h f public depth p q class long is deep others covers memory includes =
      let la : Lengths = lengths f q p.frame p.dynamic others covers memory in
      let k : PlaceKey = place_key p.start p.standing.allowances f p.calls in
      let first : List Arrival = cond la.too_long (fails s k p.known A09) [] in
      let second : List Arrival = cond la.fitting (after_turn s k i q.key.dt q.key.c q.key.z (exited s (OfClass class) q.known)) [] in
      let one : includes_all t (fails s k p.known A09) ≡ true = subst (λ (b : Bool). includes_all t (cond b (fails s k p.known A09) []) ≡ true) (too_long f q p.frame p.dynamic others covers memory long) (included_first t first second includes) in
      let ends : AbendCovered (domain_of_rules g (covering_of s t)) (BySelection bytes apdu before) (Failed f.at A09 ∷ h) f A09 = fails_by s u t g loadable leads (BySelection bytes apdu before) h f public p A09 s.rules.abends k refl refl refl one in
      (ends.ends, tt, λ any. absurd any)
  command_exits false bytes apdu before h f public depth p q class long is deep others covers memory includes =
      let la : Lengths = lengths f q p.frame p.dynamic others covers memory in
      let k : PlaceKey = place_key p.start p.standing.allowances f p.calls in
      let turn : List Arrival = after_turn s k i q.key.dt q.key.c q.key.z (exited s (OfClass class) q.known) in
      let first : List Arrival = cond la.too_long (fails s k p.known A09) [] in
      let one : includes_all t turn ≡ true = subst (λ (b : Bool). includes_all t (cond b turn []) ≡ true) (fitting f q p.frame p.dynamic others covers memory long) (included_second t first (cond la.fitting turn []) includes) in
      let n : Exited h (exit_deed true f public depth) p.standing (exited s (OfClass class) q.known) = exits_so (BySelection bytes apdu before) h f public depth p q deep covers (exited s (OfClass class) q.known) one in
      let x : Standing = record (after_deed s.rules f.protected (exit_deed true f public depth) p.standing) { allowances = n.allowances } in
      let results : List Bool = map (λ r. fits r (outcome_text (reply_to apdu after))) (result_patterns s.rules.ons) in
      let reply : includes_all t (arrive None (after_answer s class results n.allowances) (in_session s q.known)) ≡ true =
      one_of t (λ m. arrive None (after_answer s class m n.allowances) (in_session s q.known)) results (replies s q.known) (reply_is f q p.frame p.dynamic others covers memory apdu long) n.rest
      in
      (answered_arrives f q p.frame p.dynamic others covers memory bytes (reply_to apdu after) (Did (exit_deed true f public depth) ∷ h) class x is n.stands reply, tt, λ any. absurd any)

  exits_by : (e : Entry Event) (h : History) (f : Frame) (public : List ℕ) (depth : ℕ) (p : IsPlace s u e h f public) (q : Spot) (start : Start) → StartsAs s.rules e start → FitsDepth e depth → AreBytes after → Covers q (frame_at f next) after
      → HoldsBytes (frame_memory (frame_at f next) after)
      → includes_all t (exits_from s i start (lengths_of (values_at q.known.bytes la_at) (values_at q.known.bytes (la_at + 1))) (spot_of p.start p.standing.allowances f p.calls p.known) q) ≡ true
      → ExitIsCovered e h f public depth
  exits_by (BySelection bytes apdu before) h f public depth p q (OfClass class) starts deep others covers memory includes =
      record { write = tt; next = command_exits (nat_lt 1024 (la_of after)) bytes apdu before h f public depth p q class refl starts deep others covers memory includes }
  exits_by ByDelegation h f public depth p q Delegated starts deep others covers memory includes =
      let n : Exited h (exit_deed false f public depth) p.standing (exited s Delegated q.known) = exits_so ByDelegation h f public depth p q deep covers (exited s Delegated q.known) includes in
      let x : Standing = record (after_deed s.rules f.protected (exit_deed false f public depth) p.standing) { allowances = n.allowances } in
      let frame : IsFrameOf s.app f = p.frame in
      record {
        write = tt;
        next = from_memory s t false (Did (exit_deed false f public depth) ∷ h) f.fixed [] x n.stands frame.size frame.static tt
            (moment_included t (record { selected = false; allowances = n.allowances }) q.known.kept (moment_memory f.fixed []) n.rest (covers.keeps [] tt) (memory_bytes f.fixed [] frame.static tt));
      }
  exits_by (BySelection bytes apdu before) h f public depth p q Delegated starts deep others covers memory includes = absurd starts
  exits_by ByDelegation h f public depth p q (OfClass class) starts deep others covers memory includes = absurd starts

-- ---- the rows

-- a shape that exits
abbrev leaving : ℕ → Option ℕ → Option ℕ → Shape
leaving d sw la = record { dt = d; act = Answers sw la; flags = None; next = Exits }

-- an instruction that exits
record IsExit (i : Ins) (sw la : Option ℕ) : Type 0 where
  none : (f : Frame) (public : List ℕ) (x : Around) → causes i f public x ≡ []
  leaves : (f : Frame) (public : List ℕ) (x : Around) → shape i f public x ≡ leaving f.dt sw la
  shaped : (f : Frame) (public : List ℕ) → work i f public ≡ AsShaped

exit_case : (i : Ins) (sw la : Option ℕ) → IsExit i sw la → RowCase i
exit_case i sw la exit s u t g loadable leads turn includes =
    let f : Frame = turn.frame in
    let after : List ℕ = with_length la (with_status sw turn.public) in
    let m : Shape = leaving f.dt sw la in
    let st = turn.place.start in
    let al = turn.place.standing.allowances in
    let led : Led s st al (acted s (Answers sw la) [] (lowered f.dt (there s u t g loadable leads i turn))) false (act_effect (Answers sw la) (frame_at f turn.next) turn.public) = led_answers s u t g loadable leads i turn [] sw la in
    let r : Spot = acted s (Answers sw la) [] (lowered f.dt (there s u t g loadable leads i turn)) in
    let q : Spot = settled_spot s r in
    let covers : Covers q (frame_at f turn.next) after = led_covers s st al r false (act_effect (Answers sw la) (frame_at f turn.next) turn.public) led in
    let bytes : IsByteEffect (shape_effect m (frame_at f turn.next) turn.public) = shape_bytes s u t g loadable leads i turn m (exit.leaves (frame_at f turn.next) turn.public turn.around) turn.after in
    let all : includes_all t (caused (first_cause []) s i m AsShaped (here s u t g loadable leads i turn) (there s u t g loadable leads i turn)) ≡ true =
    stood s u t g loadable leads i turn [] m AsShaped includes (exit.none (scene s u t g loadable leads i turn) blank nobody) (exit.leaves (scene s u t g loadable leads i turn) blank nobody) (exit.shaped (scene s u t g loadable leads i turn) blank)
    in
    let one : List Arrival = exits_from s i st (lengths_of (values_at q.known.bytes la_at) (values_at q.known.bytes (la_at + 1))) (here s u t g loadable leads i turn) q in
    subst (IsRowCovered s u t g loadable leads i turn) (row_is s u t g loadable leads i turn [] m (exit.none (frame_at f turn.next) turn.public turn.around) (exit.leaves (frame_at f turn.next) turn.public turn.around))
    (exits_by s u t g loadable leads i turn.next after turn.entry turn.history f turn.public turn.depth turn.place q st turn.place.starts turn.deep bytes.public covers (memory_of_bytes (frame_at f turn.next) after bytes.frame bytes.public)
    (included_first t one [] all))

exit_is : IsExit ins.Exit None None
unfolding causes shape
exit_is = record { none = λ f public x. refl; leaves = λ f public x. refl; shaped = λ f public. refl }

exitsw_is : (sw : ℕ) → IsExit (ins.Exitsw sw) (Some sw) None
unfolding causes shape
exitsw_is sw = record { none = λ f public x. refl; leaves = λ f public x. refl; shaped = λ f public. refl }

exitla_is : (la : ℕ) → IsExit (ins.Exitla la) None (Some la)
unfolding causes shape
exitla_is la = record { none = λ f public x. refl; leaves = λ f public x. refl; shaped = λ f public. refl }

exitswla_is : (sw la : ℕ) → IsExit (ins.Exitswla sw la) (Some sw) (Some la)
unfolding causes shape
exitswla_is sw la = record { none = λ f public x. refl; leaves = λ f public x. refl; shaped = λ f public. refl }

-- an exit leads to a moment of closed tables
pub exit_laws : ExitLaw
exit_laws = (
  law_of ins.Exit (λ s u t g loadable leads turn e. e) (exit_case ins.Exit None None exit_is),
  λ sw. law_of (ins.Exitsw sw) (λ s u t g loadable leads turn e. e) (exit_case (ins.Exitsw sw) (Some sw) None (exitsw_is sw)),
  λ la. law_of (ins.Exitla la) (λ s u t g loadable leads turn e. e) (exit_case (ins.Exitla la) None (Some la) (exitla_is la)),
  λ sw la. law_of (ins.Exitswla sw la) (λ s u t g loadable leads turn e. e) (exit_case (ins.Exitswla sw la) (Some sw) (Some la) (exitswla_is sw la)),
)
