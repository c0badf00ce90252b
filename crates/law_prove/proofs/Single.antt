-- Rows of one outcome: their causes and their shape are the same in the frame that stands for the place, but for bytes.
use Rattle.std.proofs.Common.{◌≡◌, ℕ, ◌+◌, ◌<◌, ◌≤◌, Bool, true, false, List, [], ◌∷◌, ◌++◌, length, Option, Ok, sym, ap, subst, ◌∙◌, arith}
use Rattle.std.specs.Prelude.{◌&&◌, is_none}
use Rattle.model_prove.specs.model_device.specs.Bytes.{AreBytes}
use Rattle.model_prove.specs.model_machine.specs.declared.instruction.Ins.{Ins}
use Rattle.model_prove.specs.model_machine.specs.declared.machine.Abend.{Abend}
use Rattle.model_prove.specs.model_machine.specs.declared.machine.Abend.TheVariants.{A08}
use Rattle.model_prove.specs.model_machine.specs.Code.{Shaped, Decodes, spell}
use Rattle.model_prove.specs.model_machine.specs.Frame.{Frame, where_is, dynamic_base, dynamic_end}
use Rattle.model_prove.specs.model_machine.specs.Primitives.{Around, Done, Goes}
use Rattle.model_prove.specs.model_machine.specs.Row.{causes, effect, row, first_cause, RowEnd, row_end}
use Rattle.model_prove.specs.model_machine.specs.Chain.{frame_at}
use Rattle.model_prove.specs.model_machine.specs.Shapes.{Act, Stays, Answers, Jumps, Calls, Pushes, Writes, Shape, act_effect, shape_effect, meaning, shape}
use Rattle.law_rules.specs.law_bytes.specs.law_rows.proofs.RowShapes.{shapes}
use Rattle.law_rules.specs.law_bytes.specs.OfBytes.{IsByteEffect}
use Rattle.law_rules.specs.law_promise.specs.Outline.{Entry, FitsEntry}
use Rattle.law_rules.specs.law_promise.specs.Domain.{RowCovered, FitsDepth, IsDelegator}
use Rattle.law_rules.specs.Law.{domain_of_rules}
use Rattle.model_prove.specs.model_rules.specs.Rules.{Target}
use Rattle.model_prove.specs.model_rules.specs.Happenings.{Event, History}
use Rattle.model_prove.specs.Sets.{Set}
use Rattle.model_prove.specs.Facts.{values_from}
use Rattle.model_prove.specs.Keys.{Call, Known, Tables, calls_below}
use Rattle.model_prove.specs.Splits.{stand_in, stand_in_stack}
use Rattle.model_prove.specs.Work.{Work, AsShaped, Copies, work}
use Rattle.model_prove.specs.Arrivals.{Setting}
use Rattle.model_prove.specs.Steps.{Spot, lowered, acted, with_flags, settled_spot, makes_write, may_wait_too_long, follows, row_arrivals, caused, fetched, is_return, no_calls, returned_sets, shaped_bytes}
use Rattle.model_prove.specs.model_rules.specs.Loadable.{IsLoadable}
use Rattle.model_prove.specs.Tables.{includes_all}
use Rattle.law_prove.specs.Coverings.{IsPlace, covering_of}
use Rattle.law_prove.specs.Laws.{LeadsInto, LeadLaw}
use Rattle.law_prove.proofs.Closed.{included_first, included_second}
use Rattle.law_prove.proofs.Spots.{place_key}
use Rattle.law_prove.proofs.Seen.{FitSets, Seen}
use Rattle.law_prove.proofs.Acts.{spot_of, Framed, Led, stays_led, jumps_led, calls_led, answers_led, pushes_led, writes_led}
use Rattle.law_prove.proofs.Turns.{NoCause, like, blank, nobody, only, walked, walked_limit, only_one, moved_covered, lowered_at, included_at, decoded_at, leaves_bytes}

-- a shape after which the frame goes on
abbrev pub going : ℕ → Act → Option (Bool × Bool) → Shape
going d a fl = record { dt = d; act = a; flags = fl; next = Goes }

-- the only outcome of a row that does what its shape says
pub one_shaped : (s : Setting) (t : Tables) (i : Ins) (d : ℕ) (a : Act) (fl : Option (Bool × Bool)) (p q : Spot) → includes_all t (row_arrivals false s i (going d a fl) AsShaped p q) ≡ true
    → includes_all t (follows s i (makes_write s p.key.protected a) Goes p (settled_spot s (with_flags fl (acted s a (returned_sets a q.known.bytes q.key.dt) (lowered d q))))) ≡ true
one_shaped s t i d a fl p q includes = grind (arith, included_first, included_second)

-- of a row that copies bytes
pub one_copied : (s : Setting) (t : Tables) (i : Ins) (d : ℕ) (a : Act) (fl : Option (Bool × Bool)) (from : ℕ) (p q : Spot) → includes_all t (row_arrivals false s i (going d a fl) (Copies from) p q) ≡ true
    → includes_all t (follows s i (makes_write s p.key.protected a) Goes p (settled_spot s (with_flags fl (acted s a (values_from q.known.bytes from (length (shaped_bytes a))) (lowered d q))))) ≡ true
one_copied s t i d a fl from p q includes = grind (arith, included_first, included_second)

-- an instruction at a place of the tables, in a play
pub record Turn (s : Setting) (t : Tables) (i : Ins) : Type 0 where
  pub entry : Entry Event
  pub history : History
  pub frame : Frame
  pub public : List ℕ
  pub depth : ℕ
  pub place : IsPlace s t entry history frame public
  pub deep : FitsDepth entry depth
  pub next : ℕ
  pub around : Around
  pub fits : FitsEntry entry around
  pub whole : 1041 ≤ length public
  pub bytes : AreBytes public
  pub shaped : Shaped i
  pub after_it : next ≡ frame.at + length (spell i)
  pub inside : next ≤ length s.app.code
  pub after : IsByteEffect (effect i (frame_at frame next) public around).effect

module _ (s : Setting) (u t : Tables) (g : Target) (loadable : IsLoadable s.app) (leads : LeadsInto s u t) (i : Ins) (turn : Turn s u i) where
  -- the places before and after the fetch
  abbrev pub here : Spot
  here = spot_of turn.place.start turn.place.standing.allowances turn.frame turn.place.calls turn.place.known

  -- the place after the fetch
  abbrev pub there : Spot
  there = spot_of turn.place.start turn.place.standing.allowances (frame_at turn.frame turn.next) turn.place.calls turn.place.known

  -- the frame that stands for the place
  abbrev pub scene : Frame
  scene = like (frame_at turn.frame turn.next) (stand_in_stack turn.place.calls)

  -- what was fetched has this outcome alone
  abbrev pub IsOnly : Type 0
  IsOnly = includes_all t ((only s i (frame_at (stand_in s.app (place_key turn.place.start turn.place.standing.allowances turn.frame turn.place.calls)).frame turn.next) here there ++ []) ++ []) ≡ true

  -- what the row is covered means
  abbrev pub IsRowCovered : RowEnd → Type 0
  IsRowCovered r = RowCovered (domain_of_rules g (covering_of s t)) turn.entry turn.history turn.frame turn.public turn.depth i r

  -- the act leads to what is seen
  abbrev pub LedBy : ℕ → Act → List Set → Type 0
  LedBy d a ss = Led s turn.place.start turn.place.standing.allowances (acted s a ss (lowered d there)) (makes_write s turn.frame.protected a) (act_effect a (record (frame_at turn.frame turn.next) { dt = d }) turn.public)

  -- in the frame that stands for the place
  pub stood : (cs : List (Abend × Bool)) (m : Shape) (w : Work) → IsOnly → causes i scene blank nobody ≡ cs → shape i scene blank nobody ≡ m → work i scene blank ≡ w → includes_all t (caused (first_cause cs) s i m w here there) ≡ true
  stood cs m w includes cause is works =
      rw (← cause, ← is, ← works) (only_one s u t g loadable leads turn.entry turn.history turn.frame turn.public i turn.next turn.place includes)

  -- a row is what its causes and its shape mean
  pub row_is : (cs : List (Abend × Bool)) (m : Shape) → causes i (frame_at turn.frame turn.next) turn.public turn.around ≡ cs → shape i (frame_at turn.frame turn.next) turn.public turn.around ≡ m → row_end (first_cause cs) (meaning m (frame_at turn.frame turn.next) turn.public) ≡ row i (frame_at turn.frame turn.next) turn.public turn.around
  unfolding row
  row_is cs m cause is =
      sym (ap (λ (c : List (Abend × Bool)). row_end (first_cause c) (effect i (frame_at turn.frame turn.next) turn.public turn.around)) cause
      ∙ ap (λ (d : Done). row_end (first_cause cs) d) (shapes i (frame_at turn.frame turn.next) turn.public turn.around ∙ ap (λ (z : Shape). meaning z (frame_at turn.frame turn.next) turn.public) is))

  -- a shape leaves bytes if the effect of its row does
  pub shape_bytes : (m : Shape) → shape i (frame_at turn.frame turn.next) turn.public turn.around ≡ m → IsByteEffect (effect i (frame_at turn.frame turn.next) turn.public turn.around).effect → IsByteEffect (shape_effect m (frame_at turn.frame turn.next) turn.public)
  shape_bytes m is bytes = subst (λ (d : Done). IsByteEffect d.effect) (shapes i (frame_at turn.frame turn.next) turn.public turn.around ∙ ap (λ (z : Shape). meaning z (frame_at turn.frame turn.next) turn.public) is) bytes

  -- the outcome of a row, if what follows its act is included
  pub moved_row : (cs : List (Abend × Bool)) (d : ℕ) (a0 a1 : Act) (fl : Option (Bool × Bool)) (w : Work) (ss : List Set) → IsOnly
      → causes i scene blank nobody ≡ cs → causes i (frame_at turn.frame turn.next) turn.public turn.around ≡ cs → shape i scene blank nobody ≡ going d a0 fl → shape i (frame_at turn.frame turn.next) turn.public turn.around ≡ going d a1 fl → work i scene blank ≡ w → is_return a0 ≡ false
      → (NoCause cs → includes_all t (row_arrivals false s i (going d a0 fl) w here there) ≡ true → includes_all t (follows s i (makes_write s turn.frame.protected a1) Goes here (settled_spot s (with_flags fl (acted s a1 ss (lowered d there))))) ≡ true)
      → (NoCause cs → LedBy d a1 ss) → IsRowCovered (row i (frame_at turn.frame turn.next) turn.public turn.around)
  moved_row cs d a0 a1 fl w ss includes stand real m0 m1 works other extract led =
      subst IsRowCovered (row_is cs (going d a1 fl) real m1)
      (walked s u t g loadable leads turn.entry turn.history turn.frame turn.public turn.depth turn.place turn.deep i there cs (going d a0 fl) w (meaning (going d a1 fl) (frame_at turn.frame turn.next) turn.public) (stood cs (going d a0 fl) w includes stand m0 works)
      (λ none all. moved_covered s u t g loadable leads turn.entry turn.history turn.frame turn.public turn.depth turn.place turn.deep i turn.next (going d a1 fl) ss (led none) (shape_bytes (going d a1 fl) m1 turn.after)
      (extract none (subst (λ (b : Bool). includes_all t (row_arrivals (b && no_calls turn.place.calls) s i (going d a0 fl) w here there) ≡ true) other all))))

  -- the same of a row whose last cause is that too many words wait
  pub limited_row : (cs : List (Abend × Bool)) (was is : Bool) (d : ℕ) (a0 a1 : Act) (fl : Option (Bool × Bool)) (w : Work) (ss : List Set) → IsOnly
      → causes i scene blank nobody ≡ cs ++ (A08, was) ∷ [] → causes i (frame_at turn.frame turn.next) turn.public turn.around ≡ cs ++ (A08, is) ∷ [] → shape i scene blank nobody ≡ going d a0 fl → shape i (frame_at turn.frame turn.next) turn.public turn.around ≡ going d a1 fl → work i scene blank ≡ w → is_return a0 ≡ false
      → (NoCause cs → is ≡ true → was ≡ false → may_wait_too_long s turn.frame.protected a0 ≡ true) → (NoCause cs → was ≡ true → is ≡ true)
      → (NoCause cs → includes_all t (row_arrivals false s i (going d a0 fl) w here there) ≡ true → includes_all t (follows s i (makes_write s turn.frame.protected a1) Goes here (settled_spot s (with_flags fl (acted s a1 ss (lowered d there))))) ≡ true)
      → (NoCause cs → LedBy d a1 ss) → IsRowCovered (row i (frame_at turn.frame turn.next) turn.public turn.around)
  limited_row cs was is d a0 a1 fl w ss includes stand real m0 m1 works other waits less extract led =
      subst IsRowCovered (row_is (cs ++ (A08, is) ∷ []) (going d a1 fl) real m1)
      (walked_limit s u t g loadable leads turn.entry turn.history turn.frame turn.public turn.depth turn.place turn.deep i there cs was is (going d a0 fl) w (meaning (going d a1 fl) (frame_at turn.frame turn.next) turn.public) other waits less
      (stood (cs ++ (A08, was) ∷ []) (going d a0 fl) w includes stand m0 works)
      (λ none free all. moved_covered s u t g loadable leads turn.entry turn.history turn.frame turn.public turn.depth turn.place turn.deep i turn.next (going d a1 fl) ss (led none) (shape_bytes (going d a1 fl) m1 turn.after)
      (extract none (subst (λ (b : Bool). includes_all t (row_arrivals (b && no_calls turn.place.calls) s i (going d a0 fl) w here there) ≡ true) other all))))

  -- the same of a row that does what its shape says
  pub shaped_row : (cs : List (Abend × Bool)) (d : ℕ) (a : Act) (fl : Option (Bool × Bool)) → IsOnly
      → causes i scene blank nobody ≡ cs → causes i (frame_at turn.frame turn.next) turn.public turn.around ≡ cs → shape i scene blank nobody ≡ going d a fl → shape i (frame_at turn.frame turn.next) turn.public turn.around ≡ going d a fl
      → work i scene blank ≡ AsShaped → is_return a ≡ false → (NoCause cs → LedBy d a (returned_sets a turn.place.known.bytes turn.frame.dt)) → IsRowCovered (row i (frame_at turn.frame turn.next) turn.public turn.around)
  shaped_row cs d a fl includes stand real m0 m1 works other led =
      moved_row cs d a a fl AsShaped (returned_sets a turn.place.known.bytes turn.frame.dt) includes stand real m0 m1 works other (λ none all. one_shaped s t i d a fl here there all) led

  -- ---- the frame once the stack has fewer bytes

  -- the frame after the fetch with a lower DT
  abbrev pub low_frame : ℕ → Frame
  low_frame d = record (frame_at turn.frame turn.next) { dt = d }

  -- the open calls that end at or below the lower DT
  abbrev pub low_calls : ℕ → List Call
  low_calls d = calls_below d turn.place.calls

  -- what is known once DT is lower
  abbrev pub low_known : ℕ → Known
  low_known d = (lowered d there).known

  -- what is known of it is so
  pub low_seen : (d : ℕ) → Seen (low_calls d) (low_known d) (low_frame d) turn.public
  low_seen d = lowered_at s u t g loadable leads turn.entry turn.history turn.frame turn.public turn.depth turn.place turn.deep i turn.next d

  -- it is a frame of the application
  pub low_framed : (d : ℕ) → dynamic_base + turn.frame.session ≤ d → d ≤ dynamic_end → Framed s.app (low_frame d)
  low_framed d low high = grind (arith, turn.place.frame)

  -- at the top that it had
  pub same_framed : Framed s.app (low_frame turn.frame.dt)
  same_framed = low_framed turn.frame.dt turn.place.frame.low turn.place.frame.high

  -- an act that does nothing leads to what is seen at any lower DT
  pub led_stays : (d : ℕ) (ss : List Set) → dynamic_base + turn.frame.session ≤ d → d ≤ dynamic_end → LedBy d Stays ss
  led_stays d ss low high = stays_led s loadable.static turn.place.start turn.place.standing.allowances (low_frame d) turn.public (low_calls d) (low_known d) ss (low_framed d low high) (low_seen d)

  -- so does a jump
  pub led_jumps : (d : ℕ) (ss : List Set) (taken : Bool) (to : ℕ) → dynamic_base + turn.frame.session ≤ d → d ≤ dynamic_end → LedBy d (Jumps taken to) ss
  led_jumps d ss taken to low high = jumps_led s loadable.static turn.place.start turn.place.standing.allowances (low_frame d) turn.public (low_calls d) (low_known d) ss taken to (low_framed d low high) (low_seen d)

  -- so does a call with room for its four bytes
  pub led_calls : (d : ℕ) (ss : List Set) (taken : Bool) (to : ℕ) → (taken ≡ true → d + 4 ≤ dynamic_end) → dynamic_base + turn.frame.session ≤ d → d ≤ dynamic_end → LedBy d (Calls taken to) ss
  led_calls d ss taken to over low high =
      let inside : turn.next ≤ length s.app.code = turn.inside in
      let places : length s.app.code < 65536 = loadable.places in
      calls_led s loadable.static turn.place.start turn.place.standing.allowances (low_frame d) turn.public (low_calls d) (low_known d) ss taken to over (omega (arith, inside, places)) (low_framed d low high) (low_seen d)

  -- so does an act that sets the reply, at the DT of the turn
  pub led_answers : (ss : List Set) (sw la : Option ℕ) → LedBy turn.frame.dt (Answers sw la) ss
  led_answers ss sw la = answers_led s loadable.static turn.place.start turn.place.standing.allowances (low_frame turn.frame.dt) turn.public (low_calls turn.frame.dt) (low_known turn.frame.dt) ss sw la turn.whole same_framed (low_seen turn.frame.dt)

  -- so does a push for which there is room
  pub led_pushes : (d : ℕ) (b : List ℕ) (ss : List Set) → FitSets b ss → d + length b ≤ dynamic_end → dynamic_base + turn.frame.session ≤ d → d ≤ dynamic_end → LedBy d (Pushes b) ss
  led_pushes d b ss fit over low high = pushes_led s loadable.static turn.place.start turn.place.standing.allowances (low_frame d) turn.public (low_calls d) (low_known d) b ss fit over (low_framed d low high) (low_seen d)

  -- so does a write in a segment
  pub led_writes : (d a n : ℕ) (b : List ℕ) (ss : List Set) → is_none (where_is (low_frame d) a (length b)) ≡ false → FitSets b ss → 0 < length b → dynamic_base + turn.frame.session ≤ d → d ≤ dynamic_end → LedBy d (Writes a n b) ss
  led_writes d a n b ss there fit some low high = writes_led s loadable.static turn.place.start turn.place.standing.allowances (low_frame d) turn.public (low_calls d) (low_known d) a n b ss there fit some turn.whole (low_framed d low high) (low_seen d)

-- A row of one outcome is covered in each of its turns.
abbrev pub RowCase : Ins → Type 0
RowCase i =
    (s : Setting) (u t : Tables) (g : Target) (loadable : IsLoadable s.app) (leads : LeadsInto s u t) (turn : Turn s u i) → IsOnly s u t g loadable leads i turn
    → IsRowCovered s u t g loadable leads i turn (row i (frame_at turn.frame turn.next) turn.public turn.around)

-- what is fetched has one outcome
abbrev pub IsFetchedOnce : Ins → Type 0
IsFetchedOnce i =
    (s : Setting) (u t : Tables) (g : Target) (loadable : IsLoadable s.app) (leads : LeadsInto s u t) (turn : Turn s u i)
    → includes_all t (fetched s (spot_of turn.place.start turn.place.standing.allowances turn.frame turn.place.calls turn.place.known) (Ok (i, turn.next))) ≡ true → IsOnly s u t g loadable leads i turn

-- A row is covered in each of its turns, if what was fetched is included. It may ask which frame delegated.
abbrev pub FetchedCase : Ins → Type 0
FetchedCase i =
    (s : Setting) (u t : Tables) (g : Target) (loadable : IsLoadable s.app) (leads : LeadsInto s u t) (turn : Turn s u i) → IsDelegator turn.around.delegator
    → includes_all t (fetched s (here s u t g loadable leads i turn) (Ok (i, turn.next))) ≡ true → IsRowCovered s u t g loadable leads i turn (row i (frame_at turn.frame turn.next) turn.public turn.around)

-- so its law holds
pub law_from : (i : Ins) → FetchedCase i → LeadLaw i
law_from i case r g u t loadable leads e h f public depth x next p entry deep names segment at =
    let s : Setting = record { rules = r; app = g.app } in
    let decoded : Decodes s.app.code f.at i next = decoded_at s u t g loadable leads f i next at in
    let turn : Turn s u i = record {
      entry = e;
      history = h;
      frame = f;
      public = public;
      depth = depth;
      place = p;
      deep = deep;
      next = next;
      around = x;
      fits = entry;
      whole = segment.0;
      bytes = segment.1 tt;
      shaped = decoded.shaped;
      after_it = decoded.place;
      inside = decoded.inside;
      after = leaves_bytes s u t g loadable leads f public i next x at p.frame p.dynamic (segment.1 tt) names;
    }
    in
    case s u t g loadable leads turn names (included_at s u t g loadable leads e h f public i next p at)

-- a row of one outcome is covered
pub law_of : (i : Ins) → IsFetchedOnce i → RowCase i → LeadLaw i
law_of i once case = law_from i (λ s u t g loadable leads turn names e. case s u t g loadable leads turn (once s u t g loadable leads turn e))
