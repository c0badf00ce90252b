-- From an instruction at a place of tables to what follows it in those that they lead into: the first cause that holds,
-- the event, the next place, and the stops of its write.
use Rattle.std.proofs.Common.{◌≡◌, ℕ, ◌-◌, ◌≤◌, Bool, true, false, cond, List, [], ◌∷◌, ◌++◌, length, Option, Some, None, Result, Ok, refl, sym, ap, subst, ◌∙◌, arith}
use Rattle.std.specs.Prelude.{◌&&◌, flat_map}
use Rattle.std.specs.List.{AllByRecursion}
use Rattle.std.proofs.lemmas.Bool.{and_parts}
use Rattle.model_prove.specs.model_device.specs.Bytes.{AreBytes, zeros}
use Rattle.model_prove.specs.model_device.specs.Card.{App}
use Rattle.model_prove.specs.model_machine.specs.declared.instruction.Ins.{Ins}
use Rattle.model_prove.specs.model_machine.specs.declared.machine.Abend.{Abend}
use Rattle.model_prove.specs.model_machine.specs.declared.machine.Abend.TheVariants.{A08}
use Rattle.model_prove.specs.model_machine.specs.declared.instruction.DecodeFault.{DecodeFault}
use Rattle.model_prove.specs.model_machine.specs.Code.{Decodes, DecodesTo, instruction_at}
use Rattle.model_prove.specs.model_machine.specs.Frame.{Frame, Effect, public_base, public_end}
use Rattle.model_prove.specs.model_machine.specs.Primitives.{Around, Done, Goes, effect_and_next}
use Rattle.model_prove.specs.model_machine.specs.Row.{effect, first_cause, Does, row_end}
use Rattle.model_prove.specs.model_machine.specs.Chain.{frame_at}
use Rattle.model_prove.specs.model_machine.specs.Shapes.{Shape, act_effect, shape_effect}
use Rattle.law_rules.specs.law_bytes.specs.law_rows.proofs.PlaceLemmas.{decoded_stands}
use Rattle.law_rules.specs.law_bytes.specs.OfBytes.{IsByteFrame, IsByteEffect, IsCaller}
use Rattle.law_rules.specs.law_bytes.proofs.ByteLists.{laid, indexed}
use Rattle.law_rules.specs.law_bytes.proofs.RowBytes.{effect_bytes}
use Rattle.model_prove.specs.model_events.specs.Deeds.{Deed}
use Rattle.law_rules.specs.law_promise.specs.Outline.{Entry, BySelection, ByDelegation, is_direct}
use Rattle.law_rules.specs.law_promise.specs.Domain.{RowCovered, WriteCovered, StopCovered, FitsDepth, IsDelegator}
use Rattle.law_rules.specs.Law.{domain_of_rules}
use Rattle.model_prove.specs.model_rules.specs.Rules.{Target}
use Rattle.model_prove.specs.model_rules.specs.Happenings.{Event, History, Did, Session}
use Rattle.model_prove.specs.model_rules.specs.Keeping.{Amounts, Standing, after_occasion, OnTurn, line_of, line_of_deed, after_deed, standing_after}
use Rattle.model_prove.specs.Sets.{Set}
use Rattle.model_prove.specs.Facts.{Facts, Holds}
use Rattle.model_prove.specs.Keys.{Start, Delegated, OfClass, Call, PlaceKey, Tables, calls_below}
use Rattle.model_prove.specs.Splits.{stand_in, stand_in_stack}
use Rattle.model_prove.specs.Laws.{HoldsBytes}
use Rattle.model_prove.specs.Work.{Work}
use Rattle.model_prove.specs.Arrivals.{Setting, Arrival, static_size, idle, stopped, fails, after_session, after_turn}
use Rattle.model_prove.specs.Steps.{Spot, lowered, acted, with_flags, settled_spot, makes_write, may_wait_too_long, stops, stop_before, arrived, follows, row_arrivals, caused, instruction, arounds, fetched, is_return, no_calls, spots}
use Rattle.model_prove.specs.model_rules.specs.Loadable.{IsLoadable}
use Rattle.model_prove.specs.Tables.{includes, includes_all}
use Rattle.law_prove.specs.Coverings.{moment_memory, frame_memory, StartsAs, IsFrameOf, IsPlace, covering_of}
use Rattle.law_prove.specs.Laws.{LeadsInto}
use Rattle.law_prove.proofs.Closed.{included_first, included_second, Arrives, arrives, moment_included}
use Rattle.law_prove.proofs.Moments.{cond_small, memory_bytes, session_stands, from_memory}
use Rattle.law_prove.proofs.Places.{fails_by}
use Rattle.law_prove.proofs.Spots.{did_stands, turn_arrives, place_key, Covers, spot_arrives}
use Rattle.law_prove.proofs.Known.{around_none}
use Rattle.law_prove.proofs.Seen.{Seen}
use Rattle.law_prove.proofs.Acts.{spot_of, Framed, WritesIf, Led, flags_led, led_covers, lowered_seen}

-- ---- frames of bytes

-- a frame of bytes of the application is one of its frames
pub frame_of : (a : App) (f : Frame) → Framed a f → IsByteFrame f → IsFrameOf a f
frame_of a f framed bytes = grind arith

-- each frame of the application is one of whatever numbers
pub framed_of : (a : App) (f : Frame) → IsFrameOf a f → Framed a f
framed_of a f frame = grind arith

-- a frame of bytes with a public segment of bytes has a memory of bytes
pub memory_of_bytes : (f : Frame) (public : List ℕ) → IsByteFrame f → AreBytes public → HoldsBytes (frame_memory f public)
memory_of_bytes f public bytes others a = grind (arith, cond_small, indexed, laid)

caller_of : (o : Option (List ℕ)) → IsDelegator o → IsCaller o
caller_of None h = tt
caller_of (Some name) h = let most : length name ≤ 16 = h.most in (h.bytes, omega (arith, most))

-- ---- causes

-- none of some causes holds
abbrev pub NoCause : List (Abend × Bool) → Type 0
NoCause cs = AllByRecursion (λ c. c.1 ≡ false) cs

-- the frame that stands for another: its registers, and zeros
abbrev pub like : Frame → List ℕ → Frame
like f dyn = record f { name = []; fixed = zeros (length f.fixed); pieces = []; dyn = dyn }

-- the bytes that stand for a public segment
abbrev pub blank : List ℕ
blank = zeros (public_end - public_base)

-- of a row that does not ask who delegated to its frame
abbrev pub nobody : Around
nobody = record { case = 1; delegator = None }

-- what stands for a place is like its frame
pub stand_in_like : (a : App) (f : Frame) (st : Start) (al : Amounts) (calls : List Call) (next : ℕ) → Framed a f
    → frame_at (stand_in a (place_key st al f calls)).frame next ≡ like (frame_at f next) (stand_in_stack calls)
stand_in_like a f st al calls next framed = grind arith

-- the only outcome of what was fetched, in the scene of a frame, where no byte decides
abbrev pub only : Setting → Ins → Frame → Spot → Spot → List Arrival
only s i scene p q = flat_map (instruction s i (record { frame = scene; public = blank }) p q) (arounds p.key.start None)

module _ (s : Setting) (u t : Tables) (g : Target) (loadable : IsLoadable s.app) (leads : LeadsInto s u t) where
  -- ---- stops

  -- a stop in a write leads to a moment without a session
  pub stopped_arrives : (e : Entry Event) (h : History) (fixed : List ℕ) (start : Start) (x : Standing) (kept : Facts) → StartsAs s.rules e start → standing_after s.rules h ≡ Ok x
      → ((session : List ℕ) → AreBytes session → Holds kept (moment_memory fixed session)) → length fixed ≡ static_size s → AreBytes fixed
      → includes_all t (stopped s start x.allowances kept) ≡ true → StopCovered (domain_of_rules g (covering_of s t)) e h fixed
  stopped_arrives (BySelection bytes apdu before) h fixed (OfClass class) x kept starts stands holds size static includes =
      let next : Arrives t (after_session s x.allowances) (λ b. idle b kept) = arrives t None (after_session s x.allowances) (λ b. idle b kept) includes in
      from_memory s t false (Session ∷ h) fixed [] (record x { allowances = next.allowances }) (session_stands s h x next.allowances stands next.is) size static tt
      (moment_included t (record { selected = false; allowances = next.allowances }) kept (moment_memory fixed []) next.rest (holds [] tt) (memory_bytes fixed [] static tt))
  stopped_arrives ByDelegation h fixed Delegated x kept starts stands holds size static includes =
      from_memory s t false h fixed [] x stands size static tt
      (moment_included t (record { selected = false; allowances = x.allowances }) kept (moment_memory fixed []) includes (holds [] tt) (memory_bytes fixed [] static tt))
  stopped_arrives (BySelection bytes apdu before) h fixed Delegated x kept starts stands holds size static includes = absurd starts
  stopped_arrives ByDelegation h fixed (OfClass class) x kept starts stands holds size static includes = absurd starts

  module _ (e : Entry Event) (h : History) (f : Frame) (public : List ℕ) (depth : ℕ) (p : IsPlace s u e h f public) (deep : FitsDepth e depth) (i : Ins) where
    -- the place before the instruction
    abbrev pub before_it : Spot
    before_it = spot_of p.start p.standing.allowances f p.calls p.known

    -- ---- an instruction that was done

    writes_covered : (k : History) (d : Done) (q : Spot) (w : Bool) (x : Standing) (c : Option (List (ℕ × List ℕ))) → WritesIf w c → standing_after s.rules k ≡ Ok x → q.key.start ≡ p.start
        → Covers q d.effect.frame d.effect.public → IsFrameOf s.app d.effect.frame
        → includes_all t (stop_before w s before_it) ≡ true → includes_all t (stops w s before_it q x.allowances) ≡ true
        → WriteCovered (domain_of_rules g (covering_of s t)) e h k f d c
    writes_covered k d q w x c is stands same covers frame first second = grind (arith, stopped_arrives)

    -- the next place, after the event
    pub goes_covered : (d : Effect) (q : Spot) (w : Bool) → q.key.start ≡ p.start → Covers q d.frame d.public → IsFrameOf s.app d.frame → HoldsBytes (frame_memory d.frame d.public) → AreBytes d.frame.dyn → WritesIf w d.changes
        → includes_all t (follows s i w Goes before_it q) ≡ true → RowCovered (domain_of_rules g (covering_of s t)) e h f public depth i (Does (effect_and_next d))
    goes_covered d q w same covers frame bytes dyn writes all =
        let k : PlaceKey = place_key p.start p.standing.allowances f p.calls in
        let deed : Deed = record { frame = f; public = public; direct = is_direct e; depth = depth; ins = i; effect = d } in
        let next : Amounts → List Arrival = λ a. arrived q a ∷ stops w s before_it q a in
        let turn : List Arrival = after_turn s k i q.key.dt q.key.c q.key.z next in
        let line : List ℕ = line_of depth f.at i q.key.dt q.key.c q.key.z in
        let n : Arrives t (after_occasion s.rules.ons (OnTurn line) p.standing.allowances) next =
        turn_arrives s t e k i q.key.dt q.key.c q.key.z next depth p.starts deep (included_second t (stop_before w s before_it) turn all)
        in
        let alike : line ≡ line_of_deed deed = ap (λ (z : PlaceKey). line_of depth f.at i z.dt z.c z.z) (covers.key []) in
        let is : after_occasion s.rules.ons (OnTurn (line_of_deed deed)) p.standing.allowances ≡ Ok n.allowances = sym (ap (λ (z : List ℕ). after_occasion s.rules.ons (OnTurn z) p.standing.allowances) alike) ∙ n.is in
        let x : Standing = record (after_deed s.rules f.protected deed p.standing) { allowances = n.allowances } in
        let stands : standing_after s.rules (Did deed ∷ h) ≡ Ok x = did_stands s h deed p.standing n.allowances p.stands is in
        let parts = and_parts (includes t (arrived q n.allowances)) (includes_all t (stops w s before_it q n.allowances)) n.rest in
        record {
          write = writes_covered (Did deed ∷ h) (effect_and_next d) q w x d.changes writes stands same covers frame (included_first t (stop_before w s before_it) turn all) parts.1;
          next = spot_arrives s t e (Did deed ∷ h) d.frame d.public q x covers (subst (λ (z : Start). StartsAs s.rules e z) (sym same) p.starts) stands frame bytes dyn (ap (λ (b : Bool). b && true) parts.0);
        }

    -- ---- causes

    module _ (q : Spot) where
      walked_by : (b : Bool) (c : Abend) (cs : List (Abend × Bool)) (m : Shape) (w : Work) (d : Done) → includes_all t (caused (cond b (Some c) (first_cause cs)) s i m w before_it q) ≡ true
          → (b ≡ false → includes_all t (caused (first_cause cs) s i m w before_it q) ≡ true → RowCovered (domain_of_rules g (covering_of s t)) e h f public depth i (row_end (first_cause cs) d))
          → RowCovered (domain_of_rules g (covering_of s t)) e h f public depth i (row_end (cond b (Some c) (first_cause cs)) d)
      walked_by true c cs m w d includes rest = fails_by s u t g loadable leads e h f public p c s.rules.abends (place_key p.start p.standing.allowances f p.calls) refl refl refl includes
      walked_by false c cs m w d includes rest = rest refl includes

      -- a row by its causes: an abend by the first that holds, or what follows if none does
      pub walked : (cs : List (Abend × Bool)) (m : Shape) (w : Work) (d : Done) → includes_all t (caused (first_cause cs) s i m w before_it q) ≡ true
          → (NoCause cs → includes_all t (row_arrivals (is_return m.act && no_calls p.calls) s i m w before_it q) ≡ true → RowCovered (domain_of_rules g (covering_of s t)) e h f public depth i (Does d))
          → RowCovered (domain_of_rules g (covering_of s t)) e h f public depth i (row_end (first_cause cs) d)
      walked [] m w d includes done = done tt includes
      walked (c ∷ cs) m w d includes done = walked_by c.1 c.0 cs m w d includes (λ none more. walked cs m w d more (λ others all. done (none, others) all))

      limit_by : (was is : Bool) (m : Shape) (w : Work) (d : Done) → is_return m.act ≡ false → (is ≡ true → was ≡ false → may_wait_too_long s f.protected m.act ≡ true) → (was ≡ true → is ≡ true)
          → includes_all t (caused (first_cause ((A08, was) ∷ [])) s i m w before_it q) ≡ true
          → (is ≡ false → includes_all t (row_arrivals (is_return m.act && no_calls p.calls) s i m w before_it q) ≡ true → RowCovered (domain_of_rules g (covering_of s t)) e h f public depth i (Does d))
          → RowCovered (domain_of_rules g (covering_of s t)) e h f public depth i (row_end (first_cause ((A08, is) ∷ [])) d)
      limit_by true true m w d other waits less includes done = fails_by s u t g loadable leads e h f public p A08 s.rules.abends (place_key p.start p.standing.allowances f p.calls) refl refl refl includes
      limit_by true false m w d other waits less includes done = absurd (cc (less refl))
      limit_by false true m w d other waits less includes done =
          let rest : List Arrival = flat_map (λ r. follows s i (makes_write s f.protected m.act) m.next before_it (settled_spot s r)) (spots s m w q) in
          let all : includes_all t (row_arrivals false s i m w before_it q) ≡ true = subst (λ (b : Bool). includes_all t (row_arrivals (b && no_calls p.calls) s i m w before_it q) ≡ true) other includes in
          let one : includes_all t (cond (may_wait_too_long s f.protected m.act) (fails s (place_key p.start p.standing.allowances f p.calls) p.known A08) []) ≡ true =
          grind (arith, included_first, place_key) in
          fails_by s u t g loadable leads e h f public p A08 s.rules.abends (place_key p.start p.standing.allowances f p.calls) refl refl refl
          (subst (λ (b : Bool). includes_all t (cond b (fails s (place_key p.start p.standing.allowances f p.calls) p.known A08) []) ≡ true) (waits refl refl) one)
      limit_by false false m w d other waits less includes done = done refl includes

      -- the same of a row whose last cause is that too many words wait
      pub walked_limit : (cs : List (Abend × Bool)) (was is : Bool) (m : Shape) (w : Work) (d : Done) → is_return m.act ≡ false → (NoCause cs → is ≡ true → was ≡ false → may_wait_too_long s f.protected m.act ≡ true) → (NoCause cs → was ≡ true → is ≡ true)
          → includes_all t (caused (first_cause (cs ++ (A08, was) ∷ [])) s i m w before_it q) ≡ true
          → (NoCause cs → is ≡ false → includes_all t (row_arrivals (is_return m.act && no_calls p.calls) s i m w before_it q) ≡ true → RowCovered (domain_of_rules g (covering_of s t)) e h f public depth i (Does d))
          → RowCovered (domain_of_rules g (covering_of s t)) e h f public depth i (row_end (first_cause (cs ++ (A08, is) ∷ [])) d)
      walked_limit [] was is m w d other waits less includes done = limit_by was is m w d other (waits tt) (less tt) includes (done tt)
      walked_limit (c ∷ cs) was is m w d other waits less includes done = limited_by c.1 c.0 cs was is m w d includes (λ none more. walked_limit cs was is m w d other (λ others. waits (none, others)) (λ others. less (none, others)) more (λ others. done (none, others)))
        where
          limited_by : (b : Bool) (c : Abend) (cs : List (Abend × Bool)) (was is : Bool) (m : Shape) (w : Work) (d : Done) → includes_all t (caused (cond b (Some c) (first_cause (cs ++ (A08, was) ∷ []))) s i m w before_it q) ≡ true
              → (b ≡ false → includes_all t (caused (first_cause (cs ++ (A08, was) ∷ [])) s i m w before_it q) ≡ true → RowCovered (domain_of_rules g (covering_of s t)) e h f public depth i (row_end (first_cause (cs ++ (A08, is) ∷ [])) d))
              → RowCovered (domain_of_rules g (covering_of s t)) e h f public depth i (row_end (cond b (Some c) (first_cause (cs ++ (A08, is) ∷ []))) d)
          limited_by true c cs was is m w d includes rest = fails_by s u t g loadable leads e h f public p c s.rules.abends (place_key p.start p.standing.allowances f p.calls) refl refl refl includes
          limited_by false c cs was is m w d includes rest = rest refl includes

  -- ---- what was fetched

  -- what was fetched at a place is included
  pub included_at : (e : Entry Event) (h : History) (f : Frame) (public : List ℕ) (i : Ins) (next : ℕ) (p : IsPlace s u e h f public) → instruction_at s.app.code f.at ≡ Ok (i, next)
      → includes_all t (fetched s (spot_of p.start p.standing.allowances f p.calls p.known) (Ok (i, next))) ≡ true
  included_at e h f public i next p at =
      grind (arith, spot_of p.start p.standing.allowances f p.calls p.known, leads (spot_of p.start p.standing.allowances f p.calls p.known).key p.known p.there)

  -- if no byte decides, its outcome is the instruction's in a scene like the frame
  pub only_one : (e : Entry Event) (h : History) (f : Frame) (public : List ℕ) (i : Ins) (next : ℕ) (p : IsPlace s u e h f public)
      → includes_all t ((only s i (frame_at (stand_in s.app (place_key p.start p.standing.allowances f p.calls)).frame next) (spot_of p.start p.standing.allowances f p.calls p.known) (spot_of p.start p.standing.allowances (frame_at f next) p.calls p.known) ++ []) ++ []) ≡ true
      → includes_all t (instruction s i (record { frame = like (frame_at f next) (stand_in_stack p.calls); public = blank }) (spot_of p.start p.standing.allowances f p.calls p.known) (spot_of p.start p.standing.allowances (frame_at f next) p.calls p.known) nobody) ≡ true
  only_one e h f public i next p includes = grind (arith, spot_of, place_key, around_none, included_first, stand_in_like, framed_of)

  -- ---- bytes

  -- what was read at a place
  pub decoded_at : (f : Frame) (i : Ins) (next : ℕ) → instruction_at s.app.code f.at ≡ Ok (i, next) → Decodes s.app.code f.at i next
  decoded_at f i next at = subst (λ (z : Result (Ins × ℕ) DecodeFault). DecodesTo s.app.code f.at z) at (decoded_stands s.app.code f.at loadable.code)

  -- an instruction that was done leaves bytes
  pub leaves_bytes : (f : Frame) (public : List ℕ) (i : Ins) (next : ℕ) (x : Around) → instruction_at s.app.code f.at ≡ Ok (i, next) → IsFrameOf s.app f → AreBytes f.dyn → AreBytes public → IsDelegator x.delegator
      → IsByteEffect (effect i (frame_at f next) public x).effect
  leaves_bytes f public i next x at frame dyn others names =
      effect_bytes i (frame_at f next) public x (decoded_at f i next at).shaped (record { static = frame.static; pieces = frame.pieces; stack = dyn }) others (caller_of x.delegator names)

  -- ---- a row that goes on by its act

  module _ (e : Entry Event) (h : History) (f : Frame) (public : List ℕ) (depth : ℕ) (p : IsPlace s u e h f public) (deep : FitsDepth e depth) (i : Ins) (next : ℕ) where
    -- what is known of the frame after the fetch
    pub seen_at : Seen p.calls p.known (frame_at f next) public
    seen_at = record { open_calls = p.open_calls; holds = p.holds; compares = p.compares; keeps = λ on session d. p.keeps session d }

    -- the place after a shape's act, whose bytes have values of these sets
    abbrev pub after_act : Shape → List Set → Spot
    after_act m ss = with_flags m.flags (acted s m.act ss (lowered m.dt (spot_of p.start p.standing.allowances (frame_at f next) p.calls p.known)))

    -- if the act leads to what is seen, the row is covered
    pub moved_covered : (m : Shape) (ss : List Set) → Led s p.start p.standing.allowances (acted s m.act ss (lowered m.dt (spot_of p.start p.standing.allowances (frame_at f next) p.calls p.known))) (makes_write s f.protected m.act) (act_effect m.act (record (frame_at f next) { dt = m.dt }) public)
        → IsByteEffect (shape_effect m (frame_at f next) public)
        → includes_all t (follows s i (makes_write s f.protected m.act) Goes (spot_of p.start p.standing.allowances f p.calls p.known) (settled_spot s (after_act m ss))) ≡ true
        → RowCovered (domain_of_rules g (covering_of s t)) e h f public depth i (Does (effect_and_next (shape_effect m (frame_at f next) public)))
    moved_covered m ss led bytes includes =
        let d : Effect = shape_effect m (frame_at f next) public in
        let all : Led s p.start p.standing.allowances (after_act m ss) (makes_write s f.protected m.act) d = grind (arith, flags_led, spot_of) in
        goes_covered e h f public depth p deep i d (settled_spot s (after_act m ss)) (makes_write s f.protected m.act) (ap (λ (k : PlaceKey). k.start) all.key)
        (led_covers s p.start p.standing.allowances (after_act m ss) (makes_write s f.protected m.act) d all) (frame_of s.app d.frame all.framed bytes.frame)
        (memory_of_bytes d.frame d.public bytes.frame bytes.public) bytes.frame.stack all.writes includes

    -- what is known once the stack has fewer bytes
    pub lowered_at : (d : ℕ) → Seen (calls_below d p.calls) (lowered d (spot_of p.start p.standing.allowances (frame_at f next) p.calls p.known)).known (record (frame_at f next) { dt = d }) public
    lowered_at d = lowered_seen d p.start p.standing.allowances (frame_at f next) public p.calls p.known seen_at
