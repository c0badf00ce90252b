-- Where a frame begins by a delegation, and where the budget ends at a place, closed tables have what follows.
use Rattle.std.proofs.Common.{◌≡◌, ℕ, zero, suc, ◌+◌, ◌-◌, ◌<◌, ◌≤◌, Bool, true, false, cond, List, [], ◌∷◌, ◌++◌, length, take, Option, Some, None, Result, Ok, Err, refl, sym, ap, subst, ◌∙◌, arith}
use Rattle.std.specs.Prelude.{◌&&◌, map, unwrap_or, slice_index}
use Rattle.std.proofs.lemmas.Bool.{and_parts, ltb-true, lt-ltb, false_from_ne_true}
use Rattle.std.proofs.lemmas.List.{length-replicate, length-append, get_or-take}
use Rattle.model_prove.specs.model_device.specs.Bytes.{AreBytes, zeros}
use Rattle.model_prove.specs.model_text.specs.Text.{◌>>=◌}
use Rattle.model_prove.specs.model_text.specs.Listing.{hex_text}
use Rattle.model_prove.specs.model_machine.specs.declared.machine.Abend.{Abend}
use Rattle.model_prove.specs.model_machine.specs.declared.machine.Abend.TheVariants.{A01, A02, A07}
use Rattle.model_prove.specs.model_machine.specs.declared.instruction.Ins.{Ins}
use Rattle.model_prove.specs.model_machine.specs.declared.instruction.DecodeFault.{DecodeFault}
use Rattle.model_prove.specs.model_machine.specs.declared.instruction.DecodeFault.TheVariants.{Undefined, Past}
use Rattle.model_prove.specs.model_machine.specs.Frame.{Frame, dynamic_base, session_of, new_frame}
use Rattle.model_prove.specs.model_machine.specs.Chain.{Outcome, Abended}
use Rattle.model_prove.specs.model_machine.specs.Code.{instruction_at}
use Rattle.model_prove.specs.model_text.specs.TurnText.{outcome_text}
use Rattle.law_rules.specs.law_promise.specs.History.{fetch_cause}
use Rattle.law_rules.specs.law_promise.specs.Outline.{Entry, BySelection, ByDelegation}
use Rattle.law_rules.specs.law_promise.specs.Domain.{AbendCovered, EndCovered}
use Rattle.model_prove.specs.model_events.specs.Matching.{fits}
use Rattle.model_prove.specs.model_rules.specs.Rules.{Target}
use Rattle.model_prove.specs.model_rules.specs.Happenings.{Event, History, Failed, Answers}
use Rattle.model_prove.specs.model_rules.specs.Keeping.{Amounts, Break, Standing, after_occasion, OnAnswer, with_allowances, after_abend, after_event, standing_after}
use Rattle.law_rules.specs.Law.{domain_of_rules}
use Rattle.model_prove.specs.Facts.{Facts, Memory, Holds, follow}
use Rattle.model_prove.specs.Compares.{Compare, NoCompare, IsSo}
use Rattle.model_prove.specs.Keys.{Start, Delegated, OfClass, PlaceKey, Known, Tables, same_places, compare_follows, known_follows}
use Rattle.model_prove.specs.Laws.{HoldsBytes}
use Rattle.model_prove.specs.Arrivals.{Setting, AtPlace, static_size, session_facts, in_session, abended, fails_unless, after_answer, result_patterns}
use Rattle.model_prove.specs.Steps.{Spot, place_arrivals, fetched}
use Rattle.model_prove.specs.Between.{classes, selected, continued, created, static_facts, with_zero_session, first_place}
use Rattle.model_prove.specs.Tables.{place_at, has_known, includes, includes_all, moments_closed, places_closed, is_closed}
use Rattle.model_prove.specs.model_rules.specs.Loadable.{IsLoadable}
use Rattle.model_prove.proofs.FactLemmas.{follow_holds}
use Rattle.model_prove.proofs.ChangeLemmas.{written_holds}
use Rattle.law_prove.specs.Coverings.{moment_memory, IsMoment, frame_memory, class_of, StartsAs, IsFrameOf, IsPlace, key_of, covering_of}
use Rattle.law_prove.specs.Laws.{LeadsInto, LeadLaw, RowLaw, PlaceLaw}
use Rattle.law_prove.proofs.Keys.{places_are}
use Rattle.law_prove.proofs.Closed.{included_first, included_second, Arrives, arrives, moment_included, moment_closed}
use Rattle.law_prove.proofs.Moments.{cond_small, memory_bytes, within_holds, zero_at, bytes_in, from_memory}
use Rattle.law_prove.proofs.Parts.{memory_static, memory_dynamic}
use Rattle.law_prove.proofs.Picks.{answered_is}
use Rattle.law_rules.specs.law_bytes.proofs.ByteLists.{indexed, zero_bytes}

-- ---- places of the tables

-- a key of the tables, with what is known there
pub record HasPlace (t : Tables) (k : PlaceKey) (known : Known) : Type 0 where
  pub found : Known
  pub there : place_at t.places k ≡ Some found
  pub follows : known_follows known found ≡ true

has_place : (t : Tables) (k : PlaceKey) (known : Known) (found : Option Known) → place_at t.places k ≡ found → has_known known found ≡ true → HasPlace t k known
has_place t k known None is e = absurd (cc e)
has_place t k known (Some l) is e = record { found = l; there = is; follows = e }

-- a place that is included is one of the tables' places
pub place_included : (t : Tables) (k : PlaceKey) (known : Known) → includes_all t (AtPlace k known ∷ []) ≡ true → HasPlace t k known
place_included t k known e = has_place t k known (place_at t.places k) refl (and_parts (has_known known (place_at t.places k)) true e).0

-- the outcomes of a place of the tables are included
places_by : (s : Setting) (t : Tables) (n k : PlaceKey) (g f : Known) (b : Bool) (rest : Option Known) → same_places n k ≡ b → cond b (Some g) rest ≡ Some f → includes_all t (place_arrivals s n g) ≡ true
    → (rest ≡ Some f → includes_all t (place_arrivals s k f) ≡ true) → includes_all t (place_arrivals s k f) ≡ true
places_by s t n k g f true rest is e outcomes again = grind (arith, places_are n k is, ap (λ (z : Option Known). unwrap_or z g) e)
places_by s t n k g f false rest is e outcomes again = again e

-- each place of closed places has its outcomes included
pub places_in : (s : Setting) (t : Tables) (ps : List (PlaceKey × Known)) (k : PlaceKey) (f : Known) → places_closed s t ps ≡ true → place_at ps k ≡ Some f → includes_all t (place_arrivals s k f) ≡ true
places_in s t [] k f c e = absurd (cc e)
places_in s t (n ∷ ps) k f c e =
    let p = and_parts (includes_all t (place_arrivals s n.0 n.1)) (places_closed s t ps) c in
    places_by s t n.0 k n.1 f (same_places n.0 k) (place_at ps k) refl e p.0 (λ rest. places_in s t ps k f p.1 rest)

-- each place of closed tables has its outcomes included
pub place_closed : (s : Setting) (t : Tables) (k : PlaceKey) (f : Known) → is_closed s t ≡ true → place_at t.places k ≡ Some f → includes_all t (place_arrivals s k f) ≡ true
unfolding is_closed
place_closed s t k f c e = places_in s t t.places k f (and_parts (includes t (created s) && moments_closed s (classes s.rules) t t.moments) (places_closed s t t.places) c).1 e

-- closed tables lead into themselves
pub closed_leads : (s : Setting) (t : Tables) → is_closed s t ≡ true → LeadsInto s t t
closed_leads s t closed k known there = place_closed s t k known closed there

-- so a row that tables cover into which others lead is one that closed tables cover
pub of_closed : (i : Ins) → LeadLaw i → RowLaw i
of_closed i law r g t loadable closed = law r g t t loadable (closed_leads (record { rules = r; app = g.app }) t closed)

-- ---- what follows of what is known

-- what follows from no compare holds of every memory
pub compares_so : (c d : Compare) (m : Memory) → compare_follows c d ≡ true → c ≡ NoCompare → IsSo d m
compares_so c d m e none = grind arith

-- facts of two lists that hold hold together
pub holds_both : (f g : Facts) (m : Memory) → Holds f m → Holds g m → Holds (f ++ g) m
holds_both [] g m x y = y
holds_both (e ∷ f) g m x y = (x.0, holds_both f g m x.1 y)

-- ---- ends

-- an answer leaves what its lines do
pub answer_stands : (s : Setting) (h : History) (bytes : List ℕ) (outcome : Outcome) (class : List Bool) (x : Standing) (b : Amounts) → class ≡ class_of bytes s.rules.ons → standing_after s.rules h ≡ Ok x
    → after_answer s class (map (λ q. fits q (outcome_text outcome)) (result_patterns s.rules.ons)) x.allowances ≡ Ok b → standing_after s.rules (Answers bytes outcome ∷ h) ≡ Ok (record x { allowances = b })
answer_stands s h bytes outcome class x b same is e =
    let results = map (λ q. fits q (outcome_text outcome)) (result_patterns s.rules.ons) in
    let after : after_occasion s.rules.ons (OnAnswer (hex_text bytes) (outcome_text outcome)) x.allowances ≡ Ok b =
    sym (answered_is bytes (outcome_text outcome) s.rules.ons x.allowances) ∙ (sym (ap (λ (z : List Bool). after_answer s z results x.allowances) same) ∙ e)
    in
    ap (λ (z : Result Standing Break). z >>= after_event s.rules (Answers bytes outcome)) is ∙ ap (λ (z : Result Amounts Break). z >>= with_allowances x) after

-- a frame that a delegation begins
abbrev pub begun_frame : Setting → Target → List ℕ → Frame
begun_frame s g fixed = new_frame g.name (length s.app.code) s.app.deny fixed (zeros s.app.session)

module _ (s : Setting) (t : Tables) (g : Target) (loadable : IsLoadable s.app) where
  -- the session bytes of a frame are those of the moment after its command
  pub session_same : (f : Frame) (public : List ℕ) (a : ℕ) → IsFrameOf s.app f → dynamic_base ≤ a → a < dynamic_base + s.app.session → frame_memory f public a ≡ moment_memory f.fixed (session_of f) a
  session_same f public a fits low high = grind (arith, false_from_ne_true, ltb-true, memory_dynamic, get_or-take)

  session_bytes : (f : Frame) → AreBytes f.dyn → AreBytes (session_of f)
  session_bytes f h = taken f.session f.dyn h
    where
      taken : (n : ℕ) (l : List ℕ) → AreBytes l → AreBytes (take n l)
      taken zero l h = tt
      taken (suc n) [] h = tt
      taken (suc n) (x ∷ xs) h = (h.0, taken n xs h.1)

  -- an abend at a place: the answer to the command, or the end of the delegation
  pub abend_arrives : (e : Entry Event) (h : History) (f : Frame) (public : List ℕ) (start : Start) (x : Standing) (k : Known) (cause : Abend) → StartsAs s.rules e start → standing_after s.rules h ≡ Ok x
      → ((session : List ℕ) → AreBytes session → Holds k.kept (moment_memory f.fixed session)) → Holds k.bytes (frame_memory f public) → IsFrameOf s.app f → AreBytes f.dyn
      → includes_all t (abended s start x.allowances k cause) ≡ true → EndCovered (domain_of_rules g (covering_of s t)) e h f.fixed (session_of f) (Abended cause)
  abend_arrives (BySelection bytes apdu before) h f public (OfClass class) x k cause starts stands kept holds frame dyn e =
      let r = after_answer s class (map (λ q. fits q (outcome_text (Abended cause))) (result_patterns s.rules.ons)) x.allowances in
      let next : Arrives t r (in_session s k) = arrives t None r (in_session s k) e in
      let m : Memory = moment_memory f.fixed (session_of f) in
      let own : Holds (session_facts s k) m = within_holds dynamic_base (dynamic_base + s.app.session) k.bytes (frame_memory f public) m (λ a low high. session_same f public a frame low high) holds in
      from_memory s t true (Answers bytes (Abended cause) ∷ h) f.fixed (session_of f) (record x { allowances = next.allowances }) (answer_stands s h bytes (Abended cause) class x next.allowances starts stands next.is)
      frame.size frame.static (session_bytes f dyn)
      (moment_included t (record { selected = true; allowances = next.allowances }) (k.kept ++ session_facts s k) m next.rest (holds_both k.kept (session_facts s k) m (kept (session_of f) (session_bytes f dyn)) own)
      (memory_bytes f.fixed (session_of f) frame.static (session_bytes f dyn)))
  abend_arrives ByDelegation h f public Delegated x k cause starts stands kept holds frame dyn e =
      from_memory s t false h f.fixed [] x stands frame.size frame.static tt
      (moment_included t (record { selected = false; allowances = x.allowances }) k.kept (moment_memory f.fixed []) e (kept [] tt) (memory_bytes f.fixed [] frame.static tt))
  abend_arrives (BySelection bytes apdu before) h f public Delegated x k cause starts stands kept holds frame dyn e = absurd starts
  abend_arrives ByDelegation h f public (OfClass class) x k cause starts stands kept holds frame dyn e = absurd starts

module _ (s : Setting) (u t : Tables) (g : Target) (loadable : IsLoadable s.app) (leads : LeadsInto s u t) where
  -- if the budget ends at a place, closed tables have the end by A07
  pub is_spent : (e : Entry Event) (h : History) (f : Frame) (public : List ℕ) → IsPlace s u e h f public → EndCovered (domain_of_rules g (covering_of s t)) e h f.fixed (session_of f) (Abended A07)
  is_spent e h f public p =
      let k : PlaceKey = record { at = f.at; start = p.start; allowances = p.standing.allowances; c = f.c; z = f.z; dt = f.dt; lb = f.lb; protected = f.protected; calls = p.calls } in
      let all = leads k p.known p.there in
      abend_arrives s t g loadable e h f public p.start p.standing p.known A07 p.starts p.stands p.keeps p.holds p.frame p.dynamic
      (included_first t (abended s p.start p.standing.allowances p.known A07) (fetched s (record { key = k; known = p.known }) (instruction_at s.app.code f.at)) all)

  -- ---- an abend of an instruction

  failed_stands : (h : History) (at : ℕ) (cause : Abend) (x : Standing) → s.rules.abends ≡ None → standing_after s.rules h ≡ Ok x → standing_after s.rules (Failed at cause ∷ h) ≡ Ok x
  failed_stands h at cause x none is =
      ap (λ (z : Result Standing Break). z >>= after_event s.rules (Failed at cause)) is ∙ ap (λ (z : Option ℕ). after_abend z x) none

  -- an abend of an instruction that is included is covered
  pub fails_by : (e : Entry Event) (h : History) (f : Frame) (public : List ℕ) (p : IsPlace s u e h f public) (cause : Abend) (abends : Option ℕ) (k : PlaceKey) → k.start ≡ p.start → k.allowances ≡ p.standing.allowances → s.rules.abends ≡ abends
      → includes_all t (fails_unless abends s k p.known cause) ≡ true → AbendCovered (domain_of_rules g (covering_of s t)) e (Failed f.at cause ∷ h) f cause
  fails_by e h f public p cause (Some number) k start allowances is includes = absurd (cc includes)
  fails_by e h f public p cause None k start allowances is includes =
      let known = p.known in
      let there : includes_all t (abended s p.start p.standing.allowances known cause) ≡ true = grind arith in
      record {
        ends = abend_arrives s t g loadable e (Failed f.at cause ∷ h) f public p.start p.standing known cause p.starts (failed_stands h f.at cause p.standing is p.stands) p.keeps p.holds p.frame p.dynamic there;
        stops = λ any. absurd any;
      }

  unfetched_by : (e : Entry Event) (h : History) (f : Frame) (public : List ℕ) (fault : DecodeFault) (p : IsPlace s u e h f public) → includes_all t (fetched s (record { key = key_of s u e h f public p; known = p.known }) (Err fault)) ≡ true
      → AbendCovered (domain_of_rules g (covering_of s t)) e (Failed f.at (fetch_cause fault) ∷ h) f (fetch_cause fault)
  unfetched_by e h f public Undefined p includes = fails_by e h f public p A01 s.rules.abends (key_of s u e h f public p) refl refl refl includes
  unfetched_by e h f public Past p includes = fails_by e h f public p A02 s.rules.abends (key_of s u e h f public p) refl refl refl includes

  -- a place without a decodable instruction has its abend covered
  pub is_unfetched : (e : Entry Event) (h : History) (f : Frame) (public : List ℕ) (fault : DecodeFault) → IsPlace s u e h f public → instruction_at s.app.code f.at ≡ Err fault
      → AbendCovered (domain_of_rules g (covering_of s t)) e (Failed f.at (fetch_cause fault) ∷ h) f (fetch_cause fault)
  is_unfetched e h f public fault p is =
      let spot : Spot = record { key = key_of s u e h f public p; known = p.known } in
      let all = leads (key_of s u e h f public p) p.known p.there in
      let rest = included_second t (abended s p.start p.standing.allowances p.known A07) (fetched s spot (instruction_at s.app.code f.at)) all in
      unfetched_by e h f public fault p (subst (λ (z : Result (Ins × ℕ) DecodeFault). includes_all t (fetched s spot z) ≡ true) is rest)

-- ---- the beginning of a frame by a delegation

module _ (s : Setting) (t : Tables) (g : Target) (loadable : IsLoadable s.app) (closed : is_closed s t ≡ true) where
  append_zero : (n m i : ℕ) → slice_index (zeros n ++ zeros m) i ≡ 0
  append_zero zero m i = zero_at m i
  append_zero (suc n) m zero = refl
  append_zero (suc n) m (suc i) = append_zero n m i

  zeros_append : (n m : ℕ) → AreBytes (zeros n ++ zeros m)
  zeros_append zero m = zero_bytes m
  zeros_append (suc n) m = (omega arith, zeros_append n m)

  -- its static bytes are those of the moment
  begun_static : (fixed session public : List ℕ) (a : ℕ) → a < length fixed → moment_memory fixed session a ≡ frame_memory (begun_frame s g fixed) public a
  begun_static fixed session public a h = grind (arith, lt-ltb, memory_static)

  -- its session bytes are zero
  begun_zero : (fixed public : List ℕ) (a : ℕ) → length fixed ≡ static_size s → dynamic_base ≤ a → a < dynamic_base + s.app.session → frame_memory (begun_frame s g fixed) public a ≡ 0
  begun_zero fixed public a size low high = grind (arith, memory_dynamic, append_zero)

  begun_holds : (f : Facts) (fixed public : List ℕ) → length fixed ≡ static_size s → Holds f (moment_memory fixed []) → Holds (with_zero_session s f) (frame_memory (begun_frame s g fixed) public)
  begun_holds f fixed public size h =
      let n = s.app.session in
      let k : Memory = frame_memory (begun_frame s g fixed) public in
      let count : length (zeros n) ≡ n = length-replicate {A = ℕ} n 0 in
      written_holds dynamic_base (map (λ v. v ∷ []) (zeros n)) (static_facts s f) k k (λ b outside. refl)
      (bytes_in (zeros n) dynamic_base k (λ j low. begun_zero fixed public (dynamic_base + j) size (omega arith) (omega (arith, low, count)) ∙ sym (zero_at n j)))
      (within_holds 0 (static_size s) f (moment_memory fixed []) k (λ a low high. begun_static fixed [] public a (rw size high)) h)

  begun_bytes : (fixed public : List ℕ) → AreBytes fixed → AreBytes public → HoldsBytes (frame_memory (begun_frame s g fixed) public)
  begun_bytes fixed public static others a = grind (arith, cond_small, indexed, zeros_append)

  begun_fits : (fixed : List ℕ) → length fixed ≡ static_size s → AreBytes fixed → IsFrameOf s.app (begun_frame s g fixed)
  begun_fits fixed size static = grind (arith, length-replicate, length-append)

  -- a frame that a delegation begins is at a place of the tables
  pub is_entered : (h : History) (fixed public : List ℕ) → IsMoment s t false h fixed [] → AreBytes public → IsPlace s t ByDelegation h (begun_frame s g fixed) public
  is_entered h fixed public m others =
      let a = m.standing.allowances in
      let n = s.app.session in
      let f = with_zero_session s m.facts in
      let fr = begun_frame s g fixed in
      let known : Known = record { bytes = f; kept = static_facts s f; compare = NoCompare } in
      let all = (moment_closed s t (record { selected = false; allowances = a }) m.facts closed m.there).outcomes in
      let on = included_second t (selected s a m.facts) (continued false s (classes s.rules) a m.facts) all in
      let has : HasPlace t (first_place s Delegated a) known = place_included t (first_place s Delegated a) known on in
      let l : Known = has.found in
      let p = and_parts (follow f l.bytes && follow (static_facts s f) l.kept) (compare_follows NoCompare l.compare) has.follows in
      let q = and_parts (follow f l.bytes) (follow (static_facts s f) l.kept) p.0 in
      let k : Memory = frame_memory fr public in
      let holds : Holds f k = begun_holds m.facts fixed public m.size m.holds in
      let bytes : HoldsBytes k = begun_bytes fixed public m.static others in
      let count : n ≡ length (zeros n) = sym (length-replicate {A = ℕ} n 0) in
      record {
        standing = m.standing;
        stands = m.stands;
        start = Delegated;
        starts = tt;
        calls = [];
        open_calls = tt;
        known = l;
        there = rw (← count) has.there;
        holds = follow_holds f l.bytes k q.0 holds bytes;
        compares = compares_so NoCompare l.compare k p.1 refl;
        keeps = grind (arith, follow_holds, within_holds, begun_static, memory_bytes);
        frame = begun_fits fixed m.size m.static;
        bytes = bytes;
        dynamic = zeros_append n (512 - length (zeros n));
      }

-- closed tables have the places of frames that a delegation begins, and what follows the end of the budget
pub place_law : PlaceLaw
place_law r g t loadable closed =
    let s : Setting = record { rules = r; app = g.app } in
    let leads : LeadsInto s t t = closed_leads s t closed in
    record { entered = is_entered s t g loadable closed; spent = is_spent s t t g loadable leads; unfetched = is_unfetched s t t g loadable leads }
