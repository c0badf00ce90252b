-- Rows that write at an address: from an outcome that is followed, or from that of a reach, to what is covered.
use Rattle.std.proofs.Common.{◌≡◌, ℕ, ◌+◌, ◌<◌, ◌≤◌, Bool, true, false, cond, List, [], ◌∷◌, ◌++◌, length, Option, None, refl, sym, ap, subst, ◌∙◌, arith}
use Rattle.std.specs.Prelude.{◌&&◌, not, is_none, nat_lt, flat_map, map}
use Rattle.std.proofs.lemmas.Bool.{and_from, and_parts, ltb-true}
use Rattle.law_prove.specs.model_device.specs.Bytes.{AreBytes}
use Rattle.law_prove.specs.model_machine.specs.declared.instruction.Ins.{Ins}
use Rattle.law_prove.specs.model_machine.specs.declared.machine.Abend.{Abend}
use Rattle.law_prove.specs.model_machine.specs.declared.machine.Abend.TheVariants.{A03, A04, A06, A08, A0A}
use Rattle.law_prove.specs.model_machine.specs.Frame.{Frame, Effect, where_is, too_many, dynamic_base, dynamic_end}
use Rattle.law_prove.specs.model_machine.specs.Primitives.{Goes}
use Rattle.law_prove.specs.model_machine.specs.Row.{causes, row, first_cause, Abends, Does, row_end}
use Rattle.law_prove.specs.model_machine.specs.Shapes.{Act, Writes, act_effect, shape_effect, meaning, shape}
use Rattle.law_prove.specs.law_bytes.specs.OfBytes.{IsByteEffect}
use Rattle.law_prove.specs.model_rules.specs.Rules.{Target}
use Rattle.law_prove.specs.model_prove.specs.Sets.{Set}
use Rattle.law_prove.specs.model_prove.specs.Facts.{Memory, values_from}
use Rattle.law_prove.specs.model_prove.specs.Compares.{bytes_from}
use Rattle.law_prove.specs.model_prove.specs.Keys.{Call, PlaceKey, Known, Tables, calls_after_write, calls_below}
use Rattle.law_prove.specs.model_prove.specs.Laws.{Among}
use Rattle.law_prove.specs.model_prove.specs.Work.{Work, Copies}
use Rattle.law_prove.specs.model_prove.specs.Reach.{Reach, WritesWithin, some_reached, calls_hit}
use Rattle.law_prove.specs.model_prove.specs.Arrivals.{Setting, Arrival, static_size, fails}
use Rattle.law_prove.specs.model_prove.specs.Steps.{Spot, lowered, acted, with_flags, settled_spot, makes_write, may_wait_too_long, follows, spots, row_arrivals, caused, reached_spot, coarse_done}
use Rattle.law_prove.specs.model_rules.specs.Loadable.{IsLoadable}
use Rattle.law_prove.specs.model_prove.specs.Tables.{includes_all}
use Rattle.law_prove.specs.Laws.{LeadsInto}
use Rattle.law_prove.proofs.Alike.{from_length, many_wait}
use Rattle.law_prove.proofs.Closed.{included_first, included_second}
use Rattle.law_prove.proofs.Moves.{copied_fit}
use Rattle.law_prove.proofs.Places.{fails_by}
use Rattle.law_prove.proofs.Seen.{FitSets, Seen, fit_values}
use Rattle.law_prove.proofs.Acts.{spot_of, Led, flags_led, led_covers, lowered_seen, writes_led}
use Rattle.law_prove.proofs.Turns.{NoCause, frame_of, memory_of_bytes, goes_covered, walked_limit}
use Rattle.law_prove.proofs.Single.{going, one_copied, Turn, here, there, IsRowCovered, row_is, shape_bytes, low_frame, low_calls, low_known, low_seen, low_framed}
use Rattle.law_prove.proofs.Reached.{IsWithin, some_is, spared_among, reached_led}
use Rattle.law_prove.proofs.Choices.{one_of, fetched_frame, memory, base}
use Rattle.law_prove.proofs.Blocks.{among_mapped}

-- the only outcome of a row whose work leads to one place, with values of these sets of the bytes that it writes
pub one_led : (s : Setting) (t : Tables) (i : Ins) (d : ℕ) (a : Act) (fl : Option (Bool × Bool)) (w : Work) (ss : List Set) (p q : Spot) → spots s (going d a fl) w q ≡ with_flags fl (acted s a ss (lowered d q)) ∷ []
    → includes_all t (row_arrivals false s i (going d a fl) w p q) ≡ true
    → includes_all t (follows s i (makes_write s p.key.protected a) Goes p (settled_spot s (with_flags fl (acted s a ss (lowered d q))))) ≡ true
one_led s t i d a fl w ss p q leads includes = grind (arith, included_first, included_second)

-- the causes that a key decides
abbrev pub known_of : Bool → Bool → Bool → Bool → List (Abend × Bool)
known_of arg den under was = (A06, arg) ∷ (A0A, den) ∷ (A04, under) ∷ (A08, was) ∷ []

-- all causes of a row that writes, but that too many words wait
abbrev pub causes_but : Bool → Bool → Bool → Bool → Bool → List (Abend × Bool)
causes_but arg den under missed range = (A06, arg) ∷ (A0A, den) ∷ (A04, under) ∷ (A03, missed) ∷ (A06, range) ∷ []

-- and all
abbrev pub causes_of : Bool → Bool → Bool → Bool → Bool → Bool → List (Abend × Bool)
causes_of arg den under missed range many = causes_but arg den under missed range ++ (A08, many) ∷ []

module _ (s : Setting) (u t : Tables) (g : Target) (loadable : IsLoadable s.app) (leads : LeadsInto s u t) (i : Ins) (turn : Turn s u i) where
  abbrev before : Spot
  before = here s u t g loadable leads i turn

  abbrev low : ℕ → Frame
  low d = low_frame s u t g loadable leads i turn d

  -- a row is covered if its act leads to a spot that is followed
  pub led_row : (d : ℕ) (a : Act) (fl : Option (Bool × Bool)) (r : Spot) (w : Bool) → shape i (fetched_frame s u t g loadable leads i turn) turn.public turn.around ≡ going d a fl
      → Led s turn.place.start turn.place.standing.allowances r w (act_effect a (low d) turn.public)
      → includes_all t (follows s i w Goes before (settled_spot s (with_flags fl r))) ≡ true
      → IsRowCovered s u t g loadable leads i turn (Does (meaning (going d a fl) (fetched_frame s u t g loadable leads i turn) turn.public))
  led_row d a fl r w shaped led includes =
      let st = turn.place.start in
      let al = turn.place.standing.allowances in
      let e : Effect = shape_effect (going d a fl) (fetched_frame s u t g loadable leads i turn) turn.public in
      let bytes : IsByteEffect e = shape_bytes s u t g loadable leads i turn (going d a fl) shaped turn.after in
      let all : Led s st al (with_flags fl r) w e = flags_led s st al r w (act_effect a (low d) turn.public) fl led in
      goes_covered s u t g loadable leads turn.entry turn.history turn.frame turn.public turn.depth turn.place turn.deep i e (settled_spot s (with_flags fl r)) w (ap (λ (k : PlaceKey). k.start) all.key)
      (led_covers s st al (with_flags fl r) w e all) (frame_of s.app e.frame all.framed bytes.frame) (memory_of_bytes e.frame e.public bytes.frame bytes.public) bytes.frame.stack all.writes includes

  -- ---- an outcome that is followed

  -- What is written, and where: the address of the scene is that of the machine, and nothing waits in the scene.
  pub record IsWritten (was : Bool) (d to0 to n : ℕ) (b : List ℕ) (ss : List Set) : Type 0 where
    pub free : was ≡ false
    pub same : to0 ≡ to
    pub long : length b ≡ n
    pub fit : FitSets b ss
    pub some : 0 < n
    pub inside : is_none (where_is (low d) to n) ≡ false
    pub low : dynamic_base + turn.frame.session ≤ d
    pub high : d ≤ dynamic_end

  module _ (k : Known) (seen : Seen turn.place.calls k (fetched_frame s u t g loadable leads i turn) turn.public) where
    -- the place after the fetch, with the facts of a choice
    abbrev pub chosen_there : Spot
    chosen_there = spot_of turn.place.start turn.place.standing.allowances (fetched_frame s u t g loadable leads i turn) turn.place.calls k

    written_led : (was : Bool) (d to0 to n : ℕ) (b : List ℕ) (ss : List Set) → IsWritten was d to0 to n b ss
        → Led s turn.place.start turn.place.standing.allowances (acted s (Writes to n b) ss (lowered d chosen_there)) (makes_write s turn.frame.protected (Writes to n b)) (act_effect (Writes to n b) (low d) turn.public)
    written_led was d to0 to n b ss is =
        let st = turn.place.start in
        let al = turn.place.standing.allowances in
        let q : Spot = lowered d chosen_there in
        writes_led s loadable.static st al (low d) turn.public (calls_below d turn.place.calls) q.known to n b ss
        (subst (λ (j : ℕ). is_none (where_is (low d) to j) ≡ false) (sym is.long) is.inside) is.fit (subst (λ (j : ℕ). 0 < j) (sym is.long) is.some) turn.whole
        (low_framed s u t g loadable leads i turn d is.low is.high)
        (lowered_seen d st al (fetched_frame s u t g loadable leads i turn) turn.public turn.place.calls k seen)

    -- a row that writes, by its causes in the scene
    pub chosen_row : (cs : List (Abend × Bool)) (was : Bool) (d to0 n0 to n : ℕ) (b0 b : List ℕ) (fl : Option (Bool × Bool)) (w : Work) (ss : List Set)
        → includes_all t (caused (first_cause (cs ++ (A08, was) ∷ [])) s i (going d (Writes to0 n0 b0) fl) w before chosen_there) ≡ true
        → first_cause (causes i (fetched_frame s u t g loadable leads i turn) turn.public turn.around) ≡ first_cause (cs ++ (A08, too_many (low d) to n) ∷ [])
        → shape i (fetched_frame s u t g loadable leads i turn) turn.public turn.around ≡ going d (Writes to n b) fl
        → (includes_all t (row_arrivals false s i (going d (Writes to0 n0 b0) fl) w before chosen_there) ≡ true
        → includes_all t (follows s i (makes_write s turn.frame.protected (Writes to0 n0 b0)) Goes before (settled_spot s (with_flags fl (acted s (Writes to0 n0 b0) ss (lowered d chosen_there))))) ≡ true)
        → (NoCause cs → IsWritten was d to0 to n b ss) → IsRowCovered s u t g loadable leads i turn (row i (fetched_frame s u t g loadable leads i turn) turn.public turn.around)
    chosen_row cs was d to0 n0 to n b0 b fl w ss includes real shaped extract written =
        let f : Frame = fetched_frame s u t g loadable leads i turn in
        let m = meaning (going d (Writes to n b) fl) f turn.public in
        subst (IsRowCovered s u t g loadable leads i turn) (row_is s u t g loadable leads i turn (causes i f turn.public turn.around) (going d (Writes to n b) fl) refl shaped)
        (subst (λ (c : Option Abend). IsRowCovered s u t g loadable leads i turn (row_end c m)) (sym real)
        (walked_limit s u t g loadable leads turn.entry turn.history turn.frame turn.public turn.depth turn.place turn.deep i chosen_there cs was (too_many (low d) to n) (going d (Writes to0 n0 b0) fl) w m refl
        (λ none many less.
        let is : IsWritten was d to0 to n b ss = written none in
        subst (λ (a : ℕ). may_wait_too_long s turn.frame.protected (Writes a n0 b0) ≡ true) (sym is.same) (many_wait s (low d) to n n0 b0 is.some turn.place.frame.size turn.place.frame.inside many))
        (λ none many. let is : IsWritten was d to0 to n b ss = written none in absurd (cc (sym is.free ∙ many)))
        includes
        (λ none free all.
        let is : IsWritten was d to0 to n b ss = written none in
        led_row d (Writes to n b) fl (acted s (Writes to n b) ss (lowered d chosen_there)) (makes_write s turn.frame.protected (Writes to n b)) shaped (written_led was d to0 to n b ss is)
        (subst (λ (a : ℕ). includes_all t (follows s i (makes_write s turn.frame.protected (Writes a n b)) Goes before (settled_spot s (with_flags fl (acted s (Writes a n b) ss (lowered d chosen_there))))) ≡ true) is.same (extract all)))))

    -- What a row copies: bytes of the memory, as many as in the scene and from the same address.
    pub record IsCopied (was : Bool) (d to0 to n from0 from : ℕ) (b0 b : List ℕ) : Type 0 where
      pub free : was ≡ false
      pub same : to0 ≡ to
      pub source : from0 ≡ from
      pub count : length b0 ≡ n
      pub read : b ≡ bytes_from (memory s u t g loadable leads i turn) from n
      pub some : 0 < n
      pub inside : is_none (where_is (low d) to n) ≡ false
      pub low : dynamic_base + turn.frame.session ≤ d
      pub high : d ≤ dynamic_end

    copy_written : (was : Bool) (d to0 to n from0 from : ℕ) (b0 b : List ℕ) → IsCopied was d to0 to n from0 from b0 b → IsWritten was d to0 to n b (values_from k.bytes from0 (length b0))
    copy_written was d to0 to n from0 from b0 b is =
        let m : Memory = memory s u t g loadable leads i turn in
        record {
          free = is.free;
          same = is.same;
          long = ap (λ (z : List ℕ). length z) is.read ∙ from_length m from n;
          fit = subst (λ (a : ℕ). FitSets b (values_from k.bytes a (length b0))) (sym is.source) (copied_fit k.bytes m from n (length b0) b is.read is.count (fit_values k.bytes m from n seen.holds turn.place.bytes));
          some = is.some;
          inside = is.inside;
          low = is.low;
          high = is.high;
        }

    -- a row that copies
    pub copied_row : (cs : List (Abend × Bool)) (was : Bool) (d to0 n0 to n from0 from : ℕ) (b0 b : List ℕ)
        → includes_all t (caused (first_cause (cs ++ (A08, was) ∷ [])) s i (going d (Writes to0 n0 b0) None) (Copies from0) before chosen_there) ≡ true
        → first_cause (causes i (fetched_frame s u t g loadable leads i turn) turn.public turn.around) ≡ first_cause (cs ++ (A08, too_many (low d) to n) ∷ [])
        → shape i (fetched_frame s u t g loadable leads i turn) turn.public turn.around ≡ going d (Writes to n b) None
        → (NoCause cs → IsCopied was d to0 to n from0 from b0 b) → IsRowCovered s u t g loadable leads i turn (row i (fetched_frame s u t g loadable leads i turn) turn.public turn.around)
    copied_row cs was d to0 n0 to n from0 from b0 b includes real shaped copied =
        chosen_row cs was d to0 n0 to n b0 b None (Copies from0) (values_from k.bytes from0 (length b0)) includes real shaped
        (λ all. one_copied s t i d (Writes to0 n0 b0) None from0 before chosen_there all) (λ none. copy_written was d to0 to n from0 from b0 b (copied none))

  -- ---- too many choices

  -- A write within a reach: nothing waits in the scene, and each byte that is written is reached.
  pub record IsReached (r : Reach) (was : Bool) (d to n : ℕ) (b : List ℕ) : Type 0 where
    pub free : was ≡ false
    pub long : length b ≡ n
    pub bytes : AreBytes b
    pub some : 0 < n
    pub inside : is_none (where_is (low d) to n) ≡ false
    pub within : IsWithin (record (base s u t g loadable leads i turn).frame { dt = d }) r to n
    pub low : dynamic_base + turn.frame.session ≤ d
    pub high : d ≤ dynamic_end

  -- the outcomes of a row that writes within a reach
  abbrev pub Outcomes : Bool → List (Abend × Bool) → ℕ → Act → Option (Bool × Bool) → Reach → List Arrival
  Outcomes bad known d a fl r =
      fails s before.key before.known A03
      ++ (cond bad (fails s before.key before.known A06) [])
      ++ coarse_done (first_cause known) s i (record (base s u t g loadable leads i turn).frame { dt = d }) (going d a fl) (WritesWithin r) before (there s u t g loadable leads i turn)

  -- whether static bytes may be reached
  abbrev static : ℕ → Reach → Bool
  static d r = some_reached (record (base s u t g loadable leads i turn).frame { dt = d }) r 0 (static_size s)

  reached_static : (d : ℕ) (r : Reach) (was : Bool) (to n : ℕ) (b : List ℕ) → IsReached r was d to n b → nat_lt to (static_size s) ≡ true → static d r ≡ true
  reached_static d r was to n b is less =
      let some : 0 < n = is.some in
      some_is (record (base s u t g loadable leads i turn).frame { dt = d }) r to 0 (static_size s) (is.within to (omega arith) (omega (arith, some))) (omega arith) (below less)
    where
      below : nat_lt to (static_size s) ≡ true → to < 0 + static_size s
      below e = let h = ltb-true to (static_size s) e in omega (arith, h)

  -- an abend of the row
  abends_with : (c : Abend) → includes_all t (fails s before.key before.known c) ≡ true → IsRowCovered s u t g loadable leads i turn (Abends c)
  abends_with c includes = fails_by s u t g loadable leads turn.entry turn.history turn.frame turn.public turn.place c s.rules.abends before.key refl refl refl includes

  -- the places after it
  abbrev places_after : ℕ → Option (Bool × Bool) → Reach → List Arrival
  places_after d fl r =
      flat_map (λ q. follows s i (static d r && not turn.frame.protected) Goes before (settled_spot s q))
      (map (λ cs. with_flags fl (reached_spot (record (base s u t g loadable leads i turn).frame { dt = d }) r (lowered d (there s u t g loadable leads i turn)) cs))
      (calls_hit (record (base s u t g loadable leads i turn).frame { dt = d }) r (calls_below d turn.place.calls)))

  -- the abend of too many words that wait
  abbrev waits_after : ℕ → Reach → List Arrival
  waits_after d r = cond (static d r && turn.frame.protected && nat_lt 512 (static_size s)) (fails s before.key before.known A08) []

  reached_waits : (r : Reach) (was : Bool) (d to n : ℕ) (b : List ℕ) (rest : List Arrival) → IsReached r was d to n b → too_many (low d) to n ≡ true → includes_all t (waits_after d r ++ rest) ≡ true → IsRowCovered s u t g loadable leads i turn (Abends A08)
  reached_waits r was d to n b rest is many includes =
      let p = turn.frame.protected in
      let size = static_size s in
      let waits : (p && nat_lt to size && nat_lt 512 size) ≡ true = many_wait s (low d) to n n b is.some turn.place.frame.size turn.place.frame.inside many in
      let both = and_parts (p && nat_lt to size) (nat_lt 512 size) waits in
      let first = and_parts p (nat_lt to size) both.0 in
      let all : (static d r && p && nat_lt 512 size) ≡ true = and_from (static d r && p) (nat_lt 512 size) (and_from (static d r) p (reached_static d r was to n b is first.1) first.0) both.1 in
      abends_with A08 (subst (λ (x : Bool). includes_all t (cond x (fails s before.key before.known A08) []) ≡ true) all (included_first t (waits_after d r) rest includes))

  reached_makes : (r : Reach) (was : Bool) (d to n : ℕ) (b : List ℕ) → IsReached r was d to n b → makes_write s turn.frame.protected (Writes to n b) ≡ true → (static d r && not turn.frame.protected) ≡ true
  reached_makes r was d to n b is makes = grind (arith, and_parts, and_from, reached_static)

  done_row : (r : Reach) (was : Bool) (d to n : ℕ) (b : List ℕ) (fl : Option (Bool × Bool)) → shape i (fetched_frame s u t g loadable leads i turn) turn.public turn.around ≡ going d (Writes to n b) fl → IsReached r was d to n b
      → includes_all t (places_after d fl r) ≡ true → IsRowCovered s u t g loadable leads i turn (Does (meaning (going d (Writes to n b) fl) (fetched_frame s u t g loadable leads i turn) turn.public))
  done_row r was d to n b fl shaped is includes =
      let st = turn.place.start in
      let al = turn.place.standing.allowances in
      let e : Frame = record (base s u t g loadable leads i turn).frame { dt = d } in
      let calls : List Call = low_calls s u t g loadable leads i turn d in
      let k : Known = low_known s u t g loadable leads i turn d in
      let q : Spot = spot_of st al (low d) calls k in
      let w = static d r && not turn.frame.protected in
      let cs : List Call = calls_after_write to (length b) calls in
      let made : List Call → Spot = λ cs. with_flags fl (reached_spot e r q cs) in
      let within : IsWithin e r to (length b) = rw is.long is.within in
      let some : 0 < length b = rw is.long is.some in
      let among : Among (made cs) (map made (calls_hit e r calls)) = among_mapped made cs (calls_hit e r calls) (spared_among e r to (length b) calls within some) in
      let one : includes_all t (follows s i w Goes before (settled_spot s (made cs))) ≡ true = one_of t (λ q. follows s i w Goes before (settled_spot s q)) (made cs) (map made (calls_hit e r calls)) among includes in
      led_row d (Writes to n b) fl (reached_spot e r q cs) w shaped
      (reached_led s loadable.static st al (low d) turn.public to n b is.bytes some (rw is.long is.inside) turn.whole
      (low_framed s u t g loadable leads i turn d is.low is.high) e r w calls k within (reached_makes r was d to n b is) (low_seen s u t g loadable leads i turn d))
      one

  -- the outcomes of the causes that the key decides
  abbrev decided : List (Abend × Bool) → ℕ → Act → Option (Bool × Bool) → Reach → List Arrival
  decided known d a fl r = coarse_done (first_cause known) s i (record (base s u t g loadable leads i turn).frame { dt = d }) (going d a fl) (WritesWithin r) before (there s u t g loadable leads i turn)

  limit_by : (many : Bool) (r : Reach) (was : Bool) (d to n : ℕ) (a0 : Act) (b : List ℕ) (fl : Option (Bool × Bool)) → too_many (low d) to n ≡ many
      → shape i (fetched_frame s u t g loadable leads i turn) turn.public turn.around ≡ going d (Writes to n b) fl → IsReached r was d to n b
      → includes_all t (decided (known_of false false false was) d a0 fl r) ≡ true
      → IsRowCovered s u t g loadable leads i turn (row_end (first_cause (causes_of false false false false false many)) (meaning (going d (Writes to n b) fl) (fetched_frame s u t g loadable leads i turn) turn.public))
  limit_by true r was d to n a0 b fl e shaped is includes =
      reached_waits r was d to n b (places_after d fl r) is e (subst (λ (x : Bool). includes_all t (decided (known_of false false false x) d a0 fl r) ≡ true) is.free includes)
  limit_by false r was d to n a0 b fl e shaped is includes =
      done_row r was d to n b fl shaped is
      (included_second t (waits_after d r) (places_after d fl r) (subst (λ (x : Bool). includes_all t (decided (known_of false false false x) d a0 fl r) ≡ true) is.free includes))

  coarse_by : (bad arg den under missed range : Bool) (r : Reach) (was : Bool) (d to n : ℕ) (a0 : Act) (b : List ℕ) (fl : Option (Bool × Bool))
      → includes_all t (fails s before.key before.known A03) ≡ true → includes_all t (cond bad (fails s before.key before.known A06) []) ≡ true
      → includes_all t (decided (known_of arg den under was) d a0 fl r) ≡ true
      → shape i (fetched_frame s u t g loadable leads i turn) turn.public turn.around ≡ going d (Writes to n b) fl → (range ≡ true → bad ≡ true)
      → (arg ≡ false → den ≡ false → under ≡ false → missed ≡ false → range ≡ false → IsReached r was d to n b)
      → IsRowCovered s u t g loadable leads i turn (row_end (first_cause (causes_of arg den under missed range (too_many (low d) to n))) (meaning (going d (Writes to n b) fl) (fetched_frame s u t g loadable leads i turn) turn.public))
  coarse_by bad arg den under missed range r was d to n a0 b fl miss length_bad includes shaped lengths reached = grind (arith, abends_with, limit_by, low)

  -- A row of too many choices that writes within a reach: 03 and 06 may be, the other causes are those of the key, and a
  -- write within the reach leads on.
  pub coarse_row : (bad arg den under missed range : Bool) (r : Reach) (was : Bool) (d to n : ℕ) (a0 : Act) (b : List ℕ) (fl : Option (Bool × Bool))
      → includes_all t (Outcomes bad (known_of arg den under was) d a0 fl r) ≡ true
      → first_cause (causes i (fetched_frame s u t g loadable leads i turn) turn.public turn.around) ≡ first_cause (causes_of arg den under missed range (too_many (low d) to n))
      → shape i (fetched_frame s u t g loadable leads i turn) turn.public turn.around ≡ going d (Writes to n b) fl → (range ≡ true → bad ≡ true)
      → (arg ≡ false → den ≡ false → under ≡ false → missed ≡ false → range ≡ false → IsReached r was d to n b)
      → IsRowCovered s u t g loadable leads i turn (row i (fetched_frame s u t g loadable leads i turn) turn.public turn.around)
  coarse_row bad arg den under missed range r was d to n a0 b fl includes first shaped lengths reached =
      let f : Frame = fetched_frame s u t g loadable leads i turn in
      let m = meaning (going d (Writes to n b) fl) f turn.public in
      let miss = fails s before.key before.known A03 in
      let short = cond bad (fails s before.key before.known A06) [] in
      let rest = decided (known_of arg den under was) d a0 fl r in
      rw (← row_is s u t g loadable leads i turn (causes i f turn.public turn.around) (going d (Writes to n b) fl) refl shaped, first)
      (coarse_by bad arg den under missed range r was d to n a0 b fl (included_first t miss short (included_first t (miss ++ short) rest includes)) (included_second t miss short (included_first t (miss ++ short) rest includes))
      (included_second t (miss ++ short) rest includes) shaped lengths reached)
