-- Each instruction at a place leads to what both tables cover.
use Rattle.std.specs.Prelude.{◌≡◌, ℕ, Bool, true, ◌&&◌, List, ◌∷◌, length, Option, Result, Ok, Err, refl}
use Rattle.std.proofs.Common.{ap, sym, subst, ◌∙◌}
use Rattle.std.proofs.lemmas.Bool.{and_parts}
use Rattle.law_prove_closed.specs.model_machine.specs.declared.instruction.Ins.{Ins}
use Rattle.law_prove_closed.specs.model_machine.specs.declared.instruction.DecodeFault.{DecodeFault}
use Rattle.law_prove_closed.specs.model_machine.specs.Code.{instruction_at}
use Rattle.law_prove_closed.specs.model_machine.specs.Frame.{Frame, Effect, session_of}
use Rattle.law_prove_closed.specs.model_machine.specs.Primitives.{Around, Then, Goes, Exits, Delegates, Done}
use Rattle.law_prove_closed.specs.model_machine.specs.Row.{RowEnd, Abends, Does, row}
use Rattle.law_prove_closed.specs.model_machine.specs.Chain.{Abended, frame_at}
use Rattle.law_prove_closed.specs.law_rows.specs.Keeping.{OnDone, OnLeave, Leaves}
use Rattle.law_prove_closed.specs.law_rows.proofs.Keeping.{row_leaves}
use Rattle.law_prove_closed.specs.law_promise.specs.Outline.{Entry, FitsEntry}
use Rattle.law_prove_closed.specs.law_promise.specs.History.{fetch_cause}
use Rattle.law_prove_closed.specs.law_promise.specs.Domain.{IsSegment, IsDelegator, RowCovered, FetchCovered, FitsDepth}
use Rattle.law_prove_closed.specs.model_rules.specs.Rules.{AppRules, Target}
use Rattle.law_prove_closed.specs.model_rules.specs.Happenings.{Event, Did, Failed, History}
use Rattle.law_prove_closed.specs.model_rules.specs.Keeping.{mode_of}
use Rattle.law_prove_closed.specs.law_rules.specs.Law.{domain_of_rules}
use Rattle.law_prove_closed.specs.model_prove.specs.Keys.{PlaceKey, Tables}
use Rattle.law_prove_closed.specs.model_prove.specs.Splits.{Scene}
use Rattle.law_prove_closed.specs.model_prove.specs.Arrivals.{Setting, Arrival, static_size}
use Rattle.law_prove_closed.specs.model_prove.specs.Steps.{place_arrivals}
use Rattle.law_prove_closed.specs.model_rules.specs.Loadable.{IsLoadable}
use Rattle.law_prove_closed.specs.model_prove.specs.Tables.{is_closed}
use Rattle.law_prove_closed.specs.law_prove.specs.Coverings.{IsPlace, key_of, covering_of}
use Rattle.law_prove_closed.specs.law_prove.specs.Laws.{PlacesCovered}
use Rattle.law_prove_closed.specs.law_prove.proofs.Places.{place_law}
use Rattle.law_prove_closed.specs.Outcomes.{tables_of}
use Rattle.law_prove_closed.proofs.Outcomes.{closed_next_law}
use Rattle.law_prove_closed.proofs.Rows.{all_rows}
use Rattle.law_sums.specs.model_sums.specs.Sums.{Sums, SumsTable, sums_at}
use Rattle.law_sums.specs.model_sums.specs.Moves.{after_next}
use Rattle.law_sums.specs.model_sums.specs.Closed.{Turn, after_event, is_settled, has_sums, all_pass, arrival_closed, exit_settled, fetched_closed, place_closed}
use Rattle.law_sum_plays.specs.Rows.{IsDelegation, SumsMove, spot_at, AllSumRowsLaw}
use Rattle.law_sum_plays.specs.Laws.{Guards}
use Rattle.law_sum_plays.specs.Coverings.{IsSumPlace, sums_covering_of}
use Rattle.law_sum_plays.proofs.Protection.{row_guards}
use Rattle.law_sum_plays.proofs.Checked.{SumsClosed, place_checked}
use Rattle.law_sum_plays.proofs.Kept.{Keeps, keeps_of, keeps_quiet, ends_keep, stops_keep, write_keeps, abend_keeps, exit_keeps}
use Rattle.law_sum_plays.proofs.Outcomes.{at_depth, IsLeft, is_left, left_place}
use Rattle.law_sum_plays.proofs.Deeds.{Left, deed, after_event_of, deed_keeps, compared, delegated_place, next_place}

-- a delegation, by the name that it has in a scene
record Names (n : Then) : Type 0 where
  name : List ℕ
  is : n ≡ Delegates name

names_of : (n : Then) → IsDelegation n → Names n
names_of Goes d = absurd d
names_of Exits d = absurd d
names_of (Delegates n) d = record { name = n; is = refl }

module _ (r : AppRules) (g : Target) (t : Tables) (u : SumsTable) (loadable : IsLoadable g.app) (closed : is_closed (record { rules = r; app = g.app }) t ≡ true) (sums : SumsClosed (record { rules = r; app = g.app }) t u) (rows : AllSumRowsLaw) where
  abbrev setting : Setting
  setting = record { rules = r; app = g.app }

  module _ (e : Entry Event) (h : History) (f : Frame) (public : List ℕ) (depth : ℕ) (p : IsSumPlace setting t u e h f public) (deep : FitsDepth e depth) (segment : IsSegment (domain_of_rules g (covering_of setting t)) public) (i : Ins) where
    abbrev outcomes : List Arrival
    outcomes = place_arrivals setting (key_of setting t e h f public p.place) p.place.known

    abbrev turn : Scene → Turn
    turn z = record { ins = i; scene = z; spot = spot_at setting t e h f public p.place; sums = p.known }

    before : Keeps setting h f.fixed
    before = keeps_of setting h f.fixed p.place.standing p.place.stands p.sums.kept

    -- what is covered of a row's end by the tables of facts, by the keys of the outcomes alone, and by both tables
    abbrev PlainCovered : RowEnd → Type 0
    PlainCovered z = RowCovered (domain_of_rules g (covering_of setting t)) e h f public depth i z

    abbrev KeysCovered : RowEnd → Type 0
    KeysCovered z = RowCovered (domain_of_rules g (covering_of setting (tables_of outcomes t))) e h f public depth i z

    abbrev SumsCovered : RowEnd → Type 0
    SumsCovered z = RowCovered (domain_of_rules g (sums_covering_of setting t u)) e h f public depth i z

    -- what the row law has of a row that is done
    abbrev Moves : Done → Type 0
    Moves d = SumsMove setting u (spot_at setting t e h f public p.place) i p.known p.place.standing f p.sums.first d

    module _ (d : Effect) (guards : Guards (mode_of i) f.protected f.fixed f.pieces d) where
      abbrev done : History
      done = Did (deed r g t u loadable sums e h f public depth p deep segment.0 i d) ∷ h

      abbrev Settled : Scene → Sums → Type 0
      Settled z after = is_settled setting (turn z) (after_event_of r g t u loadable sums e h f public depth p deep segment.0 i d after) ≡ true

      left_by : (n : Then) (moves : Moves (record { effect = d; next = n })) → Left r g t u loadable sums e h f public depth p deep segment.0 i d moves.after
      left_by n moves = record { holds = moves.holds; guards = guards }

      done_keeps : (n : Then) (moves : Moves (record { effect = d; next = n })) → Settled moves.scene moves.after → length d.frame.fixed ≡ static_size setting → Keeps setting done d.frame.fixed
      done_keeps n moves settled size = deed_keeps r g t u loadable sums e h f public depth p deep segment.0 i d moves.scene moves.after (left_by n moves) settled size

      -- what a place that the outcomes have was compared with
      abbrev Compared : Scene → Sums → Then → (q : List ℕ) → IsPlace setting t e done d.frame q → Type 0
      Compared z after n q next =
          (is_settled setting (turn z) (after_event_of r g t u loadable sums e h f public depth p deep segment.0 i d after)
          && has_sums r.totals (after_next n (after_event_of r g t u loadable sums e h f public depth p deep segment.0 i d after)) (sums_at u (key_of setting t e done d.frame q next)))
          ≡ true

      left_at : (q : List ℕ) (next : IsPlace setting (tables_of outcomes t) e done d.frame q) → IsLeft setting t outcomes e done d.frame q next
      left_at q next = is_left setting t outcomes e done d.frame q next

      compared_at : (q : List ℕ) (next : IsPlace setting (tables_of outcomes t) e done d.frame q) (z : Scene) (after : Sums) (n : Then) → all_pass (arrival_closed setting u (turn z) n after) outcomes ≡ true
          → Compared z after n q (left_place setting t outcomes e done d.frame q next (left_at q next))
      compared_at q next z after n all =
          compared r g t u loadable sums e h f public depth p deep segment.0 i d q (left_place setting t outcomes e done d.frame q next (left_at q next)) z after n outcomes (left_at q next).leads all

      -- ---- where the frame goes on

      goes : PlainCovered (Does (record { effect = d; next = Goes })) → KeysCovered (Does (record { effect = d; next = Goes })) → Moves (record { effect = d; next = Goes }) → SumsCovered (Does (record { effect = d; next = Goes }))
      goes plain keys moves =
          let all = (and_parts (all_pass (arrival_closed setting u (turn moves.scene) moves.shape.next moves.after) outcomes) (exit_settled setting (turn moves.scene) moves.shape moves.after moves.shape.next) moves.closed).0 in
          let on : all_pass (arrival_closed setting u (turn moves.scene) Goes moves.after) outcomes ≡ true = subst (λ (n : Then). all_pass (arrival_closed setting u (turn moves.scene) n moves.after) outcomes ≡ true) moves.next all in
          let next : IsPlace setting t e done d.frame d.public = left_place setting t outcomes e done d.frame d.public keys.next (left_at d.public keys.next) in
          let c = compared_at d.public keys.next moves.scene moves.after Goes on in
          let v : Sums = after_event_of r g t u loadable sums e h f public depth p deep segment.0 i d moves.after in
          let settled = (and_parts (is_settled setting (turn moves.scene) v) (has_sums r.totals v (sums_at u (key_of setting t e done d.frame d.public next))) c).0 in
          record {
            write = write_keeps r g t u e h done f (record { effect = d; next = Goes }) d.changes before (done_keeps Goes moves settled keys.next.frame.size) plain.write;
            next = next_place r g t u loadable sums e h f public depth p deep segment.0 i d next moves.scene moves.after (left_by Goes moves) c;
          }

      -- ---- a delegation

      delegates : (n : List ℕ) → PlainCovered (Does (record { effect = d; next = Delegates n })) → KeysCovered (Does (record { effect = d; next = Delegates n })) → Moves (record { effect = d; next = Delegates n })
          → SumsCovered (Does (record { effect = d; next = Delegates n }))
      delegates n plain keys moves =
          let all = (and_parts (all_pass (arrival_closed setting u (turn moves.scene) moves.shape.next moves.after) outcomes) (exit_settled setting (turn moves.scene) moves.shape moves.after moves.shape.next) moves.closed).0 in
          let name : Names moves.shape.next = names_of moves.shape.next moves.next in
          let on : all_pass (arrival_closed setting u (turn moves.scene) (Delegates name.name) moves.after) outcomes ≡ true =
          subst (λ (n : Then). all_pass (arrival_closed setting u (turn moves.scene) n moves.after) outcomes ≡ true) name.is all
          in
          let v : Sums = after_event_of r g t u loadable sums e h f public depth p deep segment.0 i d moves.after in
          let first = keys.next.back public segment in
          let next : IsPlace setting t e done d.frame public = left_place setting t outcomes e done d.frame public first (left_at public first) in
          let c = compared_at public first moves.scene moves.after (Delegates name.name) on in
          let settled = (and_parts (is_settled setting (turn moves.scene) v) (has_sums r.totals (after_next (Delegates name.name) v) (sums_at u (key_of setting t e done d.frame public next))) c).0 in
          let kept : Keeps setting done d.frame.fixed = done_keeps (Delegates n) moves settled first.frame.size in
          record {
            write = write_keeps r g t u e h done f (record { effect = d; next = Delegates n }) d.changes before kept plain.write;
            next = record {
              back = λ q whole.
                  let one = keys.next.back q whole in
                  delegated_place r g t u loadable sums e h f public depth p deep segment.0 i d q (left_place setting t outcomes e done d.frame q one (left_at q one)) moves.scene moves.after (left_by (Delegates n) moves)
                  (compared_at q one moves.scene moves.after (Delegates name.name) on);
              abends = λ cause ok. ends_keep r g t u e done d.frame.fixed (session_of d.frame) (Abended cause) kept (plain.next.abends cause ok);
              stops = stops_keep r g t u e done d.frame.fixed kept plain.next.stops;
            };
          }

      -- ---- an exit

      exits : (next : ℕ) → PlainCovered (Does (record { effect = d; next = Exits })) → Moves (record { effect = d; next = Exits }) → Leaves (frame_at f next) d → SumsCovered (Does (record { effect = d; next = Exits }))
      exits next plain moves leaves =
          let z : Turn = turn moves.scene in
          let last = (and_parts (all_pass (arrival_closed setting u z moves.shape.next moves.after) outcomes) (exit_settled setting z moves.shape moves.after moves.shape.next) moves.closed).1 in
          let out : exit_settled setting z moves.shape moves.after Exits ≡ true = subst (λ (n : Then). exit_settled setting z moves.shape moves.after n ≡ true) moves.next.0 last in
          let here : is_settled setting z (after_event setting z moves.after moves.shape.dt f.c f.z depth) ≡ true =
          at_depth r e p.place.start depth (λ k. is_settled setting z (after_event setting z moves.after moves.shape.dt f.c f.z k)) p.place.starts deep out
          in
          let flags = moves.next.1 in
          let one : is_settled setting z (after_event setting z moves.after d.frame.dt f.c f.z depth) ≡ true = subst (λ (n : ℕ). is_settled setting z (after_event setting z moves.after n f.c f.z depth) ≡ true) (sym flags.dt) here in
          let two : is_settled setting z (after_event setting z moves.after d.frame.dt d.frame.c f.z depth) ≡ true = subst (λ (b : Bool). is_settled setting z (after_event setting z moves.after d.frame.dt b f.z depth) ≡ true) (sym flags.c) one in
          let settled : Settled moves.scene moves.after = subst (λ (b : Bool). is_settled setting z (after_event setting z moves.after d.frame.dt d.frame.c b depth) ≡ true) (sym flags.z) two in
          let same : d.frame.fixed ≡ f.fixed = leaves.fixed in
          let size : length d.frame.fixed ≡ static_size setting = ap (λ (l : List ℕ). length l) same ∙ p.place.frame.size in
          exit_keeps r g t u e h f d (deed r g t u loadable sums e h f public depth p deep segment.0 i d) (subst (Keeps setting h) (sym same) before) (done_keeps Exits moves settled size) same plain

      done_by : (next : ℕ) (n : Then) → PlainCovered (Does (record { effect = d; next = n })) → KeysCovered (Does (record { effect = d; next = n })) → Moves (record { effect = d; next = n }) → OnLeave n (Leaves (frame_at f next) d)
          → SumsCovered (Does (record { effect = d; next = n }))
      done_by next Goes plain keys moves leaves = goes plain keys moves
      done_by next Exits plain keys moves leaves = exits next plain moves leaves
      done_by next (Delegates n) plain keys moves leaves = delegates n plain keys moves

    -- ---- a row

    row_by : (next : ℕ) (z : RowEnd) → PlainCovered z → KeysCovered z → OnDone z Moves → OnDone z (λ d. Guards (mode_of i) f.protected f.fixed f.pieces d.effect) → OnDone z (λ d. OnLeave d.next (Leaves (frame_at f next) d.effect))
        → SumsCovered z
    row_by next (Abends cause) plain keys moves guards leaves = abend_keeps r g t u e (Failed f.at cause ∷ h) f cause (keeps_quiet setting (Failed f.at cause) h f.fixed tt before) plain
    row_by next (Does d) plain keys moves guards leaves = done_by d.effect guards next d.next plain keys moves leaves

    turn_covered : (x : Around) (next : ℕ) → FitsEntry e x → IsDelegator x.delegator → instruction_at g.app.code f.at ≡ Ok (i, next) → SumsCovered (row i (frame_at f next) public x)
    turn_covered x next fits names at =
        let key : PlaceKey = key_of setting t e h f public p.place in
        let spot = spot_at setting t e h f public p.place in
        let one : place_closed setting u spot (sums_at u key) ≡ true = place_checked setting u t.places key p.place.known sums.places p.place.there in
        let two : fetched_closed setting u spot p.known (instruction_at g.app.code f.at) ≡ true = subst (λ (o : Option Sums). place_closed setting u spot o ≡ true) p.there one in
        let checked : fetched_closed setting u spot p.known (Ok (i, next)) ≡ true = subst (λ (z : Result (Ins × ℕ) DecodeFault). fetched_closed setting u spot p.known z ≡ true) at two in
        row_by next (row i (frame_at f next) public x) (all_rows i r g t loadable closed e h f public depth x next p.place fits deep names segment at)
        (closed_next_law i r g t loadable closed e h f public depth x next p.place fits deep names segment at)
        (rows i setting t u loadable sums.static e h f public x next p.place fits names segment.0 at p.known p.sums checked)
        (row_guards i f next public x) (row_leaves i (frame_at f next) public x)

  -- what is fetched at a place
  pub fetched_covered : (e : Entry Event) (h : History) (f : Frame) (public : List ℕ) (depth : ℕ) (x : Around) (p : IsSumPlace setting t u e h f public) → FitsEntry e x → FitsDepth e depth → IsDelegator x.delegator → IsSegment (domain_of_rules g (covering_of setting t)) public
      → (z : Result (Ins × ℕ) DecodeFault) → instruction_at g.app.code f.at ≡ z → FetchCovered (domain_of_rules g (sums_covering_of setting t u)) e h f public depth x z
  fetched_covered e h f public depth x p fits deep names segment (Ok i) at = turn_covered e h f public depth p deep segment i.0 x i.1 fits names at
  fetched_covered e h f public depth x p fits deep names segment (Err fault) at =
      let places : PlacesCovered setting t g = place_law r g t loadable closed in
      let before : Keeps setting h f.fixed = keeps_of setting h f.fixed p.place.standing p.place.stands p.sums.kept in
      abend_keeps r g t u e (Failed f.at (fetch_cause fault) ∷ h) f (fetch_cause fault) (keeps_quiet setting (Failed f.at (fetch_cause fault)) h f.fixed tt before) (places.unfetched e h f public fault p.place at)
