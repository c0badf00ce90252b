-- The run of a chain reads and writes on one side of a closed family alone: over two maps that agree there, the runs
-- are equal.
use Rattle.std.specs.Prelude.{◌≡◌, ℕ, zero, suc, Bool, true, false, cond, ◌||◌, nat_lt, nat_le, List, [], ◌∷◌, ◌++◌, unwrap_or, Option, Some, None, Result, Ok, Err, ⊤}
use Rattle.std.proofs.Common.{arith, refl, ap, sym, subst, ◌∙◌}
use Rattle.model_play.specs.model_machine.specs.declared.instruction.Ins.{Ins}
use Rattle.model_play.specs.model_machine.specs.declared.instruction.DecodeFault.{DecodeFault}
use Rattle.model_play.specs.model_machine.specs.declared.instruction.DecodeFault.TheVariants.{Undefined, Past}
use Rattle.model_play.specs.model_device.specs.Bytes.{has_name, lookup}
use Rattle.model_play.specs.model_machine.specs.Apdu.{ApduParts}
use Rattle.model_play.specs.model_machine.specs.Code.{instruction_at}
use Rattle.model_play.specs.model_device.specs.Card.{App, app_at_place}
use Rattle.model_play.specs.model_machine.specs.Frame.{Frame, Effect, la_of}
use Rattle.model_play.specs.model_machine.specs.Primitives.{Then, Goes, Exits, Delegates, Done}
use Rattle.model_play.specs.model_machine.specs.Row.{RowEnd, Abends, Does, row}
use Rattle.model_play.specs.model_machine.specs.Chain.{Outcome, Write, Chain, Ran, Acted, Follows, Continues, Ends, code_in, map_changed, write_of, chain_after_effect, is_active, depth_of, entered_app, called_app, chain_after_call, after_exit, follows, pair_of, done_turn, row_turn, turn_of_fetch, frame_at, around, turn_of_chain, ends_with, goes_on, run_after_turn, chain_session, run_of_chain, start_app, start, no_app, run}
use Rattle.model_play.specs.Family.{ClosedPairs}
use Rattle.law_family.proofs.Agreement.{bare, MapsAgree, agree_map_changed}
use Rattle.law_machine.specs.law_rows.proofs.RowNames.{RowKeepsName, row_name}

-- ---- sides

-- a chain over another map
abbrev pub over : Chain → List (List ℕ × App) → Chain
over ch m = record ch { map = m }

-- frames, and the names of writes, of one side
abbrev pub AllOn : List (List ℕ) → Bool → List Frame → Type 0
AllOn K x [] = ⊤
AllOn K x (f ∷ fs) = (has_name f.name K ≡ x) × AllOn K x fs

pub record On (K : List (List ℕ)) (x : Bool) (ch : Chain) : Type 0 where
  pub running : has_name ch.frame.name K ≡ x
  pub below : AllOn K x ch.below

abbrev pub WritesOn : List (List ℕ) → Bool → List Write → Type 0
WritesOn K x [] = ⊤
WritesOn K x (w ∷ ws) = (has_name w.name K ≡ x) × WritesOn K x ws

-- what follows is one end, or one chain over maps that agree
pub record Continue (K : List (List ℕ)) (x : Bool) (ch d : Chain) : Type 0 where
  pub map : List (List ℕ × App)
  pub same : d ≡ over ch map
  pub agree : MapsAgree K x ch.map map
  pub on : On K x ch

abbrev pub FollowAlike : List (List ℕ) → Bool → Follows → Follows → Type 0
FollowAlike K x (Ends o) (Ends p) = o ≡ p
FollowAlike K x (Continues ch) (Continues d) = Continue K x ch d
FollowAlike K x (Ends o) (Continues d) = ⊥
FollowAlike K x (Continues ch) (Ends o) = ⊥

pub record ActAlike (K : List (List ℕ)) (x : Bool) (a b : Acted) : Type 0 where
  pub same : b ≡ record a { follows = b.follows }
  pub follows : FollowAlike K x a.follows b.follows
  pub mine : WritesOn K x a.writes

pub record RunAlike (K : List (List ℕ)) (x : Bool) (r s : Ran) : Type 0 where
  pub same : s ≡ r
  pub mine : WritesOn K x r.writes

module _ (K : List (List ℕ)) where
  -- ---- pairs

  closed_front : (ps qs : List (List ℕ × List ℕ)) → ClosedPairs K (ps ++ qs) → ClosedPairs K ps
  closed_front [] qs h = tt
  closed_front (p ∷ ps) qs h = (h.0, closed_front ps qs h.1)

  closed_back : (ps qs : List (List ℕ × List ℕ)) → ClosedPairs K (ps ++ qs) → ClosedPairs K qs
  closed_back [] qs h = h
  closed_back (p ∷ ps) qs h = closed_back ps qs h.1

  closed_act : (a : Acted) (s : List ℕ) (f : Follows) (rest : Chain → Ran) → ClosedPairs K (run_after_turn a s f rest).pairs → ClosedPairs K a.pairs
  closed_act a s (Ends o) rest h = h
  closed_act a s (Continues ch) rest h = closed_front a.pairs (rest ch).pairs h

module _ (K : List (List ℕ)) (x : Bool) where
  writes_on_append : (vs ws : List Write) → WritesOn K x vs → WritesOn K x ws → WritesOn K x (vs ++ ws)
  writes_on_append [] ws g h = h
  writes_on_append (v ∷ vs) ws g h = (g.0, writes_on_append vs ws g.1 h)

  write_of_on : (n : List ℕ) (o : Option (List (ℕ × List ℕ))) → has_name n K ≡ x → WritesOn K x (write_of n o)
  write_of_on n None h = tt
  write_of_on n (Some ps) h = (h, tt)

  -- ---- what follows a turn

  called_app_alike : (b : Bool) (ch : Chain) (m : List (List ℕ × App)) (n : List ℕ) (a c : App) → app_at_place 0 a ≡ app_at_place 0 c → MapsAgree K x ch.map m → On K x ch → has_name n K ≡ x → Continue K x (called_app b ch n a) (called_app b (over ch m) n c)
  called_app_alike true ch m n a c e h on is = record { map = m; same = refl; agree = h; on = record { running = on.running; below = on.below } }
  called_app_alike false ch m n a c e h on is =
      record { map = m; same = ap (λ (z : App). entered_app (over ch m) n z) (sym e); agree = h; on = record { running = is; below = (on.running, on.below) } }

  called_alike : (ch : Chain) (m : List (List ℕ × App)) (n : List ℕ) (o p : Option App) → bare o ≡ bare p → MapsAgree K x ch.map m → On K x ch → has_name n K ≡ x → Continue K x (chain_after_call ch n o) (chain_after_call (over ch m) n p)
  called_alike ch m n None None e h on is = record { map = m; same = refl; agree = h; on = record { running = on.running; below = on.below } }
  called_alike ch m n None (Some c) e h on is = absurd (cc e)
  called_alike ch m n (Some a) None e h on is = absurd (cc e)
  called_alike ch m n (Some a) (Some c) e h on is =
      let same : app_at_place 0 a ≡ app_at_place 0 c = cc in
      called_app_alike (is_active n ch.frame ch.below || nat_le 4 (depth_of ch)) ch m n a c same h on is

  last_alike : (b : Bool) (o p : Outcome) → FollowAlike K x (cond b (Ends o) (Ends p)) (cond b (Ends o) (Ends p))
  last_alike true o p = refl
  last_alike false o p = refl

  exited_alike : (ch : Chain) (m : List (List ℕ × App)) (fs : List Frame) → AllOn K x fs → MapsAgree K x ch.map m → FollowAlike K x (after_exit ch fs) (after_exit (over ch m) fs)
  exited_alike ch m [] all h = last_alike (nat_lt 1024 (la_of ch.public)) _ _
  exited_alike ch m (f ∷ fs) all h = record { map = m; same = refl; agree = h; on = record { running = all.0; below = all.1 } }

  follows_alike : (ch : Chain) (m : List (List ℕ × App)) (t : Then) → ClosedPairs K (pair_of ch.frame.name t) → MapsAgree K x ch.map m → On K x ch → FollowAlike K x (follows ch t) (follows (over ch m) t)
  follows_alike ch m Goes closed h on = record { map = m; same = refl; agree = h; on = on }
  follows_alike ch m Exits closed h on = exited_alike ch m ch.below on.below h
  follows_alike ch m (Delegates n) closed h on =
      let is : has_name n K ≡ x = sym closed.0 ∙ on.running in
      called_alike ch m n (lookup ch.map n) (lookup m n) (h n is) h on is

  -- ---- turns

  turn_alike : (ch : Chain) (i : Ins) (e : Effect) (f g : Follows) (ps : List (List ℕ × List ℕ)) → FollowAlike K x f g → done_turn ch i e g ps ≡ record (done_turn ch i e f ps) { follows = g }
  turn_alike ch i e f g ps h = grind (arith, follows)

  done_alike : (ch : Chain) (m : List (List ℕ × App)) (i : Ins) (d : Done) → d.effect.frame.name ≡ ch.frame.name → ClosedPairs K (pair_of ch.frame.name d.next) → MapsAgree K x ch.map m → On K x ch → ActAlike K x (row_turn ch i (Does d)) (row_turn (over ch m) i (Does d))
  done_alike ch m i d name closed h on =
      let s = chain_after_effect ch d.effect in
      let n = map_changed m ch.frame.name d.effect.changes in
      let f : FollowAlike K x (follows s d.next) (follows (over s n) d.next) =
      follows_alike s n d.next (subst (λ (k : List ℕ). ClosedPairs K (pair_of k d.next)) (sym name) closed)
      (agree_map_changed K x ch.map m ch.frame.name d.effect.changes h)
      (record { running = ap (λ (k : List ℕ). has_name k K) name ∙ on.running; below = on.below })
      in
      record {
        same = turn_alike ch i d.effect (follows s d.next) (follows (over s n) d.next) (pair_of ch.frame.name d.next) f;
        follows = f;
        mine = write_of_on ch.frame.name d.effect.changes on.running;
      }

  row_turn_alike : (ch : Chain) (m : List (List ℕ × App)) (i : Ins) (e : RowEnd) → RowKeepsName ch.frame.name e → ClosedPairs K (row_turn ch i e).pairs → MapsAgree K x ch.map m → On K x ch → ActAlike K x (row_turn ch i e) (row_turn (over ch m) i e)
  row_turn_alike ch m i (Abends c) name closed h on = record { same = refl; follows = refl; mine = tt }
  row_turn_alike ch m i (Does d) name closed h on = done_alike ch m i d name closed h on

  fetched_alike : (ch : Chain) (m : List (List ℕ × App)) (r : Result (Ins × ℕ) DecodeFault) → ClosedPairs K (turn_of_fetch ch r).pairs → MapsAgree K x ch.map m → On K x ch → ActAlike K x (turn_of_fetch ch r) (turn_of_fetch (over ch m) r)
  fetched_alike ch m (Err Undefined) closed h on = record { same = refl; follows = refl; mine = tt }
  fetched_alike ch m (Err Past) closed h on = record { same = refl; follows = refl; mine = tt }
  fetched_alike ch m (Ok i) closed h on =
      row_turn_alike ch m i.0 (row i.0 (frame_at ch.frame i.1) ch.public (around ch)) (row_name i.0 (frame_at ch.frame i.1) ch.public (around ch)) closed h on

  code_bare : (o : Option App) → code_in (bare o) ≡ code_in o
  code_bare None = refl
  code_bare (Some a) = refl

  acted_alike : (ch : Chain) (m : List (List ℕ × App)) → ClosedPairs K (turn_of_chain ch).pairs → MapsAgree K x ch.map m → On K x ch → ActAlike K x (turn_of_chain ch) (turn_of_chain (over ch m))
  unfolding turn_of_chain
  acted_alike ch m closed h on =
      let n = ch.frame.name in
      let code : code_in (lookup ch.map n) ≡ code_in (lookup m n) = sym (code_bare (lookup ch.map n)) ∙ (ap code_in (h n on.running) ∙ code_bare (lookup m n)) in
      subst (λ (c : List ℕ). ActAlike K x (turn_of_fetch ch (instruction_at (code_in (lookup ch.map n)) ch.frame.at)) (turn_of_fetch (over ch m) (instruction_at c ch.frame.at))) code
      (fetched_alike ch m (instruction_at (code_in (lookup ch.map n)) ch.frame.at) closed h on)

  -- ---- runs

  ran_on_alike : (a b : Acted) (s : List ℕ) (f g : Follows) (rest : Chain → Ran)
      → b ≡ record a { follows = b.follows } → WritesOn K x a.writes → FollowAlike K x f g
      → ((ch : Chain) (m : List (List ℕ × App)) → ClosedPairs K (rest ch).pairs → MapsAgree K x ch.map m → On K x ch → RunAlike K x (rest ch) (rest (over ch m)))
      → ClosedPairs K (run_after_turn a s f rest).pairs → RunAlike K x (run_after_turn a s f rest) (run_after_turn b s g rest)
  ran_on_alike a b s (Ends o) (Ends p) rest same mine h again closed =
      record { same = ap (λ (z : Acted). ends_with z s p) same ∙ ap (λ (z : Outcome). ends_with a s z) (sym h); mine = mine }
  ran_on_alike a b s (Continues c) (Continues d) rest same mine h again closed =
      let r : RunAlike K x (rest c) (rest (over c h.map)) = again c h.map (closed_back K a.pairs (rest c).pairs closed) h.agree h.on in
      record {
        same = ap (λ (z : Acted). goes_on z (rest d)) same ∙ (ap (λ (z : Chain). goes_on a (rest z)) h.same ∙ ap (λ (z : Ran). goes_on a z) r.same);
        mine = writes_on_append a.writes (rest c).writes mine r.mine;
      }
  ran_on_alike a b s (Ends o) (Continues d) rest same mine h again closed = absurd h
  ran_on_alike a b s (Continues c) (Ends p) rest same mine h again closed = absurd h

  -- over maps that agree on the side of its frames, a chain runs alike, and writes on that side alone
  pub ran_alike : (n : ℕ) (ch : Chain) (m : List (List ℕ × App)) → ClosedPairs K (run_of_chain n ch).pairs → MapsAgree K x ch.map m → On K x ch → RunAlike K x (run_of_chain n ch) (run_of_chain n (over ch m))
  unfolding run_of_chain
  ran_alike zero ch m closed h on = record { same = refl; mine = tt }
  ran_alike (suc n) ch m closed h on =
      let t : ActAlike K x (turn_of_chain ch) (turn_of_chain (over ch m)) = acted_alike ch m (closed_act K (turn_of_chain ch) (chain_session ch) (turn_of_chain ch).follows (λ c. run_of_chain n c) closed) h on in
      ran_on_alike (turn_of_chain ch) (turn_of_chain (over ch m)) (chain_session ch) (turn_of_chain ch).follows (turn_of_chain (over ch m)).follows (λ c. run_of_chain n c) t.same t.mine t.follows
      (λ c d. ran_alike n c d) closed

  found_alike : (o p : Option App) → bare o ≡ bare p → app_at_place 0 (unwrap_or o no_app) ≡ app_at_place 0 (unwrap_or p no_app)
  found_alike o p e = grind arith

  -- The run lemma: on two maps that agree on one side of a closed family, from a first name of that side, there is one
  -- run, all of whose writes belong to that side.
  pub run_alike : (m d : List (List ℕ × App)) (first session : List ℕ) (a : ApduParts) (budget : ℕ) → ClosedPairs K (run m first session a budget).pairs → MapsAgree K x m d → has_name first K ≡ x → RunAlike K x (run m first session a budget) (run d first session a budget)
  run_alike m d first session a budget closed h is =
      let e = found_alike (lookup m first) (lookup d first) (h first is) in
      let same : start d first session a ≡ over (start m first session a) d = ap (λ (z : App). start_app d first session a z) (sym e) in
      subst (λ (ch : Chain). RunAlike K x (run m first session a budget) (run_of_chain budget ch)) (sym same)
      (ran_alike budget (start m first session a) d closed h (record { running = is; below = tt }))
