-- A move that is made from a state, by its lines: the cut, the move, and the power line after a cut.
use Rattle.std.proofs.Common.{◌≡◌, ap, sym, subst, ◌∙◌, refl, arith}
use Rattle.std.specs.Prelude.{ℕ, ◌+◌, ◌<◌, ◌≤◌, Bool, true, false, nat_le, List, Option, None, Some, option_map, Result, Ok, Err, IfOk}
use Rattle.std.proofs.lemmas.Bool.{leb-true, leb-false, not-true, not-false}
use Rattle.law_explore_text.specs.model_device.specs.Device.{DeviceState, BenchState}
use Rattle.law_explore_text.specs.model_device.specs.PowerUp.{Base, OnCard, AtFault}
use Rattle.law_explore_text.specs.model_play.specs.DeckGrammar.{DeckLine}
use Rattle.law_explore_text.specs.model_play.specs.DeckGrammar as line
use Rattle.law_explore_text.specs.model_play.specs.Play as play
use Rattle.law_explore_text.specs.model_play.specs.Play.{Armed, Unarmed, ArmedCut, Warm, State, BeforePower, AfterPower, LineResult, Step, Running, Unpowered, Muted, armed_stop_in, step, is_card_line, static_of, NoCard}
use Rattle.law_explore_text.specs.model_play.specs.Family.{is_running, live_in}
use Rattle.law_explore_text.specs.model_play.specs.TraceText.{shown_turns}
use Rattle.law_explore_text.specs.law_explore.specs.Rules.{Move}
use Rattle.law_explore_text.specs.law_explore.specs.States.{CardState, play_of, state_in}
use Rattle.law_explore_text.specs.law_explore.specs.Tries.{writes_of, step_of, recovery, result_text}
use Rattle.law_explore_text.specs.law_explore.specs.Safety.{CanMake}
use Rattle.law_explore_text.specs.law_explore.proofs.Actions.{IsStarted, Agrees}
use Rattle.law_explore_text.specs.law_explore.proofs.Decisions.{done_same}
use Rattle.lab_rules.specs.declared.rules.OnRule.{OnRule}
use Rattle.lab_rules.specs.Occasions.{counts_after_turns}
use Rattle.mc_script.specs.declared.answer.Answer.{Answer}
use Rattle.mc_script.specs.declared.live.Live.{Live}
use Rattle.mc_script.specs.declared.player.Player.{Player}
use Rattle.mc_script.specs.Cuts.{is_off, off_in}
use Rattle.mc_script.specs.Players.{answer_value, device_of, IsPlayerAt}
use Rattle.mc_script.specs.Lives.{LiveShows}
use Rattle.mc_script.proofs.CutLemmas.{off_answer}
use Rattle.lab_search.specs.declared.journey.Fill.{Fill}
use Rattle.lab_search.specs.declared.journey.Manner.{Manner}
use Rattle.lab_search.specs.declared.journey.Manner.TheVariants as manner
use Rattle.lab_search.specs.Playing.{FailsNot, PlaysAs, CountsAs}
use Rattle.lab_search.specs.Reports.{fill_value, manner_value}
use Rattle.lab_key.specs.Shown.{IsKeptBase, IsShown}
use Rattle.lab_search.specs.Shown.{settled_play}
use Rattle.lab_search.specs.Trying.{CanCut, CountsWrite, IsMade, IsMissed, armed_for, is_missed, reached, MadeAs, IsLiveAfter, TriedState, TriedAs}
use Rattle.lab_search.proofs.MoveLemmas.{IsOnCard, move_hit, card_line_leaves, IsRecovered, move_recovers}

-- ---- states

started_of : (l : play.Live) (b : Base) → IsKeptBase l b → IsStarted l b 0
started_of (Running session_state) (OnCard c) h = (refl, h)
started_of (Running session_state) (AtFault cause place) h = h
started_of Unpowered (OnCard c) h = h
started_of Unpowered (AtFault cause place) h = h
started_of Muted (OnCard c) h = h
started_of Muted (AtFault cause place) h = h

kept_of : (l : play.Live) (b : Base) (o : ℕ) → IsStarted l b o → IsKeptBase l b
kept_of (Running session_state) (OnCard c) o h = h.1
kept_of (Running session_state) (AtFault cause place) o h = h
kept_of Unpowered (OnCard c) o h = h
kept_of Unpowered (AtFault cause place) o h = h
kept_of Muted (OnCard c) o h = h
kept_of Muted (AtFault cause place) o h = h

runs_on_card : (l : play.Live) (b : Base) → IsKeptBase l b → is_running l ≡ true → IsOnCard b
runs_on_card (Running session_state) (OnCard c) h on = tt
runs_on_card (Running session_state) (AtFault cause place) h on = absurd h
runs_on_card Unpowered b h on = absurd (cc on)
runs_on_card Muted b h on = absurd (cc on)

-- a state goes on as it is
agrees_self : (c : CardState) → IsKeptBase c.live c.base → Agrees (play_of c) c
agrees_self c h = record { warm = settled_play c.base c.live c.budget; is = refl; base = refl; live = refl; budget = refl; unarmed = refl; started = started_of c.live c.base h }

can_make : (c : CardState) (m : Move) (w : Manner) → CanCut c w → IsMade c m w → CanMake (play_of c) m (manner_value w)
can_make c m manner.Whole can made = tt
can_make c m (manner.Cut n f) can made = (can.0, omega arith, omega (arith, made))

-- after a move that is made, and its recovery, the base is one that is kept
pub kept_after : (c : CardState) (m : Move) (w : Manner) (a : List (List ℕ × ℕ)) → is_card_line m.line ≡ true → IsKeptBase c.live c.base → CanCut c w → IsMade c m w
    → IsKeptBase (reached c m w a).live (reached c m w a).base
kept_after c m w a is kept can made =
    let d = (done_same (play_of c) c m (manner_value w) is (agrees_self c kept) (can_make c m w can made)).after a in
    kept_of (reached c m w a).live (reached c m w a).base d.warm.owed d.started

module _ {N : Type 0} (state : N → DeviceState) (bench : N → BenchState) where
  -- ---- a move

  abbrev made_step : CardState → Move → Manner → Step
  made_step c m w = step_of (play_of c) m (manner_value w)

  step_by : (c : CardState) (m : Move) (w : Manner) → step (armed_for m.number w (play_of c)) (m.number, m.line) None ≡ made_step c m w
  step_by c m manner.Whole = refl
  step_by c m (manner.Cut n f) = refl

  fails_not : (c : CardState) (n : ℕ) (w : Manner) → FailsNot (armed_stop_in (armed_for n w (play_of c)))
  unfolding step
  fails_not c n manner.Whole = tt
  fails_not c n (manner.Cut k f) = tt

  -- the move was played
  pub record MovePlayed (c : CardState) (m : Move) (w : Manner) (q : Player N) (a : Option Answer) : Type 0 where
    pub at : IsPlayerAt state bench q (made_step c m w).after
    pub answers : option_map (answer_value state q) a ≡ (made_step c m w).result
    pub steady : (bench (device_of q)).steady ≡ true

  -- a player that plays the line of a move has made it
  pub move_played : (c : CardState) (m : Move) (w : Manner) (p q : Player N) (a : Option Answer) → IsPlayerAt state bench p (armed_for m.number w (play_of c)) → (bench (device_of p)).steady ≡ true
      → PlaysAs state bench p m.line a q → MovePlayed c m w q a
  move_played c m w p q a at steady plays =
      let d = plays (armed_for m.number w (play_of c)) m.number at steady (fails_not c m.number w) in
      let e = step_by c m w in
      record {
        at = subst (λ (t : Step). IsPlayerAt state bench q t.after) e d.at;
        answers = d.answers ∙ ap (λ (t : Step). t.result) e;
        steady = d.steady;
      }

  -- a cut hit exactly if the move makes the write
  missed_false : (c : CardState) (m : Move) (w : Manner) (q : Player N) (a : Option Answer) → is_card_line m.line ≡ true → IsKeptBase c.live c.base → CanCut c w → MovePlayed c m w q a
      → is_missed w a ≡ false → IsMade c m w
  missed_false c m manner.Whole q a is kept can h off = tt
  missed_false c m (manner.Cut n f) q a is kept can h off =
      let hit = off_answer state q a ∙ ap (λ (r : Option LineResult). is_off r) h.answers ∙ move_hit c m (n + 1) (fill_value f) is can.0 (runs_on_card c.live c.base kept can.0) in
      let yes : nat_le (n + 1) (writes_of (play_of c) m) ≡ true = sym hit ∙ not-false (off_in a) off in
      let le : n + 1 ≤ writes_of (play_of c) m = leb-true (n + 1) (writes_of (play_of c) m) yes in
      omega (arith, le)

  missed_true : (c : CardState) (m : Move) (w : Manner) (q : Player N) (a : Option Answer) → is_card_line m.line ≡ true → IsKeptBase c.live c.base → CanCut c w → MovePlayed c m w q a
      → is_missed w a ≡ true → IsMissed c m w
  missed_true c m manner.Whole q a is kept can h off = absurd (cc off)
  missed_true c m (manner.Cut n f) q a is kept can h off =
      let hit = off_answer state q a ∙ ap (λ (r : Option LineResult). is_off r) h.answers ∙ move_hit c m (n + 1) (fill_value f) is can.0 (runs_on_card c.live c.base kept can.0) in
      let not_le : nat_le (n + 1) (writes_of (play_of c) m) ≡ false = sym hit ∙ not-true (off_in a) off in
      let lt : writes_of (play_of c) m < n + 1 = leb-false (n + 1) (writes_of (play_of c) m) not_le in
      omega (arith, lt)

  counted : (c : CardState) (m : Move) (w : Manner) (p : Player N) (ons : List OnRule) (applies : List Bool) (before after : List ℕ) → IsPlayerAt state bench p (armed_for m.number w (play_of c))
      → (bench (device_of p)).steady ≡ true → CountsAs state bench ons applies p m.line before after
      → after ≡ counts_after_turns ons applies (shown_turns (made_step c m w).turns (made_step c m w).stop) before
  counted c m w p ons applies before after at steady counts =
      subst (λ (t : Step). after ≡ counts_after_turns ons applies (shown_turns t.turns t.stop) before) (step_by c m w)
      (counts (armed_for m.number w (play_of c)) m.number at steady (fails_not c m.number w))

  fails_unarmed : (s : State) (w : Warm) → s ≡ AfterPower w → w.armed ≡ Unarmed → FailsNot (armed_stop_in s)
  fails_unarmed s w is none = subst (λ (z : State). FailsNot (armed_stop_in z)) (sym is) (subst (λ (a : Armed). FailsNot a) (sym none) tt)

  -- ---- the power line after it

  -- no failed write is armed after a move
  pub unarmed_after : (c : CardState) (m : Move) (w : Manner) → is_card_line m.line ≡ true → FailsNot (armed_stop_in (made_step c m w).after)
  unfolding step
  unarmed_after c m manner.Whole is =
      let h = card_line_leaves m.number m.line (settled_play c.base c.live c.budget) is in
      fails_unarmed (made_step c m manner.Whole).after h.warm h.is h.unarmed
  unarmed_after c m (manner.Cut n f) is =
      let h = card_line_leaves m.number m.line (record (settled_play c.base c.live c.budget) { armed = ArmedCut (n + 1) (fill_value f) }) is in
      fails_unarmed (made_step c m (manner.Cut n f)).after h.warm h.is h.unarmed

  -- a move that was made, with the player after its recovery
  pub made_yes : (c : CardState) (m : Move) (w : Manner) (p q r : Player N) (a : Option Answer) (ons : List OnRule) (applies : List Bool) (before after text : List ℕ) → is_card_line m.line ≡ true
      → IsKeptBase c.live c.base → CanCut c w → IsPlayerAt state bench p (armed_for m.number w (play_of c)) → (bench (device_of p)).steady ≡ true → PlaysAs state bench p m.line a q
      → CountsAs state bench ons applies p m.line before after → text ≡ result_text (option_map (answer_value state q) a) → is_missed w a ≡ false
      → ((s : State) (n : ℕ) → IsPlayerAt state bench q s → (bench (device_of q)).steady ≡ true → FailsNot (armed_stop_in s) → IsPlayerAt state bench r (recovery n (manner_value w) s))
      → MadeAs state bench c m w ons applies before after text r true
  made_yes c m w p q r a ons applies before after text is kept can at steady plays counts shows off recovers =
      let h = move_played c m w p q a at steady plays in
      record {
        text = shows ∙ ap (λ (x : Option LineResult). result_text x) h.answers;
        counts = counted c m w p ons applies before after at steady counts;
        hit = (missed_false c m w q a is kept can h off, recovers (made_step c m w).after m.number h.at h.steady (unarmed_after c m w is));
      }

  -- a cut that hit no write
  pub made_no : (c : CardState) (m : Move) (w : Manner) (p q : Player N) (a : Option Answer) (ons : List OnRule) (applies : List Bool) (before after text : List ℕ) → is_card_line m.line ≡ true
      → IsKeptBase c.live c.base → CanCut c w → IsPlayerAt state bench p (armed_for m.number w (play_of c)) → (bench (device_of p)).steady ≡ true → PlaysAs state bench p m.line a q
      → CountsAs state bench ons applies p m.line before after → text ≡ result_text (option_map (answer_value state q) a) → is_missed w a ≡ true
      → MadeAs state bench c m w ons applies before after text q false
  made_no c m w p q a ons applies before after text is kept can at steady plays counts shows off =
      let h = move_played c m w p q a at steady plays in
      record {
        text = shows ∙ ap (λ (x : Option LineResult). result_text x) h.answers;
        counts = counted c m w p ons applies before after at steady counts;
        hit = missed_true c m w q a is kept can h off;
      }

  -- ---- what is shown after it

  shown_at : (q : Player N) (w : Warm) (v : Live) → w.owed ≡ 0 → IsKeptBase w.live w.base → IsPlayerAt state bench q (AfterPower w) → LiveShows (state (device_of q)).words v w.live
      → IsShown (state (device_of q)).words v w.base w.live
  shown_at q w v none kept at shows =
      record { holds = record { base = at.stands.1.base; owed = at.stands.1.owed ∙ none; by = λ some. absurd (some refl) }; live = shows; base = kept }

  shown_in : (q : Player N) (t : State) (v : Live) (g : ℕ) (a : List (List ℕ × ℕ)) → IsRecovered g t → IsKeptBase (state_in t a).live (state_in t a).base → IsPlayerAt state bench q t
      → LiveShows (state (device_of q)).words v (live_in t) → IsShown (state (device_of q)).words v (state_in t a).base (state_in t a).live × ((state_in t a).budget ≡ g)
  shown_in q t v g a h =
      subst (λ (z : State). IsKeptBase (state_in z a).live (state_in z a).base → IsPlayerAt state bench q z → LiveShows (state (device_of q)).words v (live_in z)
      → IsShown (state (device_of q)).words v (state_in z a).base (state_in z a).live × ((state_in z a).budget ≡ g)) (sym h.is)
      (λ kept at shows. (shown_at q h.warm v h.owed kept at shows, h.budget))

  -- the words after a try show the state after its move
  pub shown_after : (c : CardState) (m : Move) (w : Manner) (q : Player N) (v : Live) (ons : List OnRule) (applies : List Bool) (before after text : List ℕ) → is_card_line m.line ≡ true
      → IsKeptBase c.live c.base → CanCut c w → MadeAs state bench c m w ons applies before after text q true
      → ((s : State) → IsPlayerAt state bench q s → LiveShows (state (device_of q)).words v (live_in s)) → TriedState c m w (state (device_of q)).words (Some v)
  shown_after c m w q v ons applies before after text is kept can made lives =
      let t = recovery m.number (manner_value w) (made_step c m w).after in (
        made.hit.0,
        λ a. shown_in q t v c.budget a (move_recovers c m (manner_value w) is) (kept_after c m w a is kept can made.hit.0) made.hit.1 (lives t made.hit.1),
      )

  -- ---- a try on a device

  tried_state : {E : Type 0} (c : CardState) (m : Move) (w : Manner) (q : Player N) (ons : List OnRule) (applies : List Bool) (before after text : List ℕ) (made : Bool) (r : Result (Option Live) E)
      → is_card_line m.line ≡ true → IsKeptBase c.live c.base → CanCut c w → MadeAs state bench c m w ons applies before after text q made → IfOk r (IsLiveAfter state bench q made)
      → IfOk r (TriedState c m w (state (device_of q)).words)
  tried_state c m w q ons applies before after text true (Ok (Some v)) is kept can made lives = shown_after c m w q v ons applies before after text is kept can made lives
  tried_state c m w q ons applies before after text true (Ok None) is kept can made lives = absurd lives
  tried_state c m w q ons applies before after text false (Ok None) is kept can made lives = made.hit
  tried_state c m w q ons applies before after text false (Ok (Some v)) is kept can made lives = absurd lives
  tried_state c m w q ons applies before after text made (Err e) is kept can h lives = lives

  -- a try on a device leaves what the step of the definition does
  pub tried_as : {E : Type 0} (c : CardState) (m : Move) (w : Manner) (q : Player N) (d : N) (ons : List OnRule) (applies : List Bool) (before after text : List ℕ) (made : Bool) (r : Result (Option Live) E)
      → d ≡ device_of q → is_card_line m.line ≡ true → IsKeptBase c.live c.base → CanCut c w → MadeAs state bench c m w ons applies before after text q made → IfOk r (IsLiveAfter state bench q made)
      → TriedAs c m w ons applies before after text (state d).words r
  tried_as c m w q d ons applies before after text made r same is kept can h lives =
      record {
        text = h.text;
        counts = h.counts;
        state = subst (λ (e : N). IfOk r (TriedState c m w (state e).words)) (sym same) (tried_state c m w q ons applies before after text made r is kept can h lives);
      }

  -- a cut that is armed
  pub armed_at : (p q : Player N) (made k : ℕ) (f : Fill) (s : State) (n : ℕ) → k ≡ made + 1 → PlaysAs state bench p (line.Cut k (fill_value f)) None q → IsPlayerAt state bench p s
      → (bench (device_of p)).steady ≡ true → FailsNot (armed_stop_in s) → IsPlayerAt state bench q (armed_for n (manner.Cut made f) s)
  armed_at p q made k f s n is plays at steady fails =
      subst (λ (i : ℕ). IsPlayerAt state bench q (step s (n, line.Cut i (fill_value f)) None).after) is (plays s n at steady fails).at

  -- a cut line has no result
  pub cut_silent : (p q : Player N) (k : ℕ) (x : List ℕ) (a : Option Answer) → PlaysAs state bench p (line.Cut k x) a q → PlaysAs state bench p (line.Cut k x) None q
  unfolding step
  cut_silent p q k x a plays (BeforePower m b r) n at steady fails =
      let d = plays (BeforePower m b r) n at steady fails in
      record { at = d.at; answers = refl; steady = d.steady; words = d.words }
  cut_silent p q k x a plays (AfterPower w) n at steady fails =
      let d = plays (AfterPower w) n at steady fails in
      record { at = d.at; answers = refl; steady = d.steady; words = d.words }

-- a manner that can be tried has a number that a line can have
pub counts_write : (c : CardState) (w : Manner) → CanCut c w → CountsWrite w
counts_write c manner.Whole can = tt
counts_write c (manner.Cut n f) can = can.1
