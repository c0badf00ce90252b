-- From the end of a deck to the first state.
use Rattle.std.specs.Prelude.{◌≡◌, ℕ, ◌≤◌, Bool, true, false, cond, nat_le, List, [], ◌∷◌, ◌++◌, length, map, Option, Some, None, option_map, refl}
use Rattle.std.proofs.Common.{ap, sym, subst, ◌∙◌}
use Rattle.std.proofs.lemmas.Bool.{lt-leb}
use Rattle.law_explore_text.specs.model_device.specs.declared.device.Stop.TheVariants as stop
use Rattle.law_explore_text.specs.model_device.specs.Bytes.{zeros, lookup}
use Rattle.law_explore_text.specs.model_device.specs.Device.{DeviceState, BenchState, blank_words, device_words}
use Rattle.law_explore_text.specs.model_device.specs.Image.{Journal, Look, Refused, Closed, Pending, gate, image_after_replay, look, shut_word}
use Rattle.law_explore_text.specs.model_device.specs.Card.{App, means, words_after, Card as ModelCard}
use Rattle.law_explore_text.specs.model_device.proofs.ImageLemmas.{length_laid}
use Rattle.law_explore_text.specs.model_device.specs.PowerUp.{Base, OnCard, AtFault, base_of}
use Rattle.law_explore_text.specs.model_card.specs.Items.{StopAt}
use Rattle.law_explore_text.specs.model_card.specs.Commands.{command, refusal}
use Rattle.law_explore_text.specs.model_machine.specs.Apdu.{apdu_read}
use Rattle.law_explore_text.specs.model_machine.specs.Chain.{Turn}
use Rattle.law_explore_text.specs.model_play.specs.DeckGrammar.{DeckLine}
use Rattle.law_explore_text.specs.model_play.specs.DeckGrammar as line
use Rattle.law_explore_text.specs.model_play.specs.Play as play
use Rattle.law_explore_text.specs.model_play.specs.Play.{Unarmed, ArmedCut, ArmedFail, Running, Unpowered, Muted, LineResult, Ready, Warm, State, BeforePower, AfterPower, FailedWrite, step, plays, last_state, steady_failures, steady_at, moves_of, armed_stop_in, card_line, line_after, play_at_power, start, power_after, power_says, static_of}
use Rattle.law_explore_text.specs.model_play.specs.Family.{is_running, live_in}
use Rattle.law_explore_text.specs.law_explore.specs.Safety.{CountsFromOne, IsSettled}
use Rattle.law_explore_text.specs.law_explore.specs.Rules as rule
use Rattle.law_explore_text.specs.law_explore.specs.Search.{first_state}
use Rattle.law_explore_text.specs.law_explore.specs.States.{first_play, first_warm, play_of_deck, warm_in}
use Rattle.law_explore_text.specs.law_explore.proofs.Starts.{first_law}
use Rattle.law_explore_text.specs.model_device.specs.declared.cause.Cause.{Cause}
use Rattle.law_explore_text.specs.model_device.specs.Layout.{fault}
use Rattle.lab_key.specs.declared.kept.Rosters.{Rosters}
use Rattle.lab_key.specs.declared.state.CardState.{CardState}
use Rattle.lab_key.specs.Kept.{IsKeptCard, IsOfDevice}
use Rattle.lab_key.specs.KeptStates.{IsKeptState}
use Rattle.lab_search.specs.declared.beginning.Lead.{Lead}
use Rattle.lab_search.proofs.AttemptLemmas.{runs_shown}
use Rattle.mc_script.specs.declared.answer.Answer.{Answer}
use Rattle.mc_script.specs.declared.answer.Answer.TheVariants as answer
use Rattle.mc_script.specs.declared.armed.Armed.{Armed}
use Rattle.mc_script.specs.declared.armed.Armed.TheVariants as armed
use Rattle.mc_script.specs.declared.live.Live.{Live}
use Rattle.mc_script.specs.declared.live.Live.TheVariants as live
use Rattle.mc_script.specs.declared.player.Player.{Player}
use Rattle.mc_script.specs.declared.player.Power.{Power}
use Rattle.mc_script.specs.declared.player.Power.TheVariants as power
use Rattle.mc_card.specs.declared.card.Card.{Card}
use Rattle.mc_card.specs.Parts.{card_in}
use Rattle.mc_script.specs.Players.{answer_value, armed_value, device_of, dump_value, CanArm, IsPlayerAt}
use Rattle.mc_script.specs.Stops.{has_stop}
use Rattle.mc_script.specs.Lives.{LiveShows}
use Rattle.mc_script.specs.Lines.{DeckPlayed, LineDone, bench_of}
use Rattle.mc_script.proofs.Composing.{player_played}
use Rattle.lab_key.specs.Shown.{IsShown}
use Rattle.lab_search.specs.Kept.{is_armed, names_in, needs_power, runs_now, LeadIs}
use Rattle.lab_search.specs.Playing.{state_after, FailsNot, PlayedAs}
use Rattle.lab_search.specs.Beginnings.{is_ready_answer, without_stop, IsFirst, IsPowered}
use Rattle.law_explore_text.specs.model_play.proofs.LineKinds.{past_power}

-- ---- stops

counts_one : (a : Armed) → CanArm a → CountsFromOne (armed_value a)
counts_one armed.Not h = tt
counts_one (armed.Cut k fill) h = h.0
counts_one (armed.Fail k) h = h

stop_value : (a : Armed) → has_stop a ≡ is_armed (armed_value a)
stop_value armed.Not = refl
stop_value (armed.Cut k fill) = refl
stop_value (armed.Fail k) = refl

unarmed_by : (a : play.Armed) → is_armed a ≡ false → a ≡ Unarmed
unarmed_by Unarmed h = refl
unarmed_by (ArmedCut k x) h = absurd (cc h)
unarmed_by (ArmedFail k) h = absurd (cc h)

no_stop : (s : State) → is_armed (armed_stop_in s) ≡ false → without_stop s ≡ s
no_stop (BeforePower m b a) h = ap (λ (x : play.Armed). BeforePower m b x) (sym (unarmed_by a h))
no_stop (AfterPower w) h = ap (λ (x : play.Armed). AfterPower (record w { armed = x })) (sym (unarmed_by w.armed h))

-- a command that is too short drops the stop, and nothing else
no_cut : (k : ℕ) (t : StopAt) → 1 ≤ k → cond (nat_le k 0) (Some t) None ≡ None
no_cut k t low = ap (λ (b : Bool). cond b (Some t) None) (lt-leb k 0 low)

abbrev idle_after : State → State
idle_after s = (step s (0, line.Sent (line.Apdu (0 ∷ []))) (steady_at (armed_stop_in s) (line.Sent (line.Apdu (0 ∷ []))) (moves_of s (0, line.Sent (line.Apdu (0 ∷ [])))))).after

idle_drops : (b : Base) (o : ℕ) (j : Journal) (v : play.Live) (g : ℕ) (a : play.Armed) → CountsFromOne a → idle_after (AfterPower (past_power b o j v g a)) ≡ AfterPower (past_power b o j v g Unarmed)
unfolding step moves_of command apdu_read
idle_drops (OnCard c) o j (Running session_state) g Unarmed h = refl
idle_drops (OnCard c) o j (Running session_state) g (ArmedCut k x) h =
    ap (λ (t : Option StopAt). AfterPower (line_after (past_power (OnCard c) o j (Running session_state) g (ArmedCut k x)) c (refusal session_state 0x6700) t)) (no_cut k (record { kind = stop.Off; at = k; left = x }) h)
idle_drops (OnCard c) o j (Running session_state) g (ArmedFail k) h =
    ap (λ (e : Bool). (card_line 0 (line.Sent (line.Apdu (0 ∷ []))) (past_power (OnCard c) o j (Running session_state) g (ArmedFail k)) (Running session_state) (OnCard c) (cond e (Some (record { at = k; left = zeros 8 })) None)).after) (lt-leb k 0 h)
idle_drops (AtFault cause place) o j (Running session_state) g a h = refl
idle_drops b o j Unpowered g a h = refl
idle_drops b o j Muted g a h = refl

idle_before : (m : List (List ℕ)) (b : ℕ) (a : play.Armed) (w : Option FailedWrite) → (step (BeforePower m b a) (0, line.Sent (line.Apdu (0 ∷ []))) w).after ≡ BeforePower m b Unarmed
unfolding step
idle_before m b a w = refl

idle_leaves : (s : State) → CountsFromOne (armed_stop_in s) → idle_after s ≡ without_stop s
idle_leaves (BeforePower m b a) h = idle_before m b a (steady_at a (line.Sent (line.Apdu (0 ∷ []))) (moves_of (BeforePower m b a) (0, line.Sent (line.Apdu (0 ∷ [])))))
idle_leaves (AfterPower w) h = idle_drops w.base w.owed w.by w.live w.budget w.armed h

-- ---- the power line

-- a power line leaves what power does, with the result of it
pub record PowersUp (s : State) : Type 0 where
  pub after : (step s (0, line.Power) None).after ≡ AfterPower (power_after (warm_in s) None)
  pub result : (step s (0, line.Power) None).result ≡ Some (power_says (warm_in s) None)

before_powers : (m : List (List ℕ)) (b : ℕ) → PowersUp (BeforePower m b Unarmed)
unfolding step play_at_power
before_powers m b = record { after = refl; result = refl }

after_powers : (b : Base) (o : ℕ) (j : Journal) (v : play.Live) (g : ℕ) → PowersUp (AfterPower (past_power b o j v g Unarmed))
unfolding step
after_powers b o j v g = record { after = refl; result = refl }

powers_up : (s : State) → armed_stop_in s ≡ Unarmed → PowersUp s
powers_up (BeforePower m b a) h = subst (λ (x : play.Armed). PowersUp (BeforePower m b x)) (sym h) (before_powers m b)
powers_up (AfterPower w) h = subst (λ (x : play.Armed). PowersUp (AfterPower (record w { armed = x }))) (sym h) (after_powers w.base w.owed w.by w.live w.budget)

-- whether a result says that a card was found
abbrev is_ready : Option LineResult → Bool
is_ready (Some (Ready n)) = true
is_ready _ = false

static_not_ready : (a : Option App) → is_ready (Some (static_of a)) ≡ false
static_not_ready None = refl
static_not_ready (Some a) = refl

other_words : (m n : List (List ℕ)) (v : Live) (l : play.Live) → runs_now v ≡ false → LiveShows m v l → LiveShows n v l
other_words m n (live.Running s) l e h = absurd (cc e)
other_words m n live.Unpowered l e h = h
other_words m n live.Muted l e h = h

still_not : (m : List (List ℕ)) (v : Live) (l : play.Live) → runs_now v ≡ false → LiveShows m v l → is_running l ≡ false
still_not m (live.Running s) l e h = absurd (cc e)
still_not m live.Unpowered l e h = ap is_running h
still_not m live.Muted l e h = ap is_running h

-- a play with no armed stop has no failed write armed
pub fails_not : (s : State) → armed_stop_in s ≡ Unarmed → FailsNot (armed_stop_in s)
fails_not s h = subst (λ (a : play.Armed). FailsNot a) (sym h) tt

module _ {N : Type 0} (state : N → DeviceState) (bench : N → BenchState) where
  -- ---- the deck

  -- the deck was played on a steady device
  pub record IsDeckDone (q : Player N) (s : State) (ls : List (ℕ × DeckLine)) : Type 0 where
    pub at : IsPlayerAt state bench q (state_after s ls)
    pub steady : (bench (device_of q)).steady ≡ true

  -- a player that played the deck is after it, on a steady device
  pub deck_done : (p q : Player N) (s : State) (ls : List (ℕ × DeckLine)) → IsPlayerAt state bench p s → (bench (device_of p)).steady ≡ true → DeckPlayed state bench p s ls q → IsDeckDone q s ls
  deck_done p q s ls at steady d =
      let pl = player_played state bench s ls d.worn (bench_of state bench p) d.here q d.leads d.at in
      let last : d.here ≡ state_after s ls = d.leads.last ∙ ap (λ (ws : List (Option FailedWrite)). last_state s (plays s ls ws)) (pl.steady steady) in
      record { at = subst (λ (z : State). IsPlayerAt state bench q z) last d.at; steady = pl.counts.counts.steady ∙ steady }

  -- ---- the stop

  -- whether a player has a stop is whether one is armed in its state
  pub stop_there : (p : Player N) (s : State) → IsPlayerAt state bench p s → has_stop p.armed ≡ is_armed (armed_stop_in s)
  stop_there p s at = stop_value p.armed ∙ ap is_armed at.armed

  -- a player without a stop is in the state without one
  pub no_stop_there : (p : Player N) (s : State) → IsPlayerAt state bench p s → has_stop p.armed ≡ false → IsPlayerAt state bench p (without_stop s)
  no_stop_there p s at none = subst (λ (z : State). IsPlayerAt state bench p z) (sym (no_stop s (sym (stop_there p s at) ∙ none))) at

  -- the stop was dropped by an idle command, on a steady device
  pub record IsIdled (q : Player N) (s : State) : Type 0 where
    pub at : IsPlayerAt state bench q (without_stop s)
    pub steady : (bench (device_of q)).steady ≡ true

  -- an idle command of a player drops its stop
  pub idled : {R : Type 0} (reported : R → List Turn → R → Type 0) (p q : Player N) (before after : R) (a : Option Answer) (s : State) → LineDone state bench reported p (line.Sent (line.Apdu (0 ∷ []))) before after a q
      → IsPlayerAt state bench p s → (bench (device_of p)).steady ≡ true → IsIdled q s
  idled reported p q before after a s done at steady =
      let d = done s 0 at in
      let first = subst (λ (w : Option FailedWrite). IsPlayerAt state bench q (step s (0, line.Sent (line.Apdu (0 ∷ []))) w).after) (d.1.stepped.played.steady steady) d.1.stepped.at in
      let one = subst (λ (x : play.Armed). CountsFromOne x) at.armed (counts_one p.armed at.can_arm) in
      record { at = subst (λ (z : State). IsPlayerAt state bench q z) (idle_leaves s one) first; steady = d.1.stepped.played.counts.counts.steady ∙ steady }

  -- ---- the power line

  dump_not_ready : (x : Power) (c : Card N) (aid : List ℕ) → is_ready (Some (dump_value state x c aid)) ≡ false
  dump_not_ready power.BeforePower c aid = refl
  dump_not_ready power.Off c aid = refl
  dump_not_ready power.Mute c aid = refl
  dump_not_ready power.On c aid = static_not_ready (lookup (card_in state c).apps aid)

  ready_by : (q : Player N) (a : Option Answer) → is_ready (option_map (answer_value state q) a) ≡ is_ready_answer a
  ready_by q None = refl
  ready_by q (Some answer.Formatted) = refl
  ready_by q (Some (answer.Ready n)) = refl
  ready_by q (Some (answer.Unusable u)) = refl
  ready_by q (Some (answer.OffAt k)) = refl
  ready_by q (Some answer.Worn) = refl
  ready_by q (Some answer.NoCard) = refl
  ready_by q (Some answer.Mute) = refl
  ready_by q (Some answer.Outcome) = refl
  ready_by q (Some (answer.Dump aid)) = dump_not_ready q.power q.card aid

  -- a card that runs at the end of a deck
  runs_by : (p : Player N) (v : Live) (b : Base) (o : ℕ) (j : Journal) (l : play.Live) (g : ℕ) → IsPlayerAt state bench p (AfterPower (past_power b o j l g Unarmed)) → LiveShows (state (device_of p)).words v l → runs_now v ≡ true
      → IsSettled (first_warm (past_power b o j l g Unarmed)).live (first_warm (past_power b o j l g Unarmed)).base (first_warm (past_power b o j l g Unarmed)).owed → IsPowered (past_power b o j l g Unarmed) (state (device_of p)).words false v p.budget
  runs_by p live.Unpowered b o j l g at shows runs settled = absurd (cc runs)
  runs_by p live.Muted b o j l g at shows runs settled = absurd (cc runs)
  runs_by p (live.Running x) b o j Unpowered g at shows runs settled = absurd (cc (shows.runs))
  runs_by p (live.Running x) b o j Muted g at shows runs settled = absurd (cc (shows.runs))
  runs_by p (live.Running x) (AtFault cause place) o j (Running session_state) g at shows runs settled = absurd settled
  runs_by p (live.Running x) (OnCard c) o j (Running session_state) g at shows runs settled =
      record {
        power = refl;
        shows = record {
          holds = record { base = at.stands.1.base; owed = at.stands.1.owed ∙ settled.0; by = λ some. absurd (some refl) };
          live = shows;
          base = settled.1;
        };
        budget = at.budget;
      }

  runs_at : (p : Player N) (v : Live) (s : State) (a : play.Armed) → armed_stop_in s ≡ a → a ≡ Unarmed → IsPlayerAt state bench p s → LiveShows (state (device_of p)).words v (live_in s) → runs_now v ≡ true
      → IsSettled (first_warm (warm_in s)).live (first_warm (warm_in s)).base (first_warm (warm_in s)).owed → IsPowered (warm_in s) (state (device_of p)).words false v p.budget
  runs_at p (live.Running x) (BeforePower m b r) a e u at shows runs settled = absurd (cc (shows.runs))
  runs_at p live.Unpowered (BeforePower m b r) a e u at shows runs settled = absurd (cc runs)
  runs_at p live.Muted (BeforePower m b r) a e u at shows runs settled = absurd (cc runs)
  runs_at p v (AfterPower w) a e u at shows runs settled =
      let same : w ≡ past_power w.base w.owed w.by w.live w.budget Unarmed = ap (λ (z : play.Armed). past_power w.base w.owed w.by w.live w.budget z) (e ∙ u) in
      subst (λ (z : Warm). IsPowered z (state (device_of p)).words false v p.budget) (sym same)
      (runs_by p v w.base w.owed w.by w.live w.budget (subst (λ (z : Warm). IsPlayerAt state bench p (AfterPower z)) same at) shows runs
      (subst (λ (z : Warm). IsSettled (first_warm z).live (first_warm z).base (first_warm z).owed) same settled))

  -- a running card needs no power line
  pub powered_running : (p : Player N) (v : Live) (s : State) → IsPlayerAt state bench p s → LiveShows (state (device_of p)).words v (live_in s) → runs_now v ≡ true → armed_stop_in s ≡ Unarmed
      → IsSettled (first_warm (warm_in s)).live (first_warm (warm_in s)).base (first_warm (warm_in s)).owed → IsPowered (warm_in s) (state (device_of p)).words false v p.budget
  powered_running p v s at shows runs u settled = runs_at p v s (armed_stop_in s) refl u at shows runs settled

  -- a power line finds a card
  ready_from : (q : Player N) (v : Live) (u : Warm) (b : Base) (l : play.Live) (a : Option Answer) → u.base ≡ b → u.live ≡ l → is_running l ≡ false → IsPlayerAt state bench q (AfterPower (power_after (past_power b u.owed u.by l u.budget u.armed) None))
      → option_map (answer_value state q) a ≡ Some (power_says (past_power b u.owed u.by l u.budget u.armed) None) → is_ready_answer a ≡ true
      → LiveShows (state (device_of q)).words v (live_in (AfterPower (power_after (past_power b u.owed u.by l u.budget u.armed) None)))
      → IsPowered (past_power b u.owed u.by l u.budget u.armed) (state (device_of q)).words true v q.budget
  ready_from q v u b (Running x) a eb el off at says ready shows = absurd (cc off)
  ready_from q v u (AtFault cause place) Unpowered a eb el off at says ready shows = absurd (cc (sym (ap is_ready says) ∙ ready_by q a ∙ ready))
  ready_from q v u (AtFault cause place) Muted a eb el off at says ready shows = absurd (cc (sym (ap is_ready says) ∙ ready_by q a ∙ ready))
  ready_from q v u (OnCard c) Unpowered a eb el off at says ready shows =
      record { power = refl; shows = record { holds = record { base = at.stands.1.base; owed = at.stands.1.owed; by = λ some. absurd (some refl) }; live = shows; base = refl }; budget = at.budget }
  ready_from q v u (OnCard c) Muted a eb el off at says ready shows =
      record { power = refl; shows = record { holds = record { base = at.stands.1.base; owed = at.stands.1.owed; by = λ some. absurd (some refl) }; live = shows; base = refl }; budget = at.budget }

  -- it finds none
  fault_from : (q : Player N) (v : Live) (u : Warm) (b : Base) (l : play.Live) (a : Option Answer) → u.base ≡ b → u.live ≡ l → is_running l ≡ false → IsPlayerAt state bench q (AfterPower (power_after (past_power b u.owed u.by l u.budget u.armed) None))
      → option_map (answer_value state q) a ≡ Some (power_says (past_power b u.owed u.by l u.budget u.armed) None) → is_ready_answer a ≡ false → LiveShows (state (device_of q)).words v l
      → IsPowered (past_power b u.owed u.by l u.budget u.armed) (state (device_of q)).words false v q.budget
  fault_from q v u b (Running x) a eb el off at says ready shows = absurd (cc off)
  fault_from q v u (OnCard c) Unpowered a eb el off at says ready shows = absurd (cc (sym (ap is_ready says) ∙ ready_by q a ∙ ready))
  fault_from q v u (OnCard c) Muted a eb el off at says ready shows = absurd (cc (sym (ap is_ready says) ∙ ready_by q a ∙ ready))
  fault_from q v u (AtFault cause place) Unpowered a eb el off at says ready shows =
      record { power = refl; shows = record { holds = record { base = at.stands.1.base; owed = at.stands.1.owed; by = λ some. absurd (some refl) }; live = shows; base = tt }; budget = at.budget }
  fault_from q v u (AtFault cause place) Muted a eb el off at says ready shows =
      record { power = refl; shows = record { holds = record { base = at.stands.1.base; owed = at.stands.1.owed; by = λ some. absurd (some refl) }; live = shows; base = tt }; budget = at.budget }

  warm_live : (s : State) → (warm_in s).live ≡ live_in s
  unfolding play_at_power
  warm_live (BeforePower m b a) = refl
  warm_live (AfterPower w) = refl

  -- a power line that answers ready leaves a running card
  pub powered_ready : (p q : Player N) (x v : Live) (s : State) (a : Option Answer) → LiveShows (state (device_of p)).words x (live_in s) → runs_now x ≡ false → armed_stop_in s ≡ Unarmed
      → PlayedAs state bench p s (0, line.Power) a q → is_ready_answer a ≡ true → ((t : State) → IsPlayerAt state bench q t → LiveShows (state (device_of q)).words v (live_in t))
      → IsPowered (warm_in s) (state (device_of q)).words true v q.budget
  powered_ready p q x v s a before none u played ready shows =
      let up = powers_up s u in
      let at = subst (λ (z : State). IsPlayerAt state bench q z) up.after played.at in
      ready_from q v (warm_in s) (warm_in s).base (warm_in s).live a refl refl (ap is_running (warm_live s) ∙ still_not (state (device_of p)).words x (live_in s) none before) at (played.answers ∙ up.result) ready
      (shows (AfterPower (power_after (warm_in s) None)) at)

  -- a power line that answers otherwise leaves a fault
  pub powered_fault : (p q : Player N) (x : Live) (s : State) (a : Option Answer) → LiveShows (state (device_of p)).words x (live_in s) → runs_now x ≡ false → armed_stop_in s ≡ Unarmed
      → PlayedAs state bench p s (0, line.Power) a q → is_ready_answer a ≡ false → IsPowered (warm_in s) (state (device_of q)).words false x q.budget
  powered_fault p q x s a before none u played ready =
      let up = powers_up s u in
      let at = subst (λ (z : State). IsPlayerAt state bench q z) up.after played.at in
      fault_from q x (warm_in s) (warm_in s).base (warm_in s).live a refl refl (ap is_running (warm_live s) ∙ still_not (state (device_of p)).words x (live_in s) none before) at (played.answers ∙ up.result) ready
      (subst (λ (l : play.Live). LiveShows (state (device_of q)).words x l) (sym (warm_live s)) (other_words (state (device_of p)).words (state (device_of q)).words x (live_in s) none before))

-- ---- from the end of a deck

stopped_warm : (s : State) → first_warm (warm_in (without_stop s)) ≡ first_warm (warm_in s)
unfolding play_at_power
stopped_warm (BeforePower m b a) = refl
stopped_warm (AfterPower w) = refl

stopped_power : (s : State) → needs_power (warm_in (without_stop s)).live (warm_in (without_stop s)).base ≡ needs_power (warm_in s).live (warm_in s).base
unfolding play_at_power
stopped_power (BeforePower m b a) = refl
stopped_power (AfterPower w) = refl

-- without its stop a state has none armed
pub stopped_unarmed : (s : State) → armed_stop_in (without_stop s) ≡ Unarmed
stopped_unarmed (BeforePower m b a) = refl
stopped_unarmed (AfterPower w) = refl

first_play_is : (ls : List (ℕ × DeckLine)) → first_play ls ≡ first_warm (warm_in (play_of_deck ls))
unfolding first_play
first_play_is ls = refl

-- the play of a deck on a blank device
pub deck_is : (ls : List (ℕ × DeckLine)) → play_of_deck ls ≡ state_after (start (blank_words device_words)) ls
unfolding play_of_deck
deck_is ls = refl

-- what the first power line finds after a deck without its stop is settled
pub first_settled : (ls : List (ℕ × DeckLine))
    → IsSettled (first_warm (warm_in (without_stop (play_of_deck ls)))).live (first_warm (warm_in (without_stop (play_of_deck ls)))).base (first_warm (warm_in (without_stop (play_of_deck ls)))).owed
first_settled ls = subst (λ (z : Warm). IsSettled z.live z.base z.owed) (first_play_is ls ∙ sym (stopped_warm (play_of_deck ls))) (first_law ls).settled

-- what is left after the deck, its stop and its power line is the first state
pub is_first : (ls : List (ℕ × DeckLine)) (words : List (List ℕ)) (a b : Bool) (v : Live) (budget : ℕ) → a ≡ is_armed (armed_stop_in (play_of_deck ls))
    → IsPowered (warm_in (without_stop (play_of_deck ls))) words b v budget → IsFirst ls words budget (record { armed = a; power = b }) v
is_first ls words a b v budget armed h =
    let same = stopped_warm (play_of_deck ls) ∙ sym (first_play_is ls) in
    record {
      armed = armed;
      power = h.power ∙ stopped_power (play_of_deck ls);
      shows = subst (λ (z : Warm). IsShown words v z.base z.live) same h.shows;
      budget = h.budget ∙ ap (λ (z : Warm). z.budget) same;
    }

-- ---- the first state

card_is : (c d : ModelCard) → OnCard c ≡ OnCard d → c ≡ d
card_is c d h = cc

replayed_length : (m : List (List ℕ)) (k : Look) → length (words_after (image_after_replay m k) m) ≡ length m
replayed_length m (Refused p) = refl
replayed_length m Closed = refl
replayed_length m (Pending j ps) = length_laid m (ps ++ (gate j, shut_word) ∷ [])

sized : (m : List (List ℕ)) (o : Option (Cause × ℕ)) (c : ModelCard) → base_of o m ≡ OnCard c → c.size ≡ length m
sized m None c h = ap (λ (d : ModelCard). d.size) (sym (card_is (means m) c h)) ∙ replayed_length m (look m)
sized m (Some f) c h = absurd (cc h)

-- what words show is of a device with these words
pub shown_of_device : (m : List (List ℕ)) (v : Live) (b : Base) (l : play.Live) → IsShown m v b l → IsOfDevice m b
shown_of_device m v (OnCard c) l h = sized m (fault m) c h.holds.base
shown_of_device m v (AtFault cause place) l h = sym h.holds.base

-- the first state is kept as that of the exploration
pub first_kept : (root words : List (List ℕ)) (r : Rosters) (ls : List (ℕ × DeckLine)) (x : rule.Exploration) (s : CardState) (budget : ℕ) (lead : Lead) (v : Live) → ls ≡ x.lines → IsFirst ls words budget lead v
    → IsKeptCard root r s.card (first_play ls).base (first_play ls).live → s.runs ≡ runs_now v → s.allowances.items ≡ map (λ a. a.1) x.rules.allowances → IsKeptState root budget (names_in x.rules) r s (first_state x)
unfolding first_state
first_kept root words r ls x s budget lead v e h card runs amounts =
    record {
      card = subst (λ (k : List (ℕ × DeckLine)). IsKeptCard root r s.card (first_play k).base (first_play k).live) e card;
      runs = runs ∙ runs_shown words v (first_play ls).live h.shows.live ∙ ap (λ (k : List (ℕ × DeckLine)). is_running (first_play k).live) e;
      budget_is = sym (ap (λ (k : List (ℕ × DeckLine)). (first_play k).budget) e) ∙ sym h.budget;
      amounts = amounts;
      names_are = refl;
    }

-- its lead is that of the exploration
pub first_lead : (ls : List (ℕ × DeckLine)) (x : rule.Exploration) (words : List (List ℕ)) (budget : ℕ) (lead : Lead) (v : Live) → ls ≡ x.lines → IsFirst ls words budget lead v → LeadIs lead x
first_lead ls x words budget lead v e h =
    record {
      armed = h.armed ∙ ap (λ (k : List (ℕ × DeckLine)). is_armed (armed_stop_in (play_of_deck k))) e;
      power = h.power ∙ ap (λ (k : List (ℕ × DeckLine)). needs_power (warm_in (play_of_deck k)).live (warm_in (play_of_deck k)).base) e;
    }
