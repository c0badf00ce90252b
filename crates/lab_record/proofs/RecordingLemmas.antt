-- A line that was played before a recorder, and what was recorded of it.
use Rattle.std.proofs.Common.{◌≡◌, ℕ, Bool, false, true, cond, List, [], ◌++◌, length, map, take, Option, Some, None, option_map, sym, ap, subst, ◌∙◌}
use Rattle.std.specs.Prelude.{is_some}
use Rattle.std.specs.Borrow.{Bor}
use Rattle.mc_words.specs.model_device.specs.Device.{DeviceState, BenchState}
use Rattle.mc_words.specs.model_device.specs.PowerUp.{Base, OnCard}
use Rattle.mc_apdu.specs.model_machine.specs.Chain.{Outcome}
use Rattle.mc_bank.specs.model_card.specs.Items.{StopAt, moves}
use Rattle.law_events.specs.law_promise.specs.model_play.specs.DeckGrammar.{DeckLine}
use Rattle.law_events.specs.law_promise.specs.model_play.specs.Play.{AfterPower, BeforePower, FailedWrite, LineResult, Live, State, Step, armed_stop_in, moves_of, steady_at, step}
use Rattle.law_events.specs.law_promise.specs.model_play.specs.Given.{is_power}
use Rattle.law_events.specs.law_promise.specs.model_play.specs.TraceText.{before_stop, shown_turns}
use Rattle.law_events.specs.law_promise.specs.model_play.proofs.PlayLemmas.{step_is}
use Rattle.law_events.specs.law_promise.specs.History.{after_step, is_selected_in, with_event}
use Rattle.law_events.specs.Events.{answer_event, command_event, count_of_turns, count_with, end_event, has_session, is_done, is_durable_at, line_events, line_history, outcome_in, own_command, passed_command, with_events}
use Rattle.law_events.specs.Laws.{Hits, IsSound, RunsCard}
use Rattle.law_events.proofs.LineLemmas.{line_law}
use Rattle.mc_card.specs.Parts.{card_in}
use Rattle.mc_script.specs.declared.answer.Answer.{Answer}
use Rattle.mc_script.specs.declared.player.Player.{Player}
use Rattle.mc_script.specs.declared.player.Power.{Power}
use Rattle.mc_script.specs.declared.player.Power.TheVariants as power
use Rattle.mc_script.specs.Lines.{LineDone}
use Rattle.mc_script.specs.Players.{device_of, IsPlayerAt, LiveIs}
use Rattle.mc_script.specs.Runs.{sent_by}
use Rattle.mc_script.specs.Watching.{Watches}
use Rattle.lab_app_rules.specs.model_rules.specs.Happenings.{Event, ended_session, rule_watch}
use Rattle.lab_app_rules.specs.declared.rules.Rules.{Rules}
use Rattle.lab_history.specs.declared.course.Course.{Course}
use Rattle.lab_record.specs.declared.recorder.Recorder.{Recorder}
use Rattle.lab_record.specs.Courses.{answer_lines, command_lines, ended_by, is_outcome, is_stop, session_from, stop_in}
use Rattle.lab_record.specs.Logs.{Applies, DeedValue, Log, LogRules, Sight, log_events, log_turns, no_log, no_marks, sight, values_of}
use Rattle.lab_record.specs.Steady.{steady_step, IsSteadyAt}
use Rattle.lab_record.specs.declared.recording.Played.{Played}
use Rattle.lab_record.specs.Playing.{IsCourse, IsPlayed, course_notes, hit_notes, log_of_step, notes_of, sights_of_step, stopped_notes}
use Rattle.lab_record.specs.Recorders.{log_of, log_rules, marks_of, Recorded}
use Rattle.lab_record.proofs.EndingLemmas.{ended_is, stop_is}
use Rattle.lab_record.proofs.EventLemmas.{counted_notes, line_notes, step_logged}
use Rattle.lab_record.proofs.SightLemmas.{sights_shown}

-- a value of what is borrowed
pub some_by : (o : Option (Bor (List ℕ))) (p : Option (List ℕ)) → option_map (λ b. b.now) o ≡ p → is_some o ≡ is_some p
some_by None p e = ap is_some e
some_by (Some b) p e = ap is_some e

-- a course by equal values
course_by : (r : Rules) (l m : DeckLine) (was was2 is : Bool) (x y : Option Outcome) (ds es : List (ℕ × DeedValue)) (c : Course) → l ≡ m → was ≡ was2 → x ≡ y → ds ≡ es → IsCourse r l was is x ds c → IsCourse r m was2 is y es c
course_by r l m was was2 is x y ds es c e f g k h =
    subst (λ (v : List (ℕ × DeedValue)). IsCourse r m was2 is y v c) k
    (subst (λ (v : Option Outcome). IsCourse r m was2 is v ds c) g (subst (λ (v : Bool). IsCourse r m v is x ds c) f (subst (λ (v : DeckLine). IsCourse r v was is x ds c) e h)))

-- what a recorder holds after a line that it began anew
log_after : (r : Rules) (name : List ℕ) (before after : Recorder) (xs : List Sight) → before.rules.now ≡ r → before.aid.now ≡ name → marks_of before ≡ no_marks → after.is_short ≡ false → Recorded before xs after
    → log_of after ≡ (log_turns (log_rules r) name xs no_marks).log
log_after r name before after xs e f g short h =
    ap (λ m. m.log) (
    h.marks short
    ∙ ap (λ (u : Rules). log_turns (log_rules u) before.aid.now xs (marks_of before)) e
    ∙ ap (λ (n : List ℕ). log_turns (log_rules r) n xs (marks_of before)) f
    ∙ ap (log_turns (log_rules r) name xs) g
    )

-- a course of a whole line notes its events
course_events : (r : Rules) (name : List ℕ) (t : Step) (c : Course) → IsCourse r t.line (is_selected_in name t.before) (is_selected_in name t.after) (outcome_in t.result) (log_of_step r name t).deeds c
    → after_step (rule_watch name) t [] ≡ line_history name t (count_of_turns t.turns t.stop) → t.stop ≡ None → course_notes (log_rules r) c ≡ notes_of (log_rules r) (after_step (rule_watch name) t [])
course_events r name t c is history whole =
    let R : LogRules = log_rules r in
    let was = is_selected_in name t.before in
    let cmd = own_command was t.line in
    let has = has_session t.line (is_done (outcome_in t.result)) was (is_selected_in name t.after) in
    let vs = take (count_of_turns t.turns t.stop) (line_events name t.before t.line) in
    let shown : length (shown_turns t.turns t.stop) ≡ count_of_turns t.turns t.stop =
    ap (λ (o : Option StopAt). length (shown_turns t.turns o)) whole ∙ sym (ap (λ (o : Option StopAt). count_of_turns t.turns o) whole) in
    let log : log_of_step r name t ≡ log_events R vs no_log = ap (λ (k : ℕ). log_events R (take k (line_events name t.before t.line)) no_log) shown in
    let end : end_event has was t.stop ≡ ended_session has = ap (λ (o : Option StopAt). end_event has was o) whole in
    ap (λ (l : List ℕ). map Applies l ++ map (λ n. n.1) (values_of c.deeds.items) ++ map Applies c.answer.items ++ cond c.has_session (map Applies (session_from 0 R.ons)) []) is.command
    ∙ ap (λ (l : List (ℕ × DeedValue)). map Applies (command_lines R.ons cmd) ++ map (λ n. n.1) l ++ map Applies c.answer.items ++ cond c.has_session (map Applies (session_from 0 R.ons)) []) (is.deeds ∙ ap (λ (g : Log). g.deeds) log)
    ∙ ap (λ (l : List ℕ). map Applies (command_lines R.ons cmd) ++ map (λ n. n.1) (log_events R vs no_log).deeds ++ map Applies l ++ cond c.has_session (map Applies (session_from 0 R.ons)) []) is.answer
    ∙ ap (λ (b : Bool). map Applies (command_lines R.ons cmd) ++ map (λ n. n.1) (log_events R vs no_log).deeds ++ map Applies (answer_lines R.ons cmd (outcome_in t.result)) ++ cond b (map Applies (session_from 0 R.ons)) []) is.has_session
    ∙ sym (line_notes R cmd (outcome_in t.result) has vs)
    ∙ sym (ap (λ (v : Option Event). notes_of R (with_event v (with_event (answer_event cmd (outcome_in t.result)) (with_events vs (with_event (command_event cmd) []))))) end)
    ∙ sym (ap (λ (h : List Event). notes_of R h) history)

-- a course of a line that a stop hit notes its events, with that of the instruction that it hit
stopped_events : (r : Rules) (name : List ℕ) (t : Step) (c : Course) (s : StopAt) → IsCourse r t.line (is_selected_in name t.before) (is_selected_in name t.after) (outcome_in t.result) (log_of_step r name t).deeds c
    → after_step (rule_watch name) t [] ≡ line_history name t (count_of_turns t.turns t.stop) → t.stop ≡ Some s → stopped_notes (log_rules r) c (hit_notes (log_rules r) name t s) ≡ notes_of (log_rules r) (after_step (rule_watch name) t [])
stopped_events r name t c s is history hit =
    let R : LogRules = log_rules r in
    let was = is_selected_in name t.before in
    let cmd = own_command was t.line in
    let has = has_session t.line (is_done (outcome_in t.result)) was (is_selected_in name t.after) in
    let es = line_events name t.before t.line in
    let b = is_durable_at t.turns s.at s.left in
    let n = length (before_stop t.turns s.at) in
    let vs = take (count_with b n) es in
    let hits = hit_notes R name t s in
    let log : log_of_step r name t ≡ log_events R (take n es) no_log = ap (λ (o : Option StopAt). log_events R (take (length (shown_turns t.turns o)) es) no_log) hit in
    ap (λ (l : List ℕ). map Applies l ++ (map (λ n. n.1) (values_of c.deeds.items) ++ hits) ++ map Applies c.answer.items ++ cond c.was_selected (map Applies (session_from 0 R.ons)) []) is.command
    ∙ ap (λ (l : List (ℕ × DeedValue)). map Applies (command_lines R.ons cmd) ++ (map (λ n. n.1) l ++ hits) ++ map Applies c.answer.items ++ cond c.was_selected (map Applies (session_from 0 R.ons)) []) (is.deeds ∙ ap (λ (g : Log). g.deeds) log)
    ∙ ap (λ (l : List DeedValue). map Applies (command_lines R.ons cmd) ++ l ++ map Applies c.answer.items ++ cond c.was_selected (map Applies (session_from 0 R.ons)) []) (counted_notes R b n es)
    ∙ ap (λ (l : List ℕ). map Applies (command_lines R.ons cmd) ++ map (λ n. n.1) (log_events R vs no_log).deeds ++ map Applies l ++ cond c.was_selected (map Applies (session_from 0 R.ons)) []) is.answer
    ∙ ap (λ (x : Bool). map Applies (command_lines R.ons cmd) ++ map (λ n. n.1) (log_events R vs no_log).deeds ++ map Applies (answer_lines R.ons cmd (outcome_in t.result)) ++ cond x (map Applies (session_from 0 R.ons)) []) is.was_selected
    ∙ sym (line_notes R cmd (outcome_in t.result) was vs)
    ∙ sym (ap (λ (o : Option StopAt). notes_of R (with_event (end_event has was o) (with_event (answer_event cmd (outcome_in t.result)) (with_events (take (count_of_turns t.turns o) es) (with_event (command_event cmd) []))))) hit)
    ∙ sym (ap (λ (h : List Event). notes_of R h) history)

module _ {N : Type 0} (state : N → DeviceState) (bench : N → BenchState) where
  -- at a state of a player what runs, runs on a card
  sound_by : (p : Player N) (x : Power) (b : Base) (v : Live) → LiveIs state x p.card b v → RunsCard v b
  sound_by p power.BeforePower b v h = absurd h
  sound_by p power.Off b v h = subst (λ (u : Live). RunsCard u b) (sym h) tt
  sound_by p power.Mute b v h = subst (λ (u : Live). RunsCard u b) (sym h) tt
  sound_by p power.On b v h = subst (λ (c : Base). RunsCard v c) (sym h.base) (subst (λ (u : Live). RunsCard u (OnCard (card_in state p.card))) (sym h.live) tt)

  sound : (p : Player N) (s : State) → IsPlayerAt state bench p s → IsSound s
  sound p (BeforePower m b a) at = tt
  sound p (AfterPower w) at = sound_by p p.power w.base w.live at.stands.0

  pub played_line : (r : Rules) (name : List ℕ) (p q : Player N) (l : DeckLine) (a : Option Answer) (before after : Recorder) (was ended stopped begun : Bool) (c : Course)
      → LineDone state bench (Watches sight Recorded (sent_by state p l)) p l before after a q → before.rules.now ≡ r → before.aid.now ≡ name → marks_of before ≡ no_marks → after.is_short ≡ false
      → ((z : State) → IsPlayerAt state bench p z → was ≡ is_selected_in name z) → ended ≡ is_outcome a → stopped ≡ stop_in a → begun ≡ is_some (passed_command l)
      → ((z : State) → IsPlayerAt state bench q z → IsCourse r l was (is_selected_in name z) (ended_by ended q) (values_of after.deeds.items) c)
      → (s : State) (n : ℕ) → IsPlayerAt state bench p s
      → (w : Option FailedWrite) × IsPlayerAt state bench q (step s (n, l) w).after × IsPlayed r name (step s (n, l) w) (record { course = c; is_stopped = stopped; turns = after.turns; has_begun = begun })
      × ((bench (device_of p)).steady ≡ true → w ≡ steady_at (armed_stop_in s) l (moves_of s (n, l)))
  played_line r name p q l a before after was ended stopped begun c done e f g short selected is_ended is_stopped begins courses s n at =
      let d = done s n at in
      let w = d.0 in
      let t = step s (n, l) w in
      let is = step_is s (n, l) w in
      let recorded : Recorded before (sights_of_step t) after = subst (λ (xs : List Sight). Recorded before xs after) (sights_shown state bench p s (n, l) w at) d.1.reports in
      let log : log_of after ≡ log_of_step r name t = log_after r name before after (sights_of_step t) e f g short recorded ∙ step_logged r name t in
      let outcome : ended_by ended q ≡ outcome_in t.result = ap (λ (b : Bool). ended_by b q) is_ended ∙ ended_is state q a ∙ ap (λ (x : Option LineResult). outcome_in x) d.1.stepped.answers in
      let course : IsCourse r t.line (is_selected_in name t.before) (is_selected_in name t.after) (outcome_in t.result) (log_of_step r name t).deeds c =
      course_by r l t.line was (is_selected_in name t.before) (is_selected_in name t.after) (ended_by ended q) (outcome_in t.result) (values_of after.deeds.items) (log_of_step r name t).deeds c (sym is.line) (selected s at ∙ sym (ap (is_selected_in name) is.before)) outcome (ap (λ (x : Log). x.deeds) log)
      (courses t.after d.1.stepped.at) in (
        w,
        d.1.stepped.at,
        record {
          course = course;
          turns = ap (λ (x : Log). x.turns) log;
          is_stopped = is_stopped ∙ stop_is state q a ∙ ap (λ (x : Option LineResult). is_stop x) d.1.stepped.answers;
          has_begun = begins ∙ sym (ap (λ (m : DeckLine). is_some (passed_command m)) is.line);
          whole = λ h. course_events r name t c course (line_law name s (n, l) w (sound p s at) (λ power. subst (λ (o : Option StopAt). Hits (moves t.items) o) (sym h) tt)) h;
          stopped = λ z h hits.
              stopped_events r name t c z course
              (line_law name s (n, l) w (sound p s at) (λ power. subst (λ (o : Option StopAt). Hits (moves t.items) o) (sym h) (hits (ap is_power is.line ∙ power)))) h;
        },
        d.1.stepped.played.steady,
      )

  -- on a device that refuses just the writes of `fail` lines the step is determined
  pub recorded_line : (r : Rules) (name : List ℕ) (p : Player N) (s : State) (l : ℕ × DeckLine) (x : Played) (w : Option FailedWrite) → IsSteadyAt state bench p s → IsPlayed r name (step s l w) x
      → ((bench (device_of p)).steady ≡ true → w ≡ steady_at (armed_stop_in s) l.1 (moves_of s l)) → IsPlayed r name (steady_step s l) x
  recorded_line r name p s l x w at played is = subst (λ (v : Option FailedWrite). IsPlayed r name (step s l v) x) (is at.steady) played
