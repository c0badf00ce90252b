-- A line of commands to a card that runs: its writes were all made, or one of them stopped.
use Rattle.std.proofs.Common.{◌≡◌, ℕ, ◌+◌, ◌<◌, ◌≤◌, true, List, length, Option, Some, None, Ok, Err, refl, sym, ◌∙◌, ap, subst, arith}
use Rattle.model_play.specs.model_device.specs.declared.device.Stop.{Stop}
use Rattle.model_play.specs.model_device.specs.declared.device.Stop.TheVariants.{Worn}
use Rattle.model_play.specs.model_device.specs.Orders.{Answer as Ended}
use Rattle.model_play.specs.model_device.specs.Device.{DeviceState, BenchState, Wrote, BenchWrote}
use Rattle.model_play.specs.model_device.specs.Image.{count_of_recovery_writes}
use Rattle.model_play.specs.model_device.specs.Stopped.{image_after_stop}
use Rattle.model_play.specs.model_device.specs.Card.{means}
use Rattle.model_play.specs.model_device.specs.Card as model
use Rattle.model_play.specs.model_device.specs.Layout.{fault}
use Rattle.model_play.specs.model_card.specs.Manager.{SessionState}
use Rattle.model_play.specs.model_card.specs.Items.{Item, StopAt, moves, card_done, at_stop}
use Rattle.model_play.specs.model_machine.specs.Chain.{Turn}
use Rattle.model_play.specs.model_card.specs.Commands as command
use Rattle.model_play.specs.Play as play
use Rattle.model_play.specs.Play.{Live, Running, Warm, State, BeforePower, AfterPower, Answered, FailedWrite, Step, step, line_command, card_line, command_step, line_after, stopped_line, result_of_stop, hit_of, failure_entry, moves_of, StandsForState, state_after_stop}
use Rattle.model_play.specs.model_device.specs.PowerUp.{Base, OnCard}
use Rattle.mc_machine.specs.declared.outcome.Outcome.{Outcome}
use Rattle.mc_card.specs.declared.card.Card.{Card}
use Rattle.mc_card.specs.ItemWrites.{StopsAtEach, IsCardAfter}
use Rattle.mc_card.specs.Parts.{device_in, card_in, session_state_in, with_device, IsReadyCard}
use Rattle.mc_store.specs.Power.{base_of_words, HoldsBase}
use Rattle.mc_script.specs.declared.answer.Answer.{Answer}
use Rattle.mc_script.specs.declared.answer.Answer.TheVariants as answer
use Rattle.mc_script.specs.declared.armed.Armed.{Armed}
use Rattle.mc_script.specs.declared.armed.Armed.TheVariants as armed
use Rattle.mc_script.specs.declared.commands.CardLine.{CardLine}
use Rattle.mc_script.specs.declared.player.Power.{Power}
use Rattle.mc_script.specs.declared.player.Power.TheVariants as power
use Rattle.mc_script.specs.declared.player.Player.{Player}
use Rattle.mc_script.specs.Players.{answer_value, device_of, IsCardOfPlay, LiveIs, IsPlayerAt}
use Rattle.mc_script.specs.Arming.{armed_bench, power_after_stop, answer_after_stop}
use Rattle.mc_script.specs.Commands.{deck_line_of}
use Rattle.mc_script.specs.Lines.{LineDone}
use Rattle.mc_script.specs.Runs.{RanAndReported, sent_to}
use Rattle.mc_script.proofs.AccountLemmas.{base_card, stands_after_power, StopsStand}
use Rattle.mc_script.proofs.HitLemmas.{HitBy}
use Rattle.mc_script.proofs.CardLemmas.{ready_on, ready_owes, session_state_over, ready_over}
use Rattle.mc_script.proofs.CommandStepLemmas.{after_power_is, moves_after_power, is_card, no_powers, no_pokes, no_cuts, no_fails}
use Rattle.mc_script.proofs.LinedLemmas.{lined}
use Rattle.mc_script.proofs.QuietLemmas.{same_power}
use Rattle.mc_script.proofs.TriedLemmas.{Handed, Worth, Went, went, went_stepped, Hit, hit, hit_stepped}
use Rattle.mc_script.proofs.PowerLineLemmas.{live_stopped, answer_stopped}

worth : (c : CardLine) (s : State) → Worth s (deck_line_of c) 0
worth c s = record { card = is_card c; powers = no_powers c; pokes = no_pokes c s; cuts = no_cuts c; fails = no_fails c }

-- a command is sent to the card over the armed device as to the card itself
pub sent_over : {N : Type 0} (state : N → DeviceState) (c u : Card N) (bytes : List ℕ) (budget : ℕ) → u ≡ with_device c (device_in u) → state (device_in u) ≡ state (device_in c) → sent_to state u bytes budget ≡ sent_to state c bytes budget
sent_over state c u bytes budget rest same = grind (arith, session_state_over)

module _ {N R : Type 0} (state : N → DeviceState) (bench : N → BenchState) (wrote : N → ℕ → List ℕ → Ended → N → Type 0)
    (obeys : (d : N) (at : ℕ) (w : List ℕ) (a : Ended) (e : N) → (state d).on ≡ true → wrote d at w a e → Wrote (state d) at w a (state e))
    (burns : (d : N) (at : ℕ) (w : List ℕ) (a : Ended) (e : N) → (state d).on ≡ true → wrote d at w a e → BenchWrote (state d) (bench d) at a (state e) (bench e))
    (fits : (d : N) (at : ℕ) (w : List ℕ) (a : Ended) (e : N) → wrote d at w a e → (at < length (state d).words) × (length w ≡ 8)) (reported : R → List Turn → R → Type 0) where
  -- the command that a line sends to a card in a play
  asked : Card N → Warm → CardLine → command.Command
  asked c w cmd = line_command (card_in state c) (session_state_in state c) w.budget (deck_line_of cmd)

  -- the step of the line
  step_is : (c : Card N) (w : Warm) (n : ℕ) (cmd : CardLine) (x : Option FailedWrite) → IsCardOfPlay state c w.base w.live
      → step (AfterPower w) (n, deck_line_of cmd) x ≡ command_step n (deck_line_of cmd) w (card_in state c) (asked c w cmd) (hit_of w.armed (moves (asked c w cmd).items) x)
  unfolding asked
  step_is c w n cmd x on =
      after_power_is cmd w n x ∙ ap (λ (v : Live). card_line n (deck_line_of cmd) w v w.base x) on.live ∙ ap (λ (b : Base). card_line n (deck_line_of cmd) w (Running (session_state_in state c)) b x) on.base

  moves_are : (c : Card N) (w : Warm) (n : ℕ) (cmd : CardLine) → IsCardOfPlay state c w.base w.live → moves_of (AfterPower w) (n, deck_line_of cmd) ≡ moves (asked c w cmd).items
  unfolding asked
  moves_are c w n cmd on =
      moves_after_power cmd w n ∙ ap (λ (v : Live). moves (card_line n (deck_line_of cmd) w v w.base None).items) on.live
      ∙ ap (λ (b : Base). moves (card_line n (deck_line_of cmd) w (Running (session_state_in state c)) b None).items) on.base

  -- wherever a write of the line stops, the words hold the state of the play
  command_stands : (c : Card N) (w : Warm) (n : ℕ) (cmd : CardLine) (ws : List (ℕ × List ℕ)) → IsCardOfPlay state c w.base w.live → StopsAtEach (card_in state c) (asked c w cmd).items (state (device_in c)).words ws
      → StopsStand (state (device_in c)).words (AfterPower w) (n, deck_line_of cmd) 0 ws
  command_stands c w n cmd ws on stops k x low high size =
      let m = image_after_stop (state (device_in c)).words ws k x in
      let t : StopAt = record { kind = Worn; at = k; left = x } in
      let v : Warm = stopped_line w (card_in state c) t (at_stop (asked c w cmd).items k x) in
      let base : HoldsBase v.base v.owed v.by m = stops k x low high size in
      let here : StandsForState m (AfterPower v) = stands_after_power m v base in
      let zero_on : 0 + k ≡ k = omega arith in
      subst (λ (i : ℕ). StandsForState m (state_after_stop (AfterPower w) (n, deck_line_of cmd) i x)) (sym zero_on)
      (subst (λ (u : Step). StandsForState m u.after) (sym (step_is c w n cmd (Some (record { at = k; left = x })) on)) here)

  -- the card with the armed device gets the same command
  asked_over : (c u : Card N) (k : ℕ) (w : Warm) (cmd : CardLine) (result : _) (e : Card N) (before after : R) → u ≡ with_device c (device_in u) → state (device_in u) ≡ state (device_in c) → k ≡ w.budget
      → RanAndReported state wrote reported u (line_command (card_in state u) (session_state_in state u) k (deck_line_of cmd)) result e before after → RanAndReported state wrote reported u (asked c w cmd) result e before after
  unfolding asked
  asked_over c u k w cmd result e before after rest same budget ran =
      let f : model.Card → SessionState → ℕ → Type 0 = λ x y z. RanAndReported state wrote reported u (line_command x y z (deck_line_of cmd)) result e before after in
      subst (λ (x : model.Card). f x (session_state_in state c) w.budget) (ap (λ (x : DeviceState). means x.words) same)
      (subst (λ (y : SessionState). f (card_in state u) y w.budget) (session_state_over state c u rest same) (subst (λ (z : ℕ). f (card_in state u) (session_state_in state u) z) budget ran))

  handed : (c u : Card N) (a : Armed) → IsReadyCard state c → state (device_in u) ≡ state (device_in c) → bench (device_in u) ≡ armed_bench a (bench (device_in c))
      → Handed (state (device_in c)) (bench (device_in c)) 0 a (state (device_in u)) (bench (device_in u))
  handed c u a ready same is = grind (arith, ready_on)

  stops_over : (c u : Card N) (is : List Item) (ws : List (ℕ × List ℕ)) → state (device_in u) ≡ state (device_in c) → StopsAtEach (card_in state u) is (state (device_in u)).words ws
      → StopsAtEach (card_in state c) is (state (device_in c)).words ws
  stops_over c u is ws same h = subst (λ (x : DeviceState). StopsAtEach (means x.words) is x.words ws) same h

  -- ---- a command that was answered

  pub command_done : (p : Player N) (u e f : Card N) (cmd : CardLine) (o : Outcome) (before after : R) → p.power ≡ power.On → IsReadyCard state p.card → state (device_in u) ≡ state (device_of p)
      → bench (device_in u) ≡ armed_bench p.armed (bench (device_of p)) → u ≡ with_device p.card (device_in u)
      → RanAndReported state wrote reported u (line_command (card_in state u) (session_state_in state u) p.budget (deck_line_of cmd)) (Ok o) e before after
      → state (device_in f) ≡ state (device_in e) → bench (device_in f) ≡ record (bench (device_in e)) { cut = None; worn = None } → f ≡ with_device e (device_in f)
      → LineDone state bench reported p (deck_line_of cmd) before after (Some answer.Outcome) (record p { card = f; armed = armed.Not; outcome = o })
  command_done p u e f cmd o before after on_is ready same is rest ran kept free over (BeforePower m b r) n at = absurd (cc (sym at.stands.0 ∙ on_is))
  command_done p u e f cmd o before after on_is ready same is rest ran kept free over (AfterPower w) n at =
      let c = p.card in
      let k = p.budget in
      let a = p.armed in
      let q : Player N = record p { card = f; armed = armed.Not; outcome = o } in
      let l = deck_line_of cmd in
      let on : IsCardOfPlay state c w.base w.live = subst (λ (y : Power). LiveIs state y c w.base w.live) on_is at.stands.0 in
      let r = asked c w cmd in
      let card = card_in state c in
      let done : RanAndReported state wrote reported u r (Ok o) e before after = asked_over c u k w cmd (Ok o) e before after rest same at.budget ran in
      let made = done.commanded.made in
      let ws = made.writes in
      let m = moves r.items in
      let did : Went state bench wrote obeys burns fits (device_in c) (device_in f) a 0 ws =
      went state bench wrote obeys burns fits (device_in c) (device_in u) (device_in e) (device_in f) a 0 ws at.can_arm (handed c u a ready same is) made.makes (record { state = kept; bench = free }) in
      let v : Warm = line_after w card r None in
      let new : model.Card = card_done card r.items in
      let whole : IsCardAfter card r.items (Ok tt) (state (device_in e)).words = subst (λ (x : DeviceState). IsCardAfter (means x.words) r.items (Ok tt) (state (device_in e)).words) same made.done in
      let words : (state (device_in f)).words ≡ (state (device_in e)).words = ap (λ (x : DeviceState). x.words) kept in
      let means_new : means (state (device_in e)).words ≡ new = (base_card (fault (state (device_in e)).words) (state (device_in e)).words new whole.base).1 in
      let none : w.owed ≡ 0 = sym at.stands.1.owed ∙ ready_owes state c ready in
      let session_state : session_state_in state f ≡ r.session_state = session_state_over state e f over kept ∙ done.commanded.session_state in
      let base : HoldsBase (OnCard new) w.owed w.by (state (device_in f)).words = record { base = ap base_of_words words ∙ whole.base; owed = ap count_of_recovery_writes words ∙ whole.owed ∙ sym none; by = λ some. absurd (some none) } in
      let then : IsPlayerAt state bench q (AfterPower v) = record {
        stands = (subst (λ (y : Power). LiveIs state y f v.base v.live) (sym on_is) (record { ready = ready_over state e f over kept done.commanded.ready; base = ap OnCard (sym means_new ∙ ap means (sym words)); live = ap Running (sym session_state) }), base);
        budget = at.budget;
        armed = refl;
        some = at.some;
        most = at.most;
        can_arm = tt;
        unfused = did.unfused;
      } in
      let stands : StopsStand (state (device_in c)).words (AfterPower w) (n, l) 0 ws = command_stands c w n cmd ws on (stops_over c u r.items ws same made.stops) in
      let stepped = went_stepped state bench wrote obeys burns fits p q (AfterPower w) n 0 l (Answered r.outcome) r.items r.items r.pairs r.turns v answer.Outcome ws m at (worth cmd (AfterPower w)) (sym (same_power l (state (device_in c)).on (no_powers cmd)) ∙ ready_on state c ready) refl did made.number (moves_are c w n cmd on) then
      (ap Answered done.commanded.outcome) stands in
      let misses : hit_of w.armed m None ≡ None = subst (λ (i : ℕ). hit_of w.armed i None ≡ None) made.number (subst (λ (y : play.Armed). hit_of y (length ws) None ≡ None) at.armed did.missed.hit) in
      let step_on : step (AfterPower w) (n, l) None ≡ command_step n l w card r None = step_is c w n cmd None on ∙ ap (λ (y : Option StopAt). command_step n l w card r y) misses in
      (None, lined state bench reported p q (AfterPower w) (n, l) None (command_step n l w card r None) (Some answer.Outcome) before after step_on stepped done.reports)

  -- ---- a command that was stopped

  pub command_stopped : (p : Player N) (u e f : Card N) (cmd : CardLine) (o : Outcome) (how : Stop) (before after : R) → p.power ≡ power.On → IsReadyCard state p.card → state (device_in u) ≡ state (device_of p)
      → bench (device_in u) ≡ armed_bench p.armed (bench (device_of p)) → u ≡ with_device p.card (device_in u)
      → RanAndReported state wrote reported u (line_command (card_in state u) (session_state_in state u) p.budget (deck_line_of cmd)) (Err how) e before after
      → state (device_in f) ≡ state (device_in e) → bench (device_in f) ≡ record (bench (device_in e)) { cut = None; worn = None }
      → LineDone state bench reported p (deck_line_of cmd) before after (Some (answer_after_stop how p.armed)) (record p { card = f; power = power_after_stop how; armed = armed.Not; outcome = o })
  command_stopped p u e f cmd o how before after on_is ready same is rest ran kept free (BeforePower m b r) n at = absurd (cc (sym at.stands.0 ∙ on_is))
  command_stopped p u e f cmd o how before after on_is ready same is rest ran kept free (AfterPower w) n at =
      let c = p.card in
      let k = p.budget in
      let a = p.armed in
      let d = device_in f in
      let ans = answer_after_stop how a in
      let q : Player N = record p { card = f; power = power_after_stop how; armed = armed.Not; outcome = o } in
      let l = deck_line_of cmd in
      let on : IsCardOfPlay state c w.base w.live = subst (λ (y : Power). LiveIs state y c w.base w.live) on_is at.stands.0 in
      let r = asked c w cmd in
      let card = card_in state c in
      let done : RanAndReported state wrote reported u r (Err how) e before after = asked_over c u k w cmd (Err how) e before after rest same at.budget ran in
      let made = done.commanded.made in
      let ws = made.writes in
      let m = moves r.items in
      let reports = done.reports in
      let i : ℕ = reports.0 in
      let found_stop = hit state bench wrote obeys burns fits (device_in c) (device_in u) (device_in e) d a 0 ws i how at.can_arm at.unfused (handed c u a ready same is) reports.1 (record { state = kept; bench = free }) in
      let x : List ℕ = found_stop.0 in
      let did : Hit state bench wrote obeys burns fits (device_in c) d a 0 ws i how x = found_stop.1 in
      let t : StopAt = record { kind = how; at = i; left = x } in
      let high : i ≤ m = let h = did.high in let j : length ws ≤ m = made.number in omega (arith, h, j) in
      let by : HitBy w.armed m (bench (device_in c)).steady how i x (failure_entry i x (Some how)) = subst (λ (y : play.Armed). HitBy y m (bench (device_in c)).steady how i x (failure_entry i x (Some how))) at.armed (did.by m high) in
      let stops : StopsAtEach card r.items (state (device_in c)).words ws = stops_over c u r.items ws same made.stops in
      let v : Warm = stopped_line w card t (at_stop r.items i x) in
      let base : HoldsBase v.base v.owed v.by (state d).words = subst (λ (y : List (List ℕ)). HoldsBase v.base v.owed v.by y) (sym did.words) (stops i x did.low did.high did.size) in
      let then : IsPlayerAt state bench q (AfterPower v) = record {
        stands = (live_stopped state bench wrote obeys burns fits how f v.base v.live refl, base);
        budget = at.budget;
        armed = refl;
        some = at.some;
        most = at.most;
        can_arm = tt;
        unfused = did.unfused;
      } in
      let answers : answer_value state q ans ≡ result_of_stop t how = answer_stopped state bench wrote obeys burns fits how p q t refl did.place in
      let stepped = hit_stepped state bench wrote obeys burns fits p q (AfterPower w) n 0 l (result_of_stop t how) r.items (at_stop r.items i x).whole r.pairs r.turns v ans ws m i how x at (worth cmd (AfterPower w)) refl did made.number (moves_are c w n cmd on) then answers
      (command_stands c w n cmd ws on stops) in
      let step_on : step (AfterPower w) (n, l) (failure_entry i x (Some how)) ≡ command_step n l w card r (Some t) = step_is c w n cmd (failure_entry i x (Some how)) on ∙ ap (λ (y : Option StopAt). command_step n l w card r y) by.hit in
      (failure_entry i x (Some how), lined state bench reported p q (AfterPower w) (n, l) (failure_entry i x (Some how)) (command_step n l w card r (Some t)) (Some ans) before after step_on stepped reports.2)

  -- a command that was stopped, with the power and the answer that follow from the stop
  pub command_stopped_as : (p : Player N) (u e f : Card N) (cmd : CardLine) (o : Outcome) (how : Stop) (pw : Power) (ans : Answer) (before after : R) → p.power ≡ power.On → IsReadyCard state p.card → state (device_in u) ≡ state (device_of p)
      → bench (device_in u) ≡ armed_bench p.armed (bench (device_of p)) → u ≡ with_device p.card (device_in u)
      → RanAndReported state wrote reported u (line_command (card_in state u) (session_state_in state u) p.budget (deck_line_of cmd)) (Err how) e before after
      → state (device_in f) ≡ state (device_in e) → bench (device_in f) ≡ record (bench (device_in e)) { cut = None; worn = None } → pw ≡ power_after_stop how → ans ≡ answer_after_stop how p.armed
      → LineDone state bench reported p (deck_line_of cmd) before after (Some ans) (record p { card = f; power = pw; armed = armed.Not; outcome = o })
  command_stopped_as p u e f cmd o how pw ans before after on_is ready same is rest ran kept free goes says =
      subst (λ (x : Power). LineDone state bench reported p (deck_line_of cmd) before after (Some ans) (record p { card = f; power = x; armed = armed.Not; outcome = o })) (sym goes)
      (subst (λ (x : Answer). LineDone state bench reported p (deck_line_of cmd) before after (Some x) (record p { card = f; power = power_after_stop how; armed = armed.Not; outcome = o })) (sym says)
      (command_stopped p u e f cmd o how before after on_is ready same is rest ran kept free))
