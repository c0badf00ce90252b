-- The calls of `power` and the power of a line, by its answer.
use Rattle.std.proofs.Common.{arith, ◌≡◌, ℕ, Bool, true, false, List, Option, Some, None, refl, sym, ap, ◌∙◌}
use Rattle.std.specs.Prelude.{option_map}
use Rattle.model_play.specs.model_device.specs.declared.device.Stop.{Stop}
use Rattle.model_play.specs.model_device.specs.declared.device.Stop.TheVariants.{Off, Worn}
use Rattle.model_play.specs.model_device.specs.Device.{DeviceState, BenchState}
use Rattle.model_play.specs.model_device.specs.Card.{App}
use Rattle.model_play.specs.model_device.specs.PowerUp.{Base, OnCard, AtFault}
use Rattle.model_play.specs.model_machine.specs.Chain.{Turn}
use Rattle.model_play.specs.model_card.specs.Items.{StopAt}
use Rattle.model_play.specs.model_card.specs.Commands.{Command}
use Rattle.model_play.specs.DeckGrammar.{DeckLine}
use Rattle.model_play.specs.DeckGrammar as line
use Rattle.model_play.specs.Play.{LineResult, OffAt, FailureStop, Live, Warm, State, BeforePower, AfterPower, FailedWrite, step, card_line, line_says, power_says, power_result, power_moves, play_at_power, hit_of, dump_result, static_of, result_of_stop}
use Rattle.model_play.proofs.PlayLemmas.{step_is}
use Rattle.mc_card.specs.declared.card.Card.{Card}
use Rattle.mc_script.specs.declared.answer.Answer.{Answer}
use Rattle.mc_script.specs.declared.player.Power.{Power}
use Rattle.mc_script.specs.declared.player.Player.{Player}
use Rattle.mc_script.specs.Players.{answer_value, device_of, dump_value, IsPlaying}
use Rattle.mc_script.specs.Counting.{count_after_rises, line_powers, on_after_stop, on_unstopped, on_after}
use Rattle.mc_script.specs.Arming.{on_after_answer}
use Rattle.mc_script.specs.Lines.{LineDone}

-- whether the device has power after a line, by the line's result
abbrev pub on_after_result : Bool → DeckLine → Option LineResult → Bool
on_after_result on l (Some (OffAt k)) = false
on_after_result on l (Some FailureStop) = true
on_after_result on l _ = on_unstopped on l

-- ---- the power after a step, by its result

stop_power : (t : StopAt) (k : Stop) (on : Bool) (l : DeckLine) → on_after_stop k ≡ on_after_result on l (Some (result_of_stop t k))
stop_power t Off on l = refl
stop_power t Worn on l = refl

base_power : (m : ℕ) (b : Base) (on : Bool) → true ≡ on_after_result on line.Power (Some (power_result m b))
base_power m (OnCard c) on = refl
base_power m (AtFault cause p) on = refl

power_power : (s : Warm) (t : Option StopAt) (on : Bool) → on_after on line.Power t ≡ on_after_result on line.Power (Some (power_says s t))
power_power s None on = base_power (power_moves s) s.base on
power_power s (Some t) on = stop_power t t.kind on line.Power

command_power : (r : Command) (t : Option StopAt) (on : Bool) (l : DeckLine) → on_after on l t ≡ on_after_result on l (Some (line_says r t))
command_power r None on l = refl
command_power r (Some t) on l = stop_power t t.kind on l

card_power : (n : ℕ) (l : DeckLine) (s : Warm) (live : Live) (base : Base) (w : Option FailedWrite) (on : Bool) → on_after on l (card_line n l s live base w).stop ≡ on_after_result on l (card_line n l s live base w).result
card_power n l s live base w on = grind (arith, command_power)

static_power : (o : Option App) (on : Bool) (l : DeckLine) → on_unstopped on l ≡ on_after_result on l (Some (static_of o))
static_power None on l = refl
static_power (Some a) on l = refl

dump_power : (live : Live) (base : Base) (x : List ℕ) (on : Bool) (l : DeckLine) → on_unstopped on l ≡ on_after_result on l (Some (dump_result live base x))
dump_power live base x on l = grind (arith, static_power)

step_power : (s : State) (l : ℕ × DeckLine) (w : Option FailedWrite) (on : Bool) → on_after on l.1 (step s l w).stop ≡ on_after_result on l.1 (step s l w).result
unfolding step
step_power (BeforePower m b a) (n, line.Power) w on = power_power (play_at_power m b a) (hit_of a (power_moves (play_at_power m b a)) w) on
step_power (BeforePower m b a) (n, line.Format) w on = refl
step_power (BeforePower m b a) (n, _) w on = refl
step_power (AfterPower s) (n, line.Power) w on = power_power s (hit_of s.armed (power_moves s) w) on
step_power (AfterPower s) (n, line.Sent sent) w on = card_power n (line.Sent sent) s s.live s.base w on
step_power (AfterPower s) (n, line.Dump x) w on = dump_power s.live s.base x on (line.Dump x)
step_power (AfterPower s) (n, _) w on = refl

module _ {N : Type 0} (state : N → DeviceState) (bench : N → BenchState) where
  -- ---- the power after a line, by its answer

  shown_power : (p : Power) (c : Card N) (x : List ℕ) (on : Bool) (l : DeckLine) → on_unstopped on l ≡ on_after_result on l (Some (dump_value state p c x))
  shown_power p c x on l = grind (arith, static_power)

  answer_power : (p : Player N) (a : Option Answer) (on : Bool) (l : DeckLine) → on_after_answer on l a ≡ on_after_result on l (option_map (answer_value state p) a)
  answer_power p a on l = grind (arith, shown_power)

  -- the calls of `power` of a line that was played
  pub line_calls : {R : Type 0} (reported : R → List Turn → R → Type 0) (p q : Player N) (l : DeckLine) (before after : R) (a : Option Answer) → LineDone state bench reported p l before after a q → IsPlaying state bench p
      → (bench (device_of q)).powers ≡ count_after_rises (bench (device_of p)).powers (line_powers l)
  line_calls reported p q l before after a done playing =
      let s = playing.0 in
      let d = done s 0 playing.1 in
      d.1.stepped.played.counts.counts.powers ∙ ap (λ (x : DeckLine). count_after_rises (bench (device_of p)).powers (line_powers x)) (step_is s (0, l) d.0).line

  -- the power after a line that was played
  pub line_power : {R : Type 0} (reported : R → List Turn → R → Type 0) (p q : Player N) (l : DeckLine) (before after : R) (a : Option Answer) → LineDone state bench reported p l before after a q → IsPlaying state bench p
      → (state (device_of q)).on ≡ on_after_answer (state (device_of p)).on l a
  line_power reported p q l before after a done playing =
      let s = playing.0 in
      let d = done s 0 playing.1 in
      let end = d.1.stepped in
      let on = (state (device_of p)).on in
      end.played.power
      ∙ ap (λ (x : DeckLine). on_after on x (step s (0, l) d.0).stop) (step_is s (0, l) d.0).line
      ∙ step_power s (0, l) d.0 on
      ∙ ap (λ (r : Option LineResult). on_after_result on l r) (sym end.answers)
      ∙ sym (answer_power q a on l)
