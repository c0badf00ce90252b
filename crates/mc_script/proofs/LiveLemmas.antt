-- A player whose session state, or whose power without a card, is replaced.
use Rattle.std.proofs.Common.{arith, ◌≡◌, sym, ◌∙◌}
use Rattle.std.specs.Prelude.{true}
use Rattle.model_play.specs.model_device.specs.Device.{DeviceState, BenchState}
use Rattle.model_play.specs.Play.{Warm, State, BeforePower, AfterPower}
use Rattle.model_play.specs.Family.{is_running}
use Rattle.mc_card.specs.declared.card.Card.{Card}
use Rattle.mc_script.specs.declared.player.Power.{Power}
use Rattle.mc_script.specs.declared.player.Power.TheVariants as power
use Rattle.mc_script.specs.declared.player.Player.{Player}
use Rattle.mc_script.specs.Players.{StateIs, IsPlayerAt, IsPlaying}
use Rattle.mc_script.specs.Lives.{IsStopped, live_at}

module _ {N : Type 0} (state : N → DeviceState) (bench : N → BenchState) where
  -- ---- a session state put back

  -- a card runs only with power on
  pub not_running : (p : Player N) (w : Warm) (x : Power) (A : Type 0) → p.power ≡ x → IsStopped x → is_running w.live ≡ true → IsPlayerAt state bench p (AfterPower w) → A
  not_running p w x h is stopped runs at = grind arith

  -- ---- another power without a card

  stands_stopped : (c : Card N) (w : Warm) (x y : Power) → IsStopped x → IsStopped y → StateIs state x c (AfterPower w) → StateIs state y c (AfterPower (record w { live = live_at y }))
  stands_stopped c w x y off to is = grind arith

  pub stopped_at : (p : Player N) (w : Warm) (x y : Power) → p.power ≡ x → IsStopped x → IsStopped y → IsPlayerAt state bench p (AfterPower w)
      → IsPlayerAt state bench (record p { power = y }) (AfterPower (record w { live = live_at y }))
  stopped_at p w x y is off to at = grind (arith, stands_stopped)

  stopped_in : (p : Player N) (s : State) (x y : Power) → p.power ≡ x → IsStopped x → IsStopped y → IsPlayerAt state bench p s → IsPlaying state bench (record p { power = y })
  stopped_in p (AfterPower w) x y is off to at = (AfterPower (record w { live = live_at y }), stopped_at p w x y is off to at)
  stopped_in p (BeforePower m b a) power.Off y is off to at = absurd (cc (sym is ∙ at.stands.0))
  stopped_in p (BeforePower m b a) power.Mute y is off to at = absurd (cc (sym is ∙ at.stands.0))
  stopped_in p (BeforePower m b a) power.On y is off to at = absurd off
  stopped_in p (BeforePower m b a) power.BeforePower y is off to at = absurd off

  -- a player without a card goes on playing
  pub stopped_playing : (p : Player N) (x y : Power) → p.power ≡ x → IsStopped x → IsStopped y → IsPlaying state bench p → IsPlaying state bench (record p { power = y })
  stopped_playing p x y is off to playing = stopped_in p playing.0 x y is off to playing.1
