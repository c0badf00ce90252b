-- A player whose card changes and keeps its device goes on playing.
use Rattle.std.proofs.Common.{arith, ◌≡◌, sym, ◌∙◌, subst}
use Rattle.model_play.specs.model_device.specs.Device.{DeviceState, BenchState}
use Rattle.model_play.specs.Play.{Warm, State, BeforePower, AfterPower, Running}
use Rattle.mc_card.specs.declared.card.Card.{Card}
use Rattle.mc_card.specs.Parts.{device_in, session_state_in, IsReadyCard}
use Rattle.mc_script.specs.declared.player.Power.{Power}
use Rattle.mc_script.specs.declared.player.Power.TheVariants as power
use Rattle.mc_script.specs.declared.player.Player.{Player}
use Rattle.mc_script.specs.Players.{StateIs, IsUnfused, IsPlayerAt, IsPlaying}

module _ {N : Type 0} (state : N → DeviceState) (bench : N → BenchState) where
  -- a card that runs is that of the play with its session state
  card_put : (c k : Card N) (w : Warm) → device_in k ≡ device_in c → (IsReadyCard state c → IsReadyCard state k)
      → StateIs state power.On c (AfterPower w) → StateIs state power.On k (AfterPower (record w { live = Running (session_state_in state k) }))
  card_put c k w same ready is = grind arith

  put_at : (p : Player N) (k : Card N) (s : State) → p.power ≡ power.On → device_in k ≡ device_in p.card → (IsReadyCard state p.card → IsReadyCard state k)
      → IsPlayerAt state bench p s → IsPlaying state bench (record p { card = k })
  put_at p k (BeforePower m b a) on same ready at = absurd (cc (sym on ∙ at.stands.0))
  put_at p k (AfterPower w) on same ready at =
      let here : StateIs state power.On p.card (AfterPower w) = subst (λ (x : Power). StateIs state x p.card (AfterPower w)) on at.stands in
      let v : Warm = record w { live = Running (session_state_in state k) } in (
        AfterPower v,
        record {
          stands = subst (λ (x : Power). StateIs state x k (AfterPower v)) (sym on) (card_put p.card k w same ready here);
          budget = at.budget;
          armed = at.armed;
          some = at.some;
          most = at.most;
          can_arm = at.can_arm;
          unfused = subst (λ (d : N). IsUnfused (bench d)) (sym same) at.unfused;
        },
      )

  -- the card of a player that plays is put in place
  pub put_playing : (p : Player N) (k : Card N) → p.power ≡ power.On → device_in k ≡ device_in p.card → (IsReadyCard state p.card → IsReadyCard state k)
      → IsPlaying state bench p → IsPlaying state bench (record p { card = k })
  put_playing p k on same ready playing = put_at p k playing.0 on same ready playing.1
