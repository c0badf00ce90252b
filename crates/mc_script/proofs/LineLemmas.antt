-- One line of a player as one line of a play.
use Rattle.std.proofs.Common.{arith, ◌≡◌, ℕ, List, Some, sym, subst, ◌∙◌}
use Rattle.model_play.specs.model_device.specs.Device.{DeviceState, BenchState}
use Rattle.model_play.specs.model_device.specs.Card.{App}
use Rattle.model_play.specs.Play.{State, BeforePower, AfterPower}
use Rattle.mc_script.specs.declared.player.Player.{Player}
use Rattle.mc_card.specs.Parts.{card_in, IsReadyCard}
use Rattle.mc_script.specs.declared.player.Power.{Power}
use Rattle.mc_script.specs.declared.player.Power.TheVariants as power
use Rattle.model_play.specs.model_device.specs.Bytes.{lookup}
use Rattle.mc_card.specs.declared.card.Card.{Card}
use Rattle.mc_script.specs.Players.{statics_by, LiveIs, IsPlayerAt}

-- the card of a player whose card runs
pub player_ready : {N : Type 0} (state : N → DeviceState) (bench : N → BenchState) (p : Player N) (s : State) → IsPlayerAt state bench p s → p.power ≡ power.On → IsReadyCard state p.card
player_ready state bench p (BeforePower m b a) at on = absurd (cc (sym at.stands.0 ∙ on))
player_ready state bench p (AfterPower w) at on = (subst (λ (x : Power). LiveIs state x p.card w.base w.live) on at.stands.0).ready

-- a card whose static bytes are shown runs, and has the application
pub statics_on : {N : Type 0} (state : N → DeviceState) (w : Power) (c : Card N) (aid fixed : List ℕ) → statics_by state w c aid ≡ Some fixed
    → (w ≡ power.On) × (a : App) × (lookup (card_in state c).apps aid ≡ Some a) × (a.fixed ≡ fixed)
statics_on state w c aid fixed h = grind arith
