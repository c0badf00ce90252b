-- What a line answers says whether a cut hit it.
use Rattle.std.proofs.Common.{arith, ◌≡◌, ℕ, false, List, Option, Some, None, option_map, refl}
use Rattle.model_play.specs.model_device.specs.Card.{App}
use Rattle.model_play.specs.model_device.specs.Device.{DeviceState}
use Rattle.model_play.specs.Play.{static_of}
use Rattle.mc_card.specs.declared.card.Card.{Card}
use Rattle.mc_script.specs.Cuts.{is_off, off_in}
use Rattle.mc_script.specs.Players.{answer_value, dump_value}
use Rattle.mc_script.specs.declared.answer.Answer.{Answer}
use Rattle.mc_script.specs.declared.player.Power.{Power}
use Rattle.mc_script.specs.declared.player.Player.{Player}

static_on : (o : Option App) → false ≡ is_off (Some (static_of o))
static_on None = refl
static_on (Some a) = refl

module _ {N : Type 0} (state : N → DeviceState) where
  dump_on : (p : Power) (c : Card N) (aid : List ℕ) → false ≡ is_off (Some (dump_value state p c aid))
  dump_on p c aid = grind (arith, static_on)

  -- the result of a line is that of a cut if its answer is
  pub off_answer : (p : Player N) (a : Option Answer) → off_in a ≡ is_off (option_map (answer_value state p) a)
  off_answer p a = grind (arith, dump_on)
