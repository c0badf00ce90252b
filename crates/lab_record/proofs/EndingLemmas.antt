-- What a line answers says how it ended.
use Rattle.std.proofs.Common.{◌≡◌, ℕ, false, List, Option, Some, None, option_map, refl}
use Rattle.mc_words.specs.model_device.specs.Card.{App}
use Rattle.mc_words.specs.model_device.specs.Device.{DeviceState}
use Rattle.law_events.specs.law_promise.specs.model_play.specs.Play.{LineResult, static_of}
use Rattle.mc_card.specs.declared.card.Card.{Card}
use Rattle.mc_script.specs.Players.{answer_value, dump_value}
use Rattle.mc_script.specs.declared.answer.Answer.{Answer}
use Rattle.mc_script.specs.declared.answer.Answer.TheVariants as answer
use Rattle.mc_script.specs.declared.player.Power.{Power}
use Rattle.mc_script.specs.declared.player.Power.TheVariants as power
use Rattle.mc_script.specs.declared.player.Player.{Player}
use Rattle.law_events.specs.Events.{outcome_in}
use Rattle.lab_record.specs.Courses.{ended_by, is_outcome, is_stop, stop_in}

-- no command ended with this result, and no stop hit its line
record IsQuiet (r : LineResult) : Type 0 where
  outcome : None ≡ outcome_in (Some r)
  stop : false ≡ is_stop (Some r)

static_quiet : (o : Option App) → IsQuiet (static_of o)
static_quiet None = record { outcome = refl; stop = refl }
static_quiet (Some a) = record { outcome = refl; stop = refl }

module _ {N : Type 0} (state : N → DeviceState) where
  dump_quiet : (p : Power) (c : Card N) (aid : List ℕ) → IsQuiet (dump_value state p c aid)
  dump_quiet power.BeforePower c aid = record { outcome = refl; stop = refl }
  dump_quiet power.Off c aid = record { outcome = refl; stop = refl }
  dump_quiet power.Mute c aid = record { outcome = refl; stop = refl }
  dump_quiet power.On c aid = static_quiet _

  -- how the command of a line ended is its result
  pub ended_is : (p : Player N) (a : Option Answer) → ended_by (is_outcome a) p ≡ outcome_in (option_map (answer_value state p) a)
  ended_is p None = refl
  ended_is p (Some answer.Formatted) = refl
  ended_is p (Some (answer.Ready n)) = refl
  ended_is p (Some (answer.Unusable u)) = refl
  ended_is p (Some (answer.OffAt k)) = refl
  ended_is p (Some answer.Worn) = refl
  ended_is p (Some answer.NoCard) = refl
  ended_is p (Some answer.Mute) = refl
  ended_is p (Some answer.Outcome) = refl
  ended_is p (Some (answer.Dump aid)) = (dump_quiet p.power p.card aid).outcome

  -- a stop hit a line if its answer is that of one
  pub stop_is : (p : Player N) (a : Option Answer) → stop_in a ≡ is_stop (option_map (answer_value state p) a)
  stop_is p None = refl
  stop_is p (Some answer.Formatted) = refl
  stop_is p (Some (answer.Ready n)) = refl
  stop_is p (Some (answer.Unusable u)) = refl
  stop_is p (Some (answer.OffAt k)) = refl
  stop_is p (Some answer.Worn) = refl
  stop_is p (Some answer.NoCard) = refl
  stop_is p (Some answer.Mute) = refl
  stop_is p (Some answer.Outcome) = refl
  stop_is p (Some (answer.Dump aid)) = (dump_quiet p.power p.card aid).stop
