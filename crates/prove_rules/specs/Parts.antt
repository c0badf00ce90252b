-- The parts of an `on` line as the code has them.
use Rattle.std.specs.Prelude.{◌≡◌, ℕ, Bool, true, false, List, Option, Some, None, ⊤}
use Rattle.mc_text.specs.model_text.specs.Text.{fields, is_empty}
use Rattle.model_rule_text.specs.model_events.specs.Matching.{plain}
use Rattle.model_rule_text.specs.model_play.specs.RuleLines.{Parts}
use Rattle.prove_facts.specs.model_rules.specs.Rules as rules
use Rattle.model_rule_text.specs.Reading as reading
use Rattle.model_rule_text.specs.Reading.{action_words, turn_words}
use Rattle.model_rule_text.specs.model_play.specs.declared.deck.DeckCause.TheVariants.{BadLine}
use Rattle.lab_app_rules.specs.declared.rules.Event.{Event}
use Rattle.lab_app_rules.specs.declared.rules.Event.TheVariants as event
use Rattle.prove_rules.specs.declared.fault.Fault.{Fault}
use Rattle.prove_rules.specs.declared.fault.Fault.TheVariants as fault
use Rattle.prove_rules.specs.declared.fault.RuleCause.TheVariants as cause
use Rattle.prove_rules.specs.declared.parts.Action.{Action}
use Rattle.prove_rules.specs.declared.parts.Action.TheVariants as action
use Rattle.prove_rules.specs.declared.parts.Deeds.{Deeds}
use Rattle.prove_rules.specs.declared.parts.Deeds.TheVariants as deeds

-- an event, as the definition has it
abbrev pub event_value : Event → reading.EventWord
event_value event.Turn = reading.TurnEvent
event_value event.Command = reading.CommandEvent
event_value event.Answer = reading.AnswerEvent
event_value event.Session = reading.SessionEvent

-- an action on an allowance, as the definition has it
abbrev pub action_value : Action → rules.Action
action_value action.Allow = rules.Allows
action_value action.Spend = rules.Spends
action_value action.Need = rules.Needs

-- what a word does to an allowance, as the definition has it
abbrev pub action_deeds : Action → reading.Deeds
action_deeds a = reading.OnAllowance (action_value a)

-- what a word does, as the definition has it
abbrev pub deeds_value : Deeds → reading.Deeds
deeds_value (deeds.OnAllowance a) = reading.OnAllowance (action_value a)
deeds_value (deeds.OnSum adds) = reading.OnSum adds

-- the words that do something, by whether they are after a turn
abbrev pub effect_words : Bool → List (List ℕ × reading.Deeds)
effect_words true = turn_words
effect_words false = action_words

-- fields have no word among them, or there was no memory to look for it
abbrev pub HasNoParts : {W : Type 0} → Option (Parts W) → Fault → Type 0
HasNoParts found (fault.Cause c) = (c ≡ cause.Deck BadLine) × (found ≡ None)
HasNoParts found fault.NoMemory = ⊤

-- fields have a word among them: a pattern is that of the fields before it, and a text has those after it
pub record HasParts {W : Type 0} (found : Option (Parts W)) (text : List ℕ) (word : W) (rest : List ℕ) : Type 0 where
  pub front : List ℕ
  pub is : found ≡ Some (front, word, fields rest)
  pub pattern : text ≡ plain front
  pub empty : is_empty front ≡ is_empty text
