-- The laws.
use Rattle.std.specs.Prelude.{◌≡◌, ℕ, ◌≤◌, Bool, true, false, List, [], bytes_eq, Option, Some, None, ⊤}
use Rattle.law_promise.specs.model_events.specs.model_device.specs.PowerUp.{Base, AtFault}
use Rattle.law_promise.specs.model_events.specs.model_machine.specs.Chain.{Chain, Continues, turn_of}
use Rattle.law_promise.specs.model_card.specs.Items.{StopAt, moves}
use Rattle.law_promise.specs.model_play.specs.DeckGrammar.{DeckLine}
use Rattle.law_promise.specs.model_play.specs.Given.{is_power}
use Rattle.law_promise.specs.model_play.specs.Play.{FailedWrite, Live, Running, State, BeforePower, AfterPower, step}
use Rattle.law_promise.specs.History.{after_step}
use Rattle.law_steps.specs.Nexts.{OpensOf}
use Rattle.model_rules.specs.Happenings.{rule_watch}
use Rattle.law_events.specs.Events.{count_of_turns, event_of, line_history}
use Rattle.law_events.specs.Turns.{Shows, opens_seen}

-- a stop is at one of some device writes
abbrev pub Hits : ℕ → Option StopAt → Type 0
Hits n None = ⊤
Hits n (Some s) = (1 ≤ s.at) × (s.at ≤ n)

-- what runs, runs on a card
abbrev pub RunsCard : Live → Base → Type 0
RunsCard (Running s) (AtFault cause p) = ⊥
RunsCard live base = ⊤

-- so it is in a state
abbrev pub IsSound : State → Type 0
IsSound (BeforePower m b a) = ⊤
IsSound (AfterPower s) = RunsCard s.live s.base

-- The history of a line is its command, the events of its turns that count, its answer and its session.
abbrev pub LineLaw : Type 0
LineLaw =
    (name : List ℕ) (s : State) (l : ℕ × DeckLine) (w : Option FailedWrite)
    → (let t = step s l w in IsSound s → (is_power l.1 ≡ false → Hits (moves t.items) t.stop) → after_step (rule_watch name) t [] ≡ line_history name t (count_of_turns t.turns t.stop))

-- what turns show
pub record TurnLaw : Type 0 where
  -- a turn of the application shows its event, and one of another has none
  pub own : (name : List ℕ) (n : ℕ) (ch : Chain) → bytes_eq ch.frame.name name ≡ true → Shows ch (turn_of n ch).turn (turn_of n ch).turn.end (event_of (rule_watch name) n ch)
  pub other : (name : List ℕ) (n : ℕ) (ch : Chain) → bytes_eq ch.frame.name name ≡ false → event_of (rule_watch name) n ch ≡ None
  -- protection that is computed turn by turn is that of the frames
  pub opens : (n : ℕ) (ch c : Chain) (os : List Bool) → OpensOf os ch → (turn_of n ch).follows ≡ Continues c → OpensOf (opens_seen n ch os) c
