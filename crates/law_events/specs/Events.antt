-- The events of a line: those of its turns, one for each turn at most, the command, the answer, and the session that
-- begins or ends.
use Rattle.std.specs.Prelude.{ℕ, zero, suc, ◌-◌, Bool, true, false, cond, ◌&&◌, ◌||◌, ◌==◌, nat_le, List, [], ◌∷◌, length, take, Option, Some, None}
use Rattle.law_promise.specs.model_events.specs.model_device.specs.Card.{App}
use Rattle.law_promise.specs.model_events.specs.model_device.specs.Image.{Two}
use Rattle.law_promise.specs.model_events.specs.model_device.specs.PowerUp.{Base, OnCard, AtFault}
use Rattle.law_promise.specs.model_events.specs.model_device.specs.Stopped.{cost, stands}
use Rattle.law_promise.specs.model_events.specs.model_machine.specs.Chain.{Chain, Outcome, Reply, Follows, Continues, Ends, Turn, start, turn_of_chain}
use Rattle.law_promise.specs.model_events.specs.Deeds.{Watch}
use Rattle.law_promise.specs.model_card.specs.Items.{StopAt}
use Rattle.law_promise.specs.model_card.specs.Manager.{Selected, Route, WrongLength, WrongClass, ToSelect, ToManager, ToApplication, route}
use Rattle.law_promise.specs.model_play.specs.DeckGrammar.{DeckLine}
use Rattle.law_promise.specs.model_play.specs.DeckGrammar as line
use Rattle.law_promise.specs.model_play.specs.Play.{Live, Running, Unpowered, Muted, State, BeforePower, AfterPower, LineResult, Answered, Step}
use Rattle.law_promise.specs.model_play.specs.Given.{is_power}
use Rattle.law_promise.specs.model_play.specs.TraceText.{before_stop}
use Rattle.law_promise.specs.History.{is_selected_in, turn_event, with_event}
use Rattle.model_rules.specs.Happenings.{Event, Commanded, Answers, ended_session, rule_watch}

-- ---- turns

-- the event of a turn with this much of the budget left, if it is one
abbrev pub event_of : {E : Type 0} → Watch E → ℕ → Chain → Option E
event_of w zero ch = None
event_of w (suc n) ch = turn_event w ch

-- a history with the events of some turns
abbrev pub with_events : {E : Type 0} → List (Option E) → List E → List E
with_events [] h = h
with_events (e ∷ es) h = with_events es (with_event e h)

-- the events of the rest of a run, if the chain goes on
abbrev pub rest_events : {E : Type 0} → Follows → (Chain → List (Option E)) → List (Option E)
rest_events (Ends o) rest = []
rest_events (Continues ch) rest = rest ch

-- the events of the turns of a run with this budget, one for each turn
unfoldable pub run_events : {E : Type 0} → Watch E → ℕ → Chain → List (Option E)
run_events w zero ch = None ∷ []
run_events w (suc n) ch = turn_event w ch ∷ rest_events (turn_of_chain ch).follows (λ c. run_events w n c)

-- ---- a stop

-- whether the turn that a stop at a device write hits counts, by the number of words that it writes: if its write is
-- durable
abbrev pub stands_at : Option ℕ → ℕ → List ℕ → (ℕ → Bool) → Bool
stands_at None k x rest = rest k
stands_at (Some w) k x rest = cond (nat_le k (cost Two w)) (stands Two w k x) (rest (k - cost Two w))

-- whether of some turns the one that a stop at device write k hits, which leaves x, counts
abbrev pub is_durable_at : List Turn → ℕ → List ℕ → Bool
is_durable_at [] k x = false
is_durable_at (t ∷ ts) k x = stands_at t.wrote k x (λ j. is_durable_at ts j x)

-- the number of turns that count, of those before a stop and the one that it hits
abbrev pub count_with : Bool → ℕ → ℕ
count_with durable n = cond durable (suc n) n

-- the number of turns of a line that count
abbrev pub count_of_turns : List Turn → Option StopAt → ℕ
count_of_turns ts None = length ts
count_of_turns ts (Some s) = count_with (is_durable_at ts s.at s.left) (length (before_stop ts s.at))

-- ---- a line

-- the events of the turns of a command, by its route
abbrev pub route_events : List ℕ → List (List ℕ × App) → Option Selected → ℕ → Route → List (Option Event)
route_events name apps selected budget WrongLength = []
route_events name apps selected budget WrongClass = []
route_events name apps selected budget (ToSelect a) = []
route_events name apps selected budget (ToManager a) = []
route_events name apps None budget (ToApplication a) = []
route_events name apps (Some s) budget (ToApplication a) = run_events (rule_watch name) budget (start apps s.name s.session a)

-- the bytes that a line sends, if an application may run
abbrev pub sent_bytes : DeckLine → Option (List ℕ)
sent_bytes (line.Sent (line.Apdu b)) = Some b
sent_bytes l = None

-- the events of the turns of bytes that are sent, if a card runs
abbrev pub live_events : List ℕ → Option (List ℕ) → Live → Base → ℕ → List (Option Event)
live_events name None live base budget = []
live_events name (Some b) (Running s) (OnCard c) budget = route_events name c.apps s.selected budget (route b)
live_events name (Some b) (Running s) (AtFault cause p) budget = []
live_events name (Some b) Unpowered base budget = []
live_events name (Some b) Muted base budget = []

-- the events of the turns of a line from a state, if no stop hits it
unfoldable pub line_events : List ℕ → State → DeckLine → List (Option Event)
line_events name (BeforePower m b a) l = []
line_events name (AfterPower s) l = live_events name (sent_bytes l) s.live s.base s.budget

-- whether a command is passed to the selected application
abbrev pub is_to_application : Route → Bool
is_to_application (ToApplication a) = true
is_to_application r = false

-- whether it is a SELECT by name
abbrev pub is_to_select : Route → Bool
is_to_select (ToSelect a) = true
is_to_select r = false

-- how a command ended, if it did
abbrev pub outcome_in : Option LineResult → Option Outcome
outcome_in (Some (Answered o)) = Some o
outcome_in r = None

-- whether a command ended with status 9000
abbrev pub is_done : Option Outcome → Bool
is_done (Some (Reply body sw)) = sw == 0x9000
is_done o = false

-- the command of a line that is passed to the selected application, if there is one
abbrev pub passed_command : DeckLine → Option (List ℕ)
passed_command (line.Sent (line.Apdu b)) = cond (is_to_application (route b)) (Some b) None
passed_command l = None

-- a command, if it reaches an application
abbrev pub own_by : Bool → Option (List ℕ) → Option (List ℕ)
own_by selected None = None
own_by true (Some b) = Some b
own_by false (Some b) = None

-- the command of a line that reaches an application, by whether it is selected
abbrev pub own_command : Bool → DeckLine → Option (List ℕ)
own_command selected l = own_by selected (passed_command l)

-- the event of a command, if there is one
abbrev pub command_event : Option (List ℕ) → Option Event
command_event None = None
command_event (Some b) = Some (Commanded b)

-- the answer to a command, if there are both
abbrev pub answer_event : Option (List ℕ) → Option Outcome → Option Event
answer_event None o = None
answer_event (Some b) None = None
answer_event (Some b) (Some o) = Some (Answers b o)

-- whether a line is a SELECT by name
abbrev pub is_selection : DeckLine → Bool
is_selection (line.Sent (line.Select n)) = true
is_selection (line.Sent (line.Apdu b)) = is_to_select (route b)
is_selection l = false

-- whether a session begins or ends, by whether a line is a power line, whether it is a SELECT, whether that ended with
-- status 9000, and whether the application is selected before and after it
abbrev pub session_by : Bool → Bool → Bool → Bool → Bool → Bool
session_by power select done was is = (power && was) || (select && done && (was || is))

-- Whether a session of an application begins or ends with a line that no stop hits: a power line ends one, and a SELECT
-- that is accepted ends one or begins one.
abbrev pub has_session : DeckLine → Bool → Bool → Bool → Bool
has_session l done was is = session_by (is_power l) (is_selection l) done was is

-- the event of the session with a line: a stop ends the session that there is
abbrev pub end_event : Bool → Bool → Option StopAt → Option Event
end_event has was None = ended_session has
end_event has was (Some s) = ended_session was

-- The history of a line, by the number of its turns that count: the command, the events of these turns, the answer, and
-- the session.
abbrev pub line_history : List ℕ → Step → ℕ → List Event
line_history name t count =
    let was = is_selected_in name t.before in
    let command = own_command was t.line in
    with_event (end_event (has_session t.line (is_done (outcome_in t.result)) was (is_selected_in name t.after)) was t.stop)
    (with_event (answer_event command (outcome_in t.result))
    (with_events (take count (line_events name t.before t.line)) (with_event (command_event command) [])))
