-- What a line does to what is counted of an application besides its instructions: the command that reaches it, the answer,
-- and the session that begins or ends.
use Rattle.std.specs.Prelude.{ℕ, ◌+◌, Bool, true, false, cond, ◌&&◌, List, [], ◌∷◌, Option, Some, None}
use Rattle.mc_apdu.specs.model_machine.specs.Chain.{Outcome}
use Rattle.mc_isa.specs.model_text.specs.Listing.{hex_text}
use Rattle.law_events.specs.law_promise.specs.model_play.specs.Play.{LineResult, OffAt, FailureStop}
use Rattle.mc_text.specs.model_text.specs.TurnText.{outcome_text}
use Rattle.law_events.specs.law_promise.specs.model_events.specs.Matching.{fits}
use Rattle.mc_machine.specs.Turns.{outcome_value}
use Rattle.mc_script.specs.declared.answer.Answer.{Answer}
use Rattle.mc_script.specs.declared.answer.Answer.TheVariants as answer
use Rattle.mc_script.specs.declared.player.Player.{Player}
use Rattle.lab_app_rules.specs.declared.rules.Event.TheVariants as event
use Rattle.lab_app_rules.specs.declared.rules.On.{On}
use Rattle.lab_record.specs.Fitting.{fitting_from, is_event, is_fitting}

-- ---- results

-- whether a stop hit a line
abbrev pub is_stop : Option LineResult → Bool
is_stop (Some (OffAt k)) = true
is_stop (Some FailureStop) = true
is_stop r = false

-- whether an answer is that of such a line
abbrev pub stop_in : Option Answer → Bool
stop_in (Some (answer.OffAt k)) = true
stop_in (Some answer.Worn) = true
stop_in a = false

-- whether an answer is that of a command that ended
abbrev pub is_outcome : Option Answer → Bool
is_outcome (Some answer.Outcome) = true
is_outcome a = false

-- how the command of a line ended, if it did, on the player after it
abbrev pub ended_by : {N : Type 0} → Bool → Player N → Option Outcome
ended_by true p = Some (outcome_value p.outcome)
ended_by false p = None

-- ---- the command of a line

-- the numbers of the `on` lines that fit a command, if there is one
abbrev pub command_lines : List On → Option (List ℕ) → List ℕ
command_lines ons None = []
command_lines ons (Some b) = fitting_from 0 event.Command (hex_text b) ons

-- whether an `on` line is about answers, and its patterns fit a command and a result
abbrev pub is_answered : List ℕ → List ℕ → On → Bool
is_answered command result o = is_fitting event.Answer command o && fits o.result.items result

-- the numbers of these lines, of lines from the one with a number on
abbrev pub answered_from : ℕ → List ℕ → List ℕ → List On → List ℕ
answered_from i command result [] = []
answered_from i command result (o ∷ os) =
    cond (is_answered command result o) (i ∷ answered_from (i + 1) command result os) (answered_from (i + 1) command result os)

-- the numbers of the `on` lines that fit a command with its end, if there are both
abbrev pub answer_lines : List On → Option (List ℕ) → Option Outcome → List ℕ
answer_lines ons None o = []
answer_lines ons (Some b) None = []
answer_lines ons (Some b) (Some o) = answered_from 0 (hex_text b) (outcome_text o) ons

-- ---- the session

-- the numbers of the lines about sessions, of lines from the one with a number on
abbrev pub session_from : ℕ → List On → List ℕ
session_from i [] = []
session_from i (o ∷ os) = cond (is_event o.event event.Session) (i ∷ session_from (i + 1) os) (session_from (i + 1) os)
