-- What happens to one application in a play, as its rules count it: the instructions that were done and those that
-- abended, commands and their answers, and the sessions of the application alone. The newest event comes first.
use Rattle.std.specs.Prelude.{ℕ, Bool, true, false, List, Option, Some, None}
use Rattle.model_events.specs.model_machine.specs.declared.machine.Abend.{Abend}
use Rattle.model_events.specs.model_machine.specs.Chain.{Outcome}
use Rattle.model_events.specs.Deeds.{Deed, Watch}

-- An instruction was done in a frame of the application; one ended with an abend other than 07; a command reached it,
-- with its bytes; it was answered; a session of it began or ended.
pub data Event : Type 0 where
  Did : (deed : Deed) → Event
  Failed : (at : ℕ) (cause : Abend) → Event
  Commanded : (bytes : List ℕ) → Event
  Answers : (bytes : List ℕ) (outcome : Outcome) → Event
  Session : Event

-- a history: the newest event first
abbrev pub History : Type 0
History = List Event

-- a session of the application ends where there was one
abbrev pub ended_session : Bool → Option Event
ended_session true = Some Session
ended_session false = None

-- What is counted of an application by this name: everything. A selection is one event if it begins a session, ends one,
-- or both; a stop, a power line or the selection of another is one if it ends a session.
abbrev pub rule_watch : List ℕ → Watch Event
rule_watch name =
    record {
      name = name;
      of_deed = λ d. Some (Did d);
      of_abend = λ at cause. Some (Failed at cause);
      of_command = λ bytes a. Some (Commanded bytes);
      of_answer = λ bytes outcome. Some (Answers bytes outcome);
      of_selection = λ was. Some Session;
      of_end = ended_session;
    }
