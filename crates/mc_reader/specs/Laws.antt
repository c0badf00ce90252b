-- The laws of sessions: which frames have an answer, and that a card that runs answers every command that no stop hits.
use Rattle.std.specs.Prelude.{◌≡◌, ℕ, ◌≤◌, Bool, true, false, List, [], ◌∷◌, length, drop, Option, Some, None, ⊤}
use Rattle.std.specs.List.{AllByRecursion}
use Rattle.mc_words.specs.model_device.specs.PowerUp.{Base, OnCard}
use Rattle.mc_deck.specs.model_play.specs.DeckGrammar.{DeckLine}
use Rattle.mc_deck.specs.model_play.specs.Play.{plays, start, AfterPower, BeforePower, FailedWrite, Live, Ready, Running, State, Step}
use Rattle.mc_reader.specs.Meanings.{meaning, power_after, Meaning, ToCard}
use Rattle.mc_reader.specs.Lines.{line_in, session_lines}
use Rattle.mc_reader.specs.Answers.{result_bytes, steps_behind}

-- whether a card runs
abbrev pub runs_on : Live → Base → Bool
runs_on (Running session_state) (OnCard c) = true
runs_on live base = false

-- whether a card runs in a state
abbrev pub has_running_card : State → Bool
has_running_card (BeforePower m b a) = false
has_running_card (AfterPower s) = runs_on s.live s.base

-- a card runs once a line answered `ready`, and goes on up to the next stop
pub record KeepsRunning (t : Step) : Type 0 where
  pub begins : (writes : ℕ) → t.result ≡ Some (Ready writes) → has_running_card t.after ≡ true
  pub goes_on : has_running_card t.before ≡ true → t.stop ≡ None → has_running_card t.after ≡ true

-- a command to a card that runs, which no stop hits, is answered by two bytes at least
abbrev pub IsAnswered : Meaning → List Step → Type 0
IsAnswered (ToCard f) (t ∷ ts) = has_running_card t.before ≡ true → t.stop ≡ None → 2 ≤ length (result_bytes t.result)
IsAnswered m ts = ⊤

-- each frame that is such a command is answered so
abbrev pub AreAnswered : Bool → List (List ℕ) → List Step → Type 0
AreAnswered powered [] ts = ⊤
AreAnswered powered (f ∷ fs) ts =
    let m = meaning powered f in
    IsAnswered m ts × AreAnswered (power_after powered m) fs (steps_behind (line_in m) ts)

-- the steps of a session on an image
abbrev pub steps_of_session : List (ℕ × DeckLine) → List (List ℕ) → List (List ℕ) → List (Option FailedWrite) → List Step
steps_of_session deck fs m ws = plays (start m) (session_lines deck fs) ws

-- The law of answers. For every deck, every list of frames, every image and every list of failed writes: a card runs
-- once a line answered `ready`, and up to the next stop; and while it runs each command is answered by two bytes at
-- least.
pub record AnswersLaw : Type 0 where
  pub runs : (deck : List (ℕ × DeckLine)) (fs : List (List ℕ)) (m : List (List ℕ)) (ws : List (Option FailedWrite)) → AllByRecursion KeepsRunning (steps_of_session deck fs m ws)
  pub answered : (deck : List (ℕ × DeckLine)) (fs : List (List ℕ)) (m : List (List ℕ)) (ws : List (Option FailedWrite)) → AreAnswered false fs (drop (length deck) (steps_of_session deck fs m ws))
