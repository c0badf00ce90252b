-- The parts of a session: one frame, and frames that are served from a state of a play.
use Rattle.std.specs.Prelude.{◌≡◌, ℕ, ◌+◌, ◌≤◌, Bool, false, List, [], ◌++◌, Option, Some, None, Result}
use Rattle.std.specs.List.{AllByRecursion}
use Rattle.mc_words.specs.model_device.specs.Bytes.{AreBytes}
use Rattle.mc_words.specs.model_device.specs.Device.{DeviceState, BenchState}
use Rattle.mc_deck.specs.model_play.specs.DeckGrammar.{DeckLine}
use Rattle.mc_deck.specs.model_play.specs.Play.{State, FailedWrite, LineResult, step, plays}
use Rattle.mc_streams.specs.Streams.{Took}
use Rattle.mc_streams.specs.declared.refusals.WriteFault.{WriteFault}
use Rattle.mc_text.specs.Texts.{Sunk, Puts}
use Rattle.mc_script.specs.declared.answer.Answer.{Answer}
use Rattle.mc_script.specs.declared.player.Player.{Player}
use Rattle.mc_script.specs.Players.{IsPlayerAt}
use Rattle.mc_script.specs.Plays.{Bench, PlayedLine, Played}
use Rattle.mc_script.specs.Lines.{bench_of, Stepped}
use Rattle.mc_reader.specs.Frames.{frames_read}
use Rattle.mc_reader.specs.Meanings.{Meaning}
use Rattle.mc_reader.specs.Lines.{line_in, lines_of}
use Rattle.mc_reader.specs.Answers.{answer_to, answer_each}
use Rattle.mc_reader.specs.Results.{answer_frame}
use Rattle.mc_reader.specs.Moments.{Moment, Records, AreMoments}
use Rattle.mc_reader.specs.Sessions.{AnswersWritten, AroundSession, EndsBy}
use Rattle.mc_reader.specs.declared.serve_error.ServeError.{ServeError}

-- ---- one frame

-- the play of the line of a frame, if it has one, from a state and with the number after n: its result, and the state
-- after it
abbrev pub Moves : State → ℕ → Option DeckLine → Bench → Option LineResult → State → Bench → Type 0
Moves s n None a r u b = (u ≡ s) × (b ≡ a)
Moves s n (Some l) a r u b =
    (w : Option FailedWrite) × PlayedLine s (n + 1, l) w (step s (n + 1, l) w) a b × (r ≡ (step s (n + 1, l) w).result) × (u ≡ (step s (n + 1, l) w).after)

module _ {N : Type 0} (state : N → DeviceState) (bench : N → BenchState) where
  -- a line that may be missing was played, whatever its number; without a line nothing has changed
  abbrev pub PlaysLine : Player N → Option DeckLine → Option Answer → Player N → Type 0
  PlaysLine p None answer q = q ≡ p
  PlaysLine p (Some l) answer q = (s : State) (n : ℕ) → IsPlayerAt state bench p s → (w : Option FailedWrite) × Stepped state bench p s (n, l) w (step s (n, l) w) answer q

  -- a frame with this meaning was served: its line was played, and its answer was written, completely or up to a fault
  pub record ServesFrame (p : Player N) (s : State) (n : ℕ) (m : Meaning) (x : Sunk) (result : Result (Unit {0}) WriteFault) (q : Player N) (y : Sunk) : Type 0 where
    pub after : State
    pub at : IsPlayerAt state bench q after
    pub reported : Option LineResult
    pub moves : Moves s n (line_in m) (bench_of state bench p) reported after (bench_of state bench q)
    pub puts : Puts x (answer_frame (answer_to m reported)) result y

-- ---- frames

-- frames were served from a state of a play, by whether the card has power before them, their lines with numbers after
-- n and with these failed writes, and these are their answers
pub record ServedFrames (s : State) (n : ℕ) (powered : Bool) (fs : List (List ℕ)) (worn : List (Option FailedWrite)) (a : Bench) (os : List (Option (List ℕ))) (b : Bench) : Type 0 where
  pub played : Played s (lines_of n powered fs) worn a b
  pub answers : os ≡ answer_each powered fs (plays s (lines_of n powered fs) worn)

-- the moment after these frames, which were served from a state of a play with the first of these failed writes, on a
-- bench and with a sink as given
pub record IsServedMoment (s : State) (n : ℕ) (worn : List (Option FailedWrite)) (a : Bench) (x : Sunk) (fs : List (List ℕ)) (m : Moment) : Type 0 where
  pub first : List (Option FailedWrite)
  pub later : List (Option FailedWrite)
  pub parts : worn ≡ first ++ later
  pub answers : List (Option (List ℕ))
  pub served : ServedFrames s n false fs first a answers m.dev
  pub written : AnswersWritten x answers m.out

-- the frames of an input were served from a state of a play, up to the end of the input or up to a fault
pub record ServedFrom (s : State) (n : ℕ) (result : Result (Unit {0}) ServeError) (a : AroundSession) : Type 0 where
  pub frames : List (List ℕ)
  pub part : List ℕ
  pub taken : List ℕ
  pub took : Took a.left_old a.left taken
  pub read : frames_read taken ≡ (frames, part)
  pub bytes : AllByRecursion AreBytes frames
  pub counted : a.reads_old ≤ a.reads
  pub answers : List (Option (List ℕ))
  pub worn : List (Option FailedWrite)
  pub served : ServedFrames s n false frames worn a.dev_old answers a.dev
  pub moments : List Moment
  pub recorded : Records a.asked_old moments a.asked
  pub each : AreMoments (IsServedMoment s n worn a.dev_old a.out_old) [] frames moments
  pub ends : EndsBy frames part answers result a
