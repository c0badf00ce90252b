-- The summary of a play: its counts, and the results of the dump lines, which are last.
use Rattle.std.specs.Prelude.{◌≡◌, ℕ, true, List, [], ◌∷◌, ◌++◌, length, codes, Option, Some, None, Result}
use Rattle.std.specs.List.{AllByRecursion}
use Rattle.model_play.specs.DeckGrammar.{DeckLine}
use Rattle.model_play.specs.DeckGrammar as line
use Rattle.model_play.specs.Play.{State, FailedWrite, LineResult, Step, plays, last_state, step}
use Rattle.model_play.specs.Transcript.{text_of_result}
use Rattle.model_play.specs.Generator.{is_reply, is_abend, is_cut, is_off, is_ready, is_dump, results, count}
use Rattle.model_play.specs.model_device.specs.Device.{DeviceState, BenchState}
use Rattle.mc_streams.specs.declared.refusals.WriteFault.{WriteFault}
use Rattle.mc_text.specs.Texts.{Sunk, Puts}
use Rattle.mc_script.specs.declared.summary.Counts.{Counts}
use Rattle.mc_script.specs.declared.player.Player.{Player}
use Rattle.mc_script.specs.Players.{IsPlayerAt}
use Rattle.mc_script.specs.Plays.{Bench, Played}
use Rattle.mc_script.specs.Lines.{bench_of}
use Rattle.mc_script.specs.StepCounts.{PlaySteps}

-- ---- counts

-- the counts of a list of results
pub record Counted (c : Counts) (rs : List LineResult) : Type 0 where
  pub lines : c.lines ≡ length rs
  pub replies : c.replies ≡ count is_reply rs
  pub abends : c.abends ≡ count is_abend rs
  pub cuts : c.cuts ≡ count is_cut rs
  pub offs : c.offs ≡ count is_off rs
  pub readies : c.readies ≡ count is_ready rs

-- the list of a result, empty if there is none
abbrev pub result_list : Option LineResult → List LineResult
result_list None = []
result_list (Some r) = r ∷ []

-- ---- dump lines

-- after a dump line there are only dump lines
abbrev pub DumpsLast : List (ℕ × DeckLine) → Type 0
DumpsLast [] = Unit {0}
DumpsLast (l ∷ ls) = (is_dump l.1 ≡ true → AllByRecursion (λ k. is_dump k.1 ≡ true) ls) × DumpsLast ls

-- the text of a result on a line of its own
abbrev pub result_line : Option LineResult → List ℕ
result_line None = []
result_line (Some r) = text_of_result r ++ codes "\n"

-- the text of the result of a dump line in a state, on a line of its own
abbrev pub dump_text : State → DeckLine → List ℕ
dump_text s (line.Dump aid) = result_line (step s (0, line.Dump aid) None).result
dump_text s _ = []

-- the text of the results of all dump lines
abbrev pub dumps_text : State → List (ℕ × DeckLine) → List ℕ
dumps_text s [] = []
dumps_text s (l ∷ ls) = dump_text s l.1 ++ dumps_text s ls

-- ---- whole plays

module _ {N : Type 0} (state : N → DeviceState) (bench : N → BenchState) where
  -- all lines were played, and their results and steps were counted
  pub record Tallied (s : State) (ls : List (ℕ × DeckLine)) (a : Bench) (p : Player N) (c : Counts) (old new : ℕ) : Type 0 where
    pub worn : List (Option FailedWrite)
    pub played : Played s ls worn a (bench_of state bench p)
    pub at : IsPlayerAt state bench p (last_state s (plays s ls worn))
    pub counted : Counted c (results (plays s ls worn))
    pub steps : PlaySteps (plays s ls worn) old new

-- lines were played from a state, and a text of the whole play was written
pub record SumsFrom (f : List Step → List ℕ) (s : State) (ls : List (ℕ × DeckLine)) (a : Bench) (x : Sunk) (result : Result (Unit {0}) WriteFault) (b : Bench) (y : Sunk) (old new : ℕ) : Type 0 where
  pub worn : List (Option FailedWrite)
  pub played : Played s ls worn a b
  pub steps : PlaySteps (plays s ls worn) old new
  pub text : Puts x (f (plays s ls worn)) result y
