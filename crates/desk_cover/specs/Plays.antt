-- Plays of a draft's deck before a watcher, and what is written of them.
use Rattle.std.specs.Prelude.{◌≡◌, ℕ, ◌≤◌, List, length, flat_map, Option, Result, Ok, Err}
use Rattle.mc_deck.specs.model_play.specs.DeckGrammar.{DeckLine}
use Rattle.mc_deck.specs.model_play.specs.Play.{State, FailedWrite, plays, start}
use Rattle.mc_streams.specs.declared.refusals.WriteFault.{WriteFault}
use Rattle.mc_text.specs.Texts.{Sunk}
use Rattle.desk_draft.specs.FullTurns.{turns_of_step}
use Rattle.desk_draft.specs.Listings.{Source}
use Rattle.desk_draft.specs.Coverage.{coverage}
use Rattle.mc_script.specs.declared.job.JobFault.{JobFault}
use Rattle.mc_script.specs.declared.job.JobFault.TheVariants as fault
use Rattle.mc_script.specs.Plays.{Bench, Played, SumsDeck}
use Rattle.desk_cover.specs.declared.covering.Counter.{Counter}
use Rattle.desk_cover.specs.Counting.{Counted, most_count}

-- ---- counts

-- all lines were played from a state before a counter, which counted their turns
pub record CountsPlay (s : State) (ls : List (ℕ × DeckLine)) (a b : Bench) (q r : Counter) : Type 0 where
  pub worn : List (Option FailedWrite)
  pub played : Played s ls worn a b
  pub counted : Counted q (flat_map turns_of_step (plays s ls worn)) r

-- A deck was played, and a text put: the record of the play for a file, under the sections of a draft, unless more turns
-- ran than can be counted.
pub record CoversDeck (name : List ℕ) (ss : List Source) (ls : List (ℕ × DeckLine)) (a : Bench) (x : Sunk) (result : Result (Unit {0}) WriteFault) (b : Bench) (y : Sunk) : Type 0 where
  pub text : List ℕ
  pub sums : SumsDeck (λ ts. text) ls a x result b y
  pub covers : let ts = plays (start a.device.words) ls sums.worn in length (flat_map turns_of_step ts) ≤ most_count → text ≡ coverage name ss ts

-- nothing was played, and nothing written
pub record CoversNothing (a : Bench) (x : Sunk) (b : Bench) (y : Sunk) : Type 0 where
  pub bench : b ≡ a
  pub sink : y ≡ x

-- a deck by the result of its record
abbrev pub CoversBy : List ℕ → List Source → List (ℕ × DeckLine) → Bench → Sunk → Result (Unit {0}) JobFault → Bench → Sunk → Type 0
CoversBy name ss ls a x (Ok u) b y = CoversDeck name ss ls a x (Ok tt) b y
CoversBy name ss ls a x (Err fault.WriteFault) b y = (f : WriteFault) × CoversDeck name ss ls a x (Err f) b y
CoversBy name ss ls a x (Err fault.NoMemory) b y = CoversNothing a x b y
