-- A deck played on a device from the words that it holds: its text, the words and counts that it leaves, and the failed
-- writes that account for all of it.
use Rattle.std.specs.Prelude.{◌≡◌, ℕ, ◌<◌, true, false, List, [], ◌∷◌, ◌++◌, length, drop, Option, Result, Ok, Err}
use Rattle.model_play.specs.model_device.specs.Counts.{Rose}
use Rattle.model_play.specs.model_device.specs.Device.{DeviceState, BenchState, Entry, GrowsBy}
use Rattle.model_play.specs.DeckGrammar.{DeckLine}
use Rattle.model_play.specs.Play.{State, FailedWrite, Step, armed_stop_in, step, plays, start, first_failure, last_state, Possible, StandsForState, steady_failures, chunk, failures_of_tape, Accounts, MayHit, moves_of, steady_at, failures_in, words_left, AccountsForLine}
use Rattle.model_play.specs.Laws.{HoldsOf}
use Rattle.model_play.specs.ReadyAgain.{AllFitJournal, ReadyAgain}
pub use Rattle.model_play.specs.Transcript.{plain_text, texts}
pub use Rattle.model_play.specs.TraceText.{traced_text}
use Rattle.mc_streams.specs.Streams.{Grew}
use Rattle.mc_streams.specs.declared.refusals.WriteFault.{WriteFault}
use Rattle.mc_script.specs.Counting.{on_after, on_at_end, LineCounts, PlayCounts}
use Rattle.mc_script.specs.Players.{IsUnfused}
use Rattle.mc_text.specs.Texts.{Sunk, Puts, Writes}

-- a device and its bench at one moment
pub record Bench : Type 0 where
  pub device : DeviceState
  pub bench : BenchState

-- ---- one line that was played

-- the tape of a line with this step: its entries account for it, record its failed write, and leave the words, whether
-- the device records them or not
pub record StepTape (s : State) (l : ℕ × DeckLine) (w : Option FailedWrite) (t : Step) (d e : DeviceState) : Type 0 where
  pub entries : List Entry
  pub grows : GrowsBy d.tape entries e.tape
  pub accounts : AccountsForLine d.words s l t entries
  pub worn : failures_in 0 entries ≡ w
  pub left : words_left d.words entries t.after ≡ e.words

-- A line was played on a bench as this step, with this failed write, if it had one: the calls of the bench, the power
-- and the words after it are those of the line.
pub record PlayedLine (s : State) (l : ℕ × DeckLine) (w : Option FailedWrite) (t : Step) (a b : Bench) : Type 0 where
  pub may : MayHit s l w
  pub counts : LineCounts a.bench a.device t b.bench b.device
  pub power : b.device.on ≡ on_after a.device.on t.line t.stop
  pub steady : a.bench.steady ≡ true → w ≡ steady_at (armed_stop_in s) l.1 (moves_of s l)
  pub tape : StepTape s l w t a.device b.device

-- ---- lines that were played

-- the words after lines that were played: those of the play after a line before the first power line, and from there on
-- the words before a line with the line's entries laid over them
abbrev pub words_after : List (List ℕ) → State → List (ℕ × DeckLine) → List (Option FailedWrite) → List Entry → List (List ℕ)
words_after m s [] ws t = m
words_after m s (l ∷ ls) ws t =
    let u = step s l (first_failure ws) in
    let c = chunk (moves_of s l) t in
    words_after (words_left m c.0 u.after) u.after ls (drop 1 ws) c.1

-- the tape of lines: its entries account for each of them, record the failed writes, and leave the words, whether the
-- device records them or not
pub record PlayTape (s : State) (ls : List (ℕ × DeckLine)) (ws : List (Option FailedWrite)) (d e : DeviceState) : Type 0 where
  pub entries : List Entry
  pub grows : GrowsBy d.tape entries e.tape
  pub worn : ws ≡ failures_of_tape s ls entries
  pub accounts : Accounts d.words s ls ws entries
  pub left : words_after d.words s ls ws entries ≡ e.words

-- lines that were played one after the other, each on the bench as the line before it left it
abbrev pub PlayedInTurn : State → List (ℕ × DeckLine) → List (Option FailedWrite) → Bench → Bench → Type 0
PlayedInTurn s [] ws a b = a ≡ b
PlayedInTurn s (l ∷ ls) ws a b =
    let w = first_failure ws in
    let t = step s l w in
    (m : Bench) × PlayedLine s l w t a m × PlayedInTurn t.after ls (drop 1 ws) m b

-- Lines played from a state with the given failed writes: one list of them accounts for the words, the counts, the
-- power and the tape together, line by line and in sum. A stop that was armed and hit no line remains with the player,
-- and no fuse is left to the device.
pub record Played (s : State) (ls : List (ℕ × DeckLine)) (ws : List (Option FailedWrite)) (a b : Bench) : Type 0 where
  pub possible : Possible s ls ws
  pub words : StandsForState b.device.words (last_state s (plays s ls ws))
  pub counts : PlayCounts a.bench a.device (armed_stop_in s) (plays s ls ws) b.bench b.device
  pub steady : a.bench.steady ≡ true → ws ≡ steady_failures s ls
  pub power : b.device.on ≡ on_at_end a.device.on (plays s ls ws)
  pub tape : PlayTape s ls ws a.device b.device
  pub in_turn : PlayedInTurn s ls ws a b
  pub unfused : IsUnfused b.bench

-- Lines were played from a state with the given failed writes, up to another state: a play of more lines from there is,
-- with these lines before it, a play from the first state.
pub record LeadsTo (s : State) (ls : List (ℕ × DeckLine)) (ws : List (Option FailedWrite)) (a : Bench) (u : State) (b : Bench) : Type 0 where
  pub many : length ws ≡ length ls
  pub last : u ≡ last_state s (plays s ls ws)
  pub rest : (ks : List (ℕ × DeckLine)) (vs : List (Option FailedWrite)) (c : Bench) → Played u ks vs b c → Played s (ls ++ ks) (ws ++ vs) a c

-- ---- their text

-- The last line is the first whose text is not wholly written: the texts before it were, and a front of its own.
pub record CutText (f : Step → List ℕ) (a : Sunk) (ts : List Step) (b : Sunk) : Type 0 where
  pub before : List Step
  pub last : Step
  pub are : ts ≡ before ++ last ∷ []
  pub front : List ℕ
  pub back : List ℕ
  pub parts : f last ≡ front ++ back
  pub some_left : 0 < length back
  pub written : Grew a.taken b.taken (texts f before ++ front)
  pub cause : Rose a.faults b.faults

-- the lines that were played, and what was written of their text: all lines by calls none of which failed, or those up
-- to the first whose text is not wholly written
abbrev pub PlayEnds : (Step → List ℕ) → Sunk → List (ℕ × DeckLine) → List Step → Result (Unit {0}) WriteFault → Sunk → Type 0
PlayEnds f a rest ts (Ok u) b = (rest ≡ []) × Writes a (texts f ts) b
PlayEnds f a rest ts (Err e) b = CutText f a ts b

-- ---- calls

-- lines played from a state, with their text
pub record PlaysFrom (f : Step → List ℕ) (s : State) (ls : List (ℕ × DeckLine)) (a : Bench) (x : Sunk) (result : Result (Unit {0}) WriteFault) (b : Bench) (y : Sunk) : Type 0 where
  pub lines : List (ℕ × DeckLine)
  pub rest : List (ℕ × DeckLine)
  pub are : ls ≡ lines ++ rest
  pub worn : List (Option FailedWrite)
  pub played : Played s lines worn a b
  pub text : PlayEnds f x rest (plays s lines worn) result y

-- A deck played on a device, with its text. Every closed family of applications gets the same answers and holds the
-- same bytes as on a card of its own, each line leaves the card with its whole items, and no new application has a
-- stale byte. Each item fits a journal, and a card that was found or formatted is found by every later power line that
-- no stop hits.
pub record PlaysDeck (f : Step → List ℕ) (ls : List (ℕ × DeckLine)) (a : Bench) (x : Sunk) (result : Result (Unit {0}) WriteFault) (b : Bench) (y : Sunk) : Type 0 where
  pub from : PlaysFrom f (start a.device.words) ls a x result b y
  pub laws : HoldsOf a.device.words (plays (start a.device.words) from.lines from.worn)
  pub few : AllFitJournal (plays (start a.device.words) from.lines from.worn)
  pub ready : ReadyAgain false (plays (start a.device.words) from.lines from.worn)

-- A deck played on a device, and a text of the whole play, with the laws of a played deck.
pub record SumsDeck (f : List Step → List ℕ) (ls : List (ℕ × DeckLine)) (a : Bench) (x : Sunk) (result : Result (Unit {0}) WriteFault) (b : Bench) (y : Sunk) : Type 0 where
  pub worn : List (Option FailedWrite)
  pub played : Played (start a.device.words) ls worn a b
  pub laws : HoldsOf a.device.words (plays (start a.device.words) ls worn)
  pub few : AllFitJournal (plays (start a.device.words) ls worn)
  pub ready : ReadyAgain false (plays (start a.device.words) ls worn)
  pub text : Puts x (f (plays (start a.device.words) ls worn)) result y
