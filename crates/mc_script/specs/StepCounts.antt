-- The number of steps of a command, of a line and of a play: one for each executed instruction, and those of the search
-- of an OPEN.
use Rattle.std.specs.Prelude.{◌≡◌, ℕ, ◌+◌, ◌≤◌, Bool, true, false, cond, ◌&&◌, ◌==◌, List, [], ◌∷◌, length, Option, Some, None, Result}
use Rattle.std.specs.List.{AllByRecursion}
use Rattle.model_play.specs.model_device.specs.Card.{Card}
use Rattle.model_play.specs.model_device.specs.Device.{DeviceState, BenchState}
use Rattle.model_play.specs.model_device.specs.Layout.{gaps}
use Rattle.model_play.specs.model_device.specs.PowerUp.{Base, OnCard}
use Rattle.model_play.specs.model_machine.specs.declared.instruction.Ins.{Ins}
use Rattle.model_play.specs.model_machine.specs.Chain.{Turn}
use Rattle.model_play.specs.DeckGrammar.{DeckLine}
use Rattle.model_play.specs.DeckGrammar as line
use Rattle.model_play.specs.Play.{Live, Running, State, BeforePower, AfterPower, Step, line_command, plays, start}
use Rattle.mc_streams.specs.declared.refusals.WriteFault.{WriteFault}
use Rattle.mc_text.specs.Texts.{Sunk}
use Rattle.mc_script.specs.declared.answer.Answer.{Answer}
use Rattle.mc_script.specs.declared.answer.Answer.TheVariants as answer
use Rattle.mc_script.specs.declared.player.Player.{Player}
use Rattle.mc_script.specs.Players.{IsPlayerAt}
use Rattle.mc_script.specs.Counting.{total}
use Rattle.mc_script.specs.Plays.{Bench, PlaysFrom, PlaysDeck, SumsDeck}

-- ---- instructions

-- 1 for a turn that decoded an instruction, and 0 for one that did not
abbrev pub count_of_decoded : Option Ins → ℕ
count_of_decoded None = 0
count_of_decoded (Some i) = 1

-- the number of instructions that turns executed
abbrev pub instructions : List Turn → ℕ
instructions [] = 0
instructions (t ∷ ts) = count_of_decoded t.ins + instructions ts

-- ---- searches

-- whether a command is an OPEN: class BE, instruction 12
abbrev pub is_open_command : List ℕ → Bool
is_open_command (cla ∷ ins ∷ b) = cla == 0xBE && ins == 0x12
is_open_command _ = false

-- the most steps of a search for room on a card: two more than it has gaps
abbrev pub most_search : Card → ℕ
most_search c = 2 + length (gaps c)

-- the most steps of a command's search for room: an OPEN alone makes one
abbrev pub command_search : Card → List ℕ → ℕ
command_search c b = cond (is_open_command b) (most_search c) 0

-- none but the first of some commands is an OPEN
abbrev pub OnlyFirstOpens : List (List ℕ) → Type 0
OnlyFirstOpens [] = Unit {0}
OnlyFirstOpens (b ∷ bs) = AllByRecursion (λ c. is_open_command c ≡ false) bs

-- the most steps of the search of commands of which none but the first is an OPEN
abbrev pub first_search : Card → List (List ℕ) → ℕ
first_search c [] = 0
first_search c (b ∷ bs) = command_search c b

-- ---- steps

-- the steps of what executes n instructions and searches in k steps at the most: n of them at least, unless a stop
-- ended it
pub record StepsOf (n k : ℕ) (stopped : Bool) (old new : ℕ) : Type 0 where
  pub least : stopped ≡ false → old + n ≤ new
  pub most : new ≤ old + (n + k)

-- ---- lines

-- the most steps of the search of a line on a card that runs
abbrev pub line_search : Card → DeckLine → ℕ
line_search c (line.Sent (line.Load u fixed session)) = most_search c
line_search c (line.Sent (line.Apdu b)) = command_search c b
line_search c _ = 0

-- the most steps of the search of a line, by whether a card runs
abbrev pub search_on : Live → Base → DeckLine → ℕ
search_on (Running session_state) (OnCard c) l = line_search c l
search_on live base l = 0

-- the most steps of the search of a line in a state
abbrev pub search_in : State → DeckLine → ℕ
search_in (BeforePower m b a) l = 0
search_in (AfterPower w) l = search_on w.live w.base l

-- the number of instructions of a line's commands, by whether a card runs
abbrev pub instructions_on : Live → Base → ℕ → DeckLine → ℕ
instructions_on (Running session_state) (OnCard c) budget l = instructions (line_command c session_state budget l).turns
instructions_on live base budget l = 0

-- the number of instructions of a line's commands in a state, if no stop hits it
abbrev pub instructions_in : State → DeckLine → ℕ
instructions_in (BeforePower m b a) l = 0
instructions_in (AfterPower w) l = instructions_on w.live w.base w.budget l

-- whether a line was answered by the stop that hit it
abbrev pub is_stopped : Option Answer → Bool
is_stopped (Some (answer.OffAt k)) = true
is_stopped (Some answer.Worn) = true
is_stopped _ = false

-- the steps of a line that was played in a state, by its answer
abbrev pub LineSteps : State → DeckLine → Option Answer → ℕ → ℕ → Type 0
LineSteps s l a old new = StepsOf (instructions_in s l) (search_in s l) (is_stopped a) old new

-- the steps of a line of a player at a state of a play
abbrev pub CountsLine : {N : Type 0} → (N → DeviceState) → (N → BenchState) → Player N → DeckLine → Option Answer → ℕ → ℕ → Type 0
CountsLine state bench p l a old new = (s : State) → IsPlayerAt state bench p s → LineSteps s l a old new

-- ---- plays

-- the steps of lines that were played: those of their instructions, and at the most those of their searches; fewer only
-- if a stop hit a line
pub record PlaySteps (ts : List Step) (old new : ℕ) : Type 0 where
  pub least : AllByRecursion (λ t. t.stop ≡ None) ts → old + total (λ t. instructions t.turns) ts ≤ new
  pub most : new ≤ old + total (λ t. instructions t.turns + search_in t.before t.line) ts

-- lines played from a state, with their text and their steps
pub record CountsFrom (f : Step → List ℕ) (s : State) (ls : List (ℕ × DeckLine)) (a : Bench) (x : Sunk) (result : Result (Unit {0}) WriteFault) (b : Bench) (y : Sunk) (old new : ℕ) : Type 0 where
  pub from : PlaysFrom f s ls a x result b y
  pub steps : PlaySteps (plays s from.lines from.worn) old new

-- a deck played on a device, with its text and its steps
pub record CountsDeck (f : Step → List ℕ) (ls : List (ℕ × DeckLine)) (a : Bench) (x : Sunk) (result : Result (Unit {0}) WriteFault) (b : Bench) (y : Sunk) (old new : ℕ) : Type 0 where
  pub deck : PlaysDeck f ls a x result b y
  pub steps : PlaySteps (plays (start a.device.words) deck.from.lines deck.from.worn) old new

-- a deck played on a device, with a text of the whole play and its steps
pub record CountsSum (f : List Step → List ℕ) (ls : List (ℕ × DeckLine)) (a : Bench) (x : Sunk) (result : Result (Unit {0}) WriteFault) (b : Bench) (y : Sunk) (old new : ℕ) : Type 0 where
  pub deck : SumsDeck f ls a x result b y
  pub steps : PlaySteps (plays (start a.device.words) ls deck.worn) old new
