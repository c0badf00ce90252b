-- The result of a command on a card, the write at which it stopped, and its recorded turns.
use Rattle.std.specs.Prelude.{ℕ, ◌-◌, ◌≤◌, List, [], length, take, slice_index_or, Result, Ok, Err}
use Rattle.model_play.specs.model_device.specs.declared.device.Stop.{Stop}
use Rattle.model_play.specs.model_device.specs.Orders.{Answer}
use Rattle.model_play.specs.model_device.specs.Device.{DeviceState, Makes}
use Rattle.model_play.specs.model_device.specs.Card as model
use Rattle.model_play.specs.model_machine.specs.Chain.{Turn}
use Rattle.model_play.specs.model_card.specs.Commands.{Command}
use Rattle.model_play.specs.model_card.specs.Manager.{SessionState}
use Rattle.model_play.specs.DeckGrammar.{DeckLine}
use Rattle.model_play.specs.DeckGrammar as line
use Rattle.model_play.specs.Play.{select_bytes, delete_bytes}
use Rattle.model_play.specs.TraceText.{before_stop}
use Rattle.mc_machine.specs.declared.outcome.Outcome.{Outcome}
use Rattle.mc_card.specs.declared.card.Card.{Card}
use Rattle.mc_card.specs.Parts.{device_in, card_in, session_state_in}
use Rattle.mc_card.specs.Ends.{Commanded}
use Rattle.mc_script.specs.declared.player.Player.{Player}

-- ---- what a command is sent to

-- a command with the card and the session state that it meets, and its budget
pub record SentCommand : Type 0 where
  pub card : model.Card
  pub session_state : SessionState
  pub bytes : List ℕ
  pub budget : ℕ

-- the bytes of the command of a line, none of a load, whose commands are several and run no application, and of a line
-- that sends none
abbrev pub line_bytes : DeckLine → List ℕ
line_bytes (line.Sent (line.Select n)) = select_bytes n
line_bytes (line.Sent (line.Delete n)) = delete_bytes n
line_bytes (line.Sent (line.Apdu b)) = b
line_bytes _ = []

module _ {N : Type 0} (state : N → DeviceState) where
  -- a command that is sent to a card
  abbrev pub sent_to : Card N → List ℕ → ℕ → SentCommand
  sent_to c bytes budget = record { card = card_in state c; session_state = session_state_in state c; bytes = bytes; budget = budget }

  -- the command of a line of a player
  abbrev pub sent_by : Player N → DeckLine → SentCommand
  sent_by p l = sent_to p.card (line_bytes l) p.budget

-- ---- runs

-- the writes of a list before one of them were done, and that one stopped; they are counted from 1
pub record StoppedAtWrite {D : Type 0} (wrote : D → ℕ → List ℕ → Answer → D → Type 0) (d : D) (ws : List (ℕ × List ℕ)) (k : ℕ) (s : Stop) (e : D) : Type 0 where
  pub low : 1 ≤ k
  pub high : k ≤ length ws
  pub middle : D
  pub before : Makes wrote d (take (k - 1) ws) (Ok tt) middle
  pub stopped : wrote middle (slice_index_or ws (k - 1) (0, [])).0 (slice_index_or ws (k - 1) (0, [])).1 (Err s) e

module _ {N R : Type 0} (state : N → DeviceState) (wrote : N → ℕ → List ℕ → Answer → N → Type 0) (reported : R → List Turn → R → Type 0) where
  -- the turns of a command that the runner records: all, or those before the write that stopped
  abbrev pub ReportsTurns : Card N → List (ℕ × List ℕ) → List Turn → Result Outcome Stop → Card N → R → R → Type 0
  ReportsTurns c ws ts (Ok o) d q r = reported q ts r
  ReportsTurns c ws ts (Err s) d q r = (k : ℕ) × StoppedAtWrite wrote (device_in c) ws k s (device_in d) × reported q (before_stop ts k) r

  -- a command that was run, and whose turns were recorded
  pub record RanAndReported (c : Card N) (r : Command) (result : Result Outcome Stop) (d : Card N) (before after : R) : Type 0 where
    pub commanded : Commanded state wrote c r result d
    pub reports : ReportsTurns c commanded.made.writes r.turns result d before after
