-- The chain before each turn of a line that was played.
use Rattle.std.specs.Prelude.{ℕ, List, [], length, take}
use Rattle.mc_words.specs.model_device.specs.PowerUp.{Base, OnCard, AtFault}
use Rattle.mc_text.specs.model_machine.specs.Chain.{Chain}
use Rattle.mc_deck.specs.model_play.specs.DeckGrammar.{DeckLine}
use Rattle.mc_deck.specs.model_play.specs.DeckGrammar as line
use Rattle.mc_deck.specs.model_play.specs.Play.{State, BeforePower, AfterPower, Live, Running, Unpowered, Muted, Step}
use Rattle.mc_deck.specs.model_play.specs.TraceText.{shown_turns}
use Rattle.desk_draft.specs.FullTurns.{FullTurn}
use Rattle.mc_script.specs.Runs.{line_bytes}
use Rattle.mc_script.specs.Watching.{seen_of}
use Rattle.desk_cover.specs.Watching.{full_turn_of}

-- a chain before a turn, with this much of the budget left
pub record Moment : Type 0 where
  pub left : ℕ
  pub chain : Chain

-- the moment of a chain
abbrev pub moment : ℕ → Chain → Moment
moment n ch = record { left = n; chain = ch }

-- the full turn of a moment
abbrev pub full_of : Moment → FullTurn
full_of x = full_turn_of x.left x.chain

-- the moments of a line where a card runs: those of the command that the line sends, if no stop hits it
abbrev pub moments_of_live : Live → Base → ℕ → DeckLine → List Moment
moments_of_live (Running s) (OnCard c) budget l = seen_of moment (record { card = c; session_state = s; bytes = line_bytes l; budget = budget })
moments_of_live (Running s) (AtFault cause p) budget l = []
moments_of_live Unpowered base budget l = []
moments_of_live Muted base budget l = []

-- the moments of a line in a state
unfoldable pub moments_of_line : State → DeckLine → List Moment
moments_of_line (BeforePower m b a) l = []
moments_of_line (AfterPower s) l = moments_of_live s.live s.base s.budget l

-- the moments of a line that was played, up to the turn in which a stop hit it
unfoldable pub moments_of_step : Step → List Moment
unfolding moments_of_line
moments_of_step t = take (length (shown_turns t.turns t.stop)) (moments_of_line t.before t.line)

-- the command of a line to an application: its first 1,040 bytes; no longer one reaches an application
abbrev pub command_of : DeckLine → List ℕ
command_of (line.Sent (line.Apdu b)) = take 1040 b
command_of _ = []
