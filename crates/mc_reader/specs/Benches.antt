-- The relations of a session's lines and frames by the bench of its player as a whole, as contracts cite them. Each is
-- that of the same name in `Serving`, which lemmas cite by the functions of the bench.
use Rattle.std.specs.Prelude.{ℕ, Option, Result}
use Rattle.mc_deck.specs.model_play.specs.DeckGrammar.{DeckLine}
use Rattle.mc_deck.specs.model_play.specs.Play.{State}
use Rattle.mc_streams.specs.declared.refusals.WriteFault.{WriteFault}
use Rattle.mc_text.specs.Texts.{Sunk}
use Rattle.mc_script.specs.declared.answer.Answer.{Answer}
use Rattle.mc_script.specs.declared.player.Player.{Player}
use Rattle.mc_script.specs.Benches.{BenchMembers}
use Rattle.mc_reader.specs.Meanings.{Meaning}
use Rattle.mc_reader.specs.Serving as serving

-- a line that may be missing was played, whatever its number; without a line nothing has changed
abbrev pub PlaysLine : {N : Type 0} → BenchMembers N → Player N → Option DeckLine → Option Answer → Player N → Type 0
PlaysLine n = serving.PlaysLine n.state n.bench

-- a frame with this meaning was served
abbrev pub ServesFrame : {N : Type 0} → BenchMembers N → Player N → State → ℕ → Meaning → Sunk → Result (Unit {0}) WriteFault → Player N → Sunk → Type 0
ServesFrame n = serving.ServesFrame n.state n.bench
