-- The relations of players and of their lines by the bench below as a whole, as contracts cite them. Each is that of
-- the same name in `Players`, `Lines`, `StepCounts` or `Sums`, which lemmas cite by the functions of the bench.
use Rattle.std.specs.Prelude.{ℕ, List, Option}
use Rattle.model_play.specs.model_device.specs.Device.{BenchState, DeviceState}
use Rattle.model_play.specs.model_device.specs.Orders as write
use Rattle.model_play.specs.model_machine.specs.Chain.{Turn}
use Rattle.model_play.specs.DeckGrammar.{DeckLine}
use Rattle.model_play.specs.Play.{State}
use Rattle.mc_script.specs.declared.answer.Answer.{Answer}
use Rattle.mc_script.specs.declared.player.Player.{Player}
use Rattle.mc_script.specs.declared.summary.Counts.{Counts}
use Rattle.mc_script.specs.Lines as lines
use Rattle.mc_script.specs.Players as players
use Rattle.mc_script.specs.Plays.{Bench}
use Rattle.mc_script.specs.StepCounts as steps
use Rattle.mc_script.specs.Sums as sums

-- ---- benches

-- the members of the trait `Bench`, those of its device first
abbrev pub BenchMembers : Type 0 → Type 1
BenchMembers N = record { state : N → DeviceState; wrote : N → ℕ → List ℕ → write.Answer → N → Type 0; same : N → N → Type 0; bench : N → BenchState }

-- the bench that a device is
abbrev pub bench_at : {N : Type 0} → BenchMembers N → N → Bench
bench_at n d = record { device = n.state d; bench = n.bench d }

-- the bench of a player
abbrev pub bench_of : {N : Type 0} → BenchMembers N → Player N → Bench
bench_of n = lines.bench_of n.state n.bench

-- ---- players

-- a player is at a state of a play
abbrev pub IsPlayerAt : {N : Type 0} → BenchMembers N → Player N → State → Type 0
IsPlayerAt n = players.IsPlayerAt n.state n.bench

-- a player is at some state of a play
abbrev pub IsPlaying : {N : Type 0} → BenchMembers N → Player N → Type 0
IsPlaying n = players.IsPlaying n.state n.bench

-- ---- lines

-- a line without turns of a player at a state of a play, whatever its number
abbrev pub SilentDone : {N : Type 0} → BenchMembers N → Player N → DeckLine → Option Answer → Player N → Type 0
SilentDone n = lines.SilentDone n.state n.bench

-- a line of a player at a state of a play, whatever its number, and what was recorded of its turns
abbrev pub LineDone : {N R : Type 0} → BenchMembers N → (R → List Turn → R → Type 0) → Player N → DeckLine → R → R → Option Answer → Player N → Type 0
LineDone n = lines.LineDone n.state n.bench

-- the steps of a line of a player at a state of a play
abbrev pub CountsLine : {N : Type 0} → BenchMembers N → Player N → DeckLine → Option Answer → ℕ → ℕ → Type 0
CountsLine n = steps.CountsLine n.state n.bench

-- ---- decks

-- all lines were played from a state
abbrev pub DeckPlayed : {N : Type 0} → BenchMembers N → Player N → State → List (ℕ × DeckLine) → Player N → Type 0
DeckPlayed n = lines.DeckPlayed n.state n.bench

-- all lines were played, and their results and steps were counted
abbrev pub Tallied : {N : Type 0} → BenchMembers N → State → List (ℕ × DeckLine) → Bench → Player N → Counts → ℕ → ℕ → Type 0
Tallied n = sums.Tallied n.state n.bench
