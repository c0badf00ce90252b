-- The relations of the laboratory's plays by the bench of their player as a whole, as contracts cite them. Each is that
-- of the same name in `Stages` or `SweepPlayers`, which lemmas cite by the functions of the bench.
use Rattle.std.specs.Prelude.{ℕ, Bool, List, Option}
use Rattle.law_explore.specs.model_play.specs.DeckGrammar.{DeckLine}
use Rattle.law_explore.specs.model_device.specs.Card.{Card}
use Rattle.law_explore.specs.model_play.specs.Play.{State, Step}
use Rattle.mc_script.specs.declared.answer.Answer.{Answer}
use Rattle.mc_script.specs.declared.player.Player.{Player}
use Rattle.mc_script.specs.Benches.{BenchMembers}
use Rattle.mc_lab.specs.declared.sweep_trial.TrialLines.{TrialLines}
use Rattle.mc_lab.specs.Stages as stages
use Rattle.mc_lab.specs.SweepPlayers as players

-- the first lines were played on a steady bench, as steps of the whole play, with the result of the last of them
abbrev pub Staged : {N : Type 0} → BenchMembers N → List Step → List (ℕ × DeckLine) → Player N → ℕ → List ℕ → Type 0
Staged n = stages.Staged n.state n.bench

-- a player represents a state, and its bench refuses no write by itself
abbrev pub IsSteadyAt : {N : Type 0} → BenchMembers N → Player N → State → Type 0
IsSteadyAt n = players.IsSteadyAt n.state n.bench

-- a card of these words runs after a power line that made no write, with this budget
abbrev pub IsPoweredUp : {N : Type 0} → BenchMembers N → Player N → List (List ℕ) → ℕ → Card → Type 0
IsPoweredUp n = players.IsPoweredUp n.state n.bench

-- a line was played from a state, with its result
abbrev pub LineOn : {N : Type 0} → BenchMembers N → State → ℕ × DeckLine → Option Answer → Player N → Type 0
LineOn n = players.LineOn n.state n.bench

-- a line was played from a state with one of its writes cut, if it makes that write
abbrev pub CutOn : {N : Type 0} → BenchMembers N → State → ℕ × DeckLine → ℕ → ℕ → List ℕ → Bool → Player N → Type 0
CutOn n = players.CutOn n.state n.bench

-- the lines of a trial from its line on were played
abbrev pub TrialOn : {N : Type 0} → BenchMembers N → List (ℕ × DeckLine) → ℕ × DeckLine → TrialLines → Bool → Player N → Type 0
TrialOn n = players.TrialOn n.state n.bench
