-- The relations of the moves of an exploration by the bench of their player as a whole, as contracts cite them. Each is
-- that of the same name in `Playing` or `Trying`, which lemmas cite by the functions of the bench.
use Rattle.std.specs.Prelude.{ℕ, Bool, List, Option}
use Rattle.law_explore_text.specs.model_play.specs.DeckGrammar.{DeckLine}
use Rattle.law_explore_text.specs.law_explore.specs.Rules as rule
use Rattle.law_explore_text.specs.law_explore.specs.States as model
use Rattle.lab_rules.specs.declared.rules.OnRule.{OnRule}
use Rattle.mc_script.specs.declared.answer.Answer.{Answer}
use Rattle.mc_script.specs.declared.live.Live.{Live}
use Rattle.mc_script.specs.declared.player.Player.{Player}
use Rattle.mc_script.specs.Benches.{BenchMembers}
use Rattle.lab_search.specs.declared.journey.Manner.{Manner}
use Rattle.lab_search.specs.Playing as playing
use Rattle.lab_search.specs.Trying as trying

-- a line was played as the definition has it without a failed write, from each state that the player is at, on a device
-- that refuses no write by itself
abbrev pub PlaysAs : {N : Type 0} → BenchMembers N → Player N → DeckLine → Option Answer → Player N → Type 0
PlaysAs n = playing.PlaysAs n.state n.bench

-- the executed instructions that the line shows are counted
abbrev pub CountsAs : {N : Type 0} → BenchMembers N → List OnRule → List Bool → Player N → DeckLine → List ℕ → List ℕ → Type 0
CountsAs n = playing.CountsAs n.state n.bench

-- a move was made from a state: the text of its result, the counts of the executed instructions that it shows, and the
-- player after it
abbrev pub MadeAs : {N : Type 0} → BenchMembers N → model.CardState → rule.Move → Manner → List OnRule → List Bool → List ℕ → List ℕ → List ℕ → Player N → Bool → Type 0
MadeAs n = trying.MadeAs n.state n.bench

-- what was saved after a move that was made is what runs, and nothing was saved if it was not made
abbrev pub IsLiveAfter : {N : Type 0} → BenchMembers N → Player N → Bool → Option Live → Type 0
IsLiveAfter n = trying.IsLiveAfter n.state n.bench
