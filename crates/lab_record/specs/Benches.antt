-- The relation of players to states by the bench below as a whole, as contracts cite it. It is that of the same name in
-- `Steady`, which lemmas cite by the functions of the bench.
use Rattle.law_events.specs.law_promise.specs.model_play.specs.Play.{State}
use Rattle.mc_script.specs.Benches.{BenchMembers}
use Rattle.mc_script.specs.declared.player.Player.{Player}
use Rattle.lab_record.specs.Steady as steady

-- a player of a device that refuses just the writes of `fail` lines is at a state of a play
abbrev pub IsSteadyAt : {N : Type 0} → BenchMembers N → Player N → State → Type 0
IsSteadyAt n = steady.IsSteadyAt n.state n.bench
