use Rattle.law_explore.specs.model_play.specs.DeckGrammar as line
use Rattle.mc_lab.proofs.SweepPlayers.{line_playing}
use Rattle.mc_lab.proofs.SweepFrontLemmas.{powered_up}
use Rattle.mc_lab.proofs.sweep_front.power_up.Goals as goal

pub returns-clause-playing : goal.returns-clause-playing
returns-clause-playing g c = line_playing g.N.Nvm.state g.N.Bench.bench _ c.args.player.now c.line-powered.new.self line.Power _ _ c.line-powered.result c.line-powered.ensures.done c.requires

pub returns-clause-up : goal.returns-clause-up
returns-clause-up g c m b k at holds layout =
    powered_up g.N.Nvm.state g.N.Bench.bench _ c.args.player.now c.line-powered.new.self _ _ c.line-powered.result c.line-powered.ensures.done m b k at holds layout
