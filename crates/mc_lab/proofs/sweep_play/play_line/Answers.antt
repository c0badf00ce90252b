use Rattle.mc_deck.specs.Lines.{line_of}
use Rattle.mc_lab.proofs.SweepPlayers.{line_on, line_playing, line_size}
use Rattle.mc_lab.proofs.sweep_play.play_line.Goals as goal

pub returns-clause-on : goal.returns-clause-on
returns-clause-on g c =
    line_on g.N.Nvm.state g.N.Bench.bench _ c.args.player.now c.line.new.self (line_of c.args.line.now) _ _ c.line.result c.line.ensures.done

pub returns-clause-playing : goal.returns-clause-playing
returns-clause-playing g c =
    line_playing g.N.Nvm.state g.N.Bench.bench _ c.args.player.now c.line.new.self (line_of c.args.line.now) _ _ c.line.result c.line.ensures.done c.requires.playing

pub returns-clause-size : goal.returns-clause-size
returns-clause-size g c =
    line_size g.N.Nvm.state g.N.Bench.bench _ c.args.player.now c.line.new.self (line_of c.args.line.now) _ _ c.line.result c.line.ensures.done c.requires.playing
