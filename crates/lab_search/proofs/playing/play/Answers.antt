use Rattle.mc_deck.specs.Lines.{line_of}
use Rattle.lab_search.proofs.PlayerLemmas.{line_playing, plays_as}
use Rattle.lab_search.proofs.playing.play.Goals as goal

pub returns-clause-playing : goal.returns-clause-playing
returns-clause-playing g c =
    line_playing g.N.Nvm.state g.N.Bench.bench _ c.args.player.now c.line.new.self (line_of c.args.line.now) _ _ c.line.result c.line.ensures.done c.requires.playing

pub returns-clause-plays : goal.returns-clause-plays
returns-clause-plays g c = plays_as g.N.Nvm.state g.N.Bench.bench _ c.args.player.now c.line.new.self (line_of c.args.line.now) _ _ c.line.result c.line.ensures.done
