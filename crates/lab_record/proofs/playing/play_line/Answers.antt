use Rattle.mc_deck.specs.Lines.{line_of}
use Rattle.lab_record.proofs.PlayingLemmas.{line_playing}
use Rattle.lab_record.proofs.SteadyLemmas.{line_steady}
use Rattle.lab_record.proofs.playing.play_line.Goals as goal

pub returns-clause-playing : goal.returns-clause-playing
returns-clause-playing g c =
    line_playing g.N.Nvm.state g.N.Bench.bench _ c.args.player.now c.line-answer.new.self (line_of c.args.line.now) _ _ c.line-answer.result c.line-answer.ensures.done c.requires.playing

pub returns-clause-at : goal.returns-clause-at
returns-clause-at g c = line_steady g.N.Nvm.state g.N.Bench.bench _ c.args.player.now c.line-answer.new.self (line_of c.args.line.now) _ _ c.line-answer.result c.line-answer.ensures.done
