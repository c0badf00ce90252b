use Rattle.mc_deck.specs.Lines.{line_of}
use Rattle.lab_search.proofs.CountedLines.{counted_line, same_counts}
use Rattle.lab_search.proofs.counter.play.Goals as goal

pub returns-clause-done : goal.returns-clause-done
returns-clause-done g c =
    counted_line g.N.Nvm.state g.N.Bench.bench c.args.player.now c.line.new.self (line_of c.args.line.now) c.args.counter.now c.line.new.runner c.line.result c.line.ensures.done

pub returns-clause-same : goal.returns-clause-same
returns-clause-same g c =
    same_counts g.N.Nvm.state g.N.Bench.bench c.args.player.now c.line.new.self (line_of c.args.line.now) c.args.counter.now c.line.new.runner c.line.result c.line.ensures.done c.requires.playing
