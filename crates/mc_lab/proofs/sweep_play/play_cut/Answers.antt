use Rattle.std.proofs.Common.{◌∙◌}
use Rattle.mc_deck.specs.Lines.{line_of}
use Rattle.mc_lab.proofs.SweepPlayers.{cut_on}
use Rattle.mc_lab.proofs.sweep_play.play_cut.Goals as goal

pub returns-clause-on : goal.returns-clause-on
returns-clause-on g c =
    let a = c.play_line-armed in
    let b = c.play_line-answer in
    cut_on g.N.Nvm.state g.N.Bench.bench c.args.player.now a.new.player b.new.player (line_of c.args.line.now) c.args.k c.args.fill a.result b.result c.was_cut.result a.ensures.on b.ensures.on c.was_cut.ensures

pub returns-clause-size : goal.returns-clause-size
returns-clause-size g c = c.play_line-answer.ensures.size ∙ c.play_line-armed.ensures.size

pub returns-clause-keeps_device : goal.returns-clause-keeps_device
returns-clause-keeps_device g c = g.met.N.Nvm.onward _ _ _ c.play_line-armed.ensures.keeps_device c.play_line-answer.ensures.keeps_device
