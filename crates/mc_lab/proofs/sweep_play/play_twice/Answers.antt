use Rattle.std.proofs.Common.{◌∙◌}
use Rattle.mc_deck.specs.Lines.{line_of}
use Rattle.mc_lab.proofs.SweepPlayers.{twice_behind}
use Rattle.mc_lab.proofs.sweep_play.play_twice.Goals as goal

pub returns-clause-on : goal.returns-clause-on
returns-clause-on g c =
    let a = c.play_cut-hit in
    let b = c.play_cut in
    twice_behind g.N.Nvm.state g.N.Bench.bench c.args.player.now a.new.player b.new.player (line_of c.args.line.now) c.args.k c.args.fill c.args.again a.result b.result a.ensures.on b.ensures.on

pub returns-clause-size : goal.returns-clause-size
returns-clause-size g c = c.play_cut.ensures.size ∙ c.play_cut-hit.ensures.size

pub returns-clause-keeps_device : goal.returns-clause-keeps_device
returns-clause-keeps_device g c = g.met.N.Nvm.onward _ _ _ c.play_cut-hit.ensures.keeps_device c.play_cut.ensures.keeps_device
