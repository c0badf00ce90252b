use Rattle.mc_deck.specs.Lines.{line_of}
use Rattle.mc_lab.specs.Sweeps.{state_on_blank}
use Rattle.std.proofs.Common.{take}
use Rattle.mc_lab.proofs.SweepPlayers.{front_on}
use Rattle.mc_lab.proofs.sweep_front.play_front.Goals as goal

pub resume-player-requires-clause-kept : goal.resume-player-requires-clause-kept
resume-player-requires-clause-kept g c = (_, c.requires.kept)

pub loop-i-init : goal.loop-i-init
loop-i-init g c =
    record { at = c.resume-player.ensures.at (state_on_blank (take c.args.from c.args.deck.now)) c.requires.kept; keeps_device = c.resume-player.ensures.keeps_device }

pub play_line-answer-requires-clause-playing : goal.play_line-answer-requires-clause-playing
play_line-answer-requires-clause-playing g c = (_, c.loop-i.invariant.at.at)

pub loop-i-preserved : goal.loop-i-preserved
loop-i-preserved g c =
    let line = c.line-number.result in
    let l = c.play_line-answer in
    let i = c.loop-i.invariant in
    record {
      at = front_on g.N.Nvm.state g.N.Bench.bench c.loop-i.player l.new.player c.args.deck.now c.loop-i.i line.0 (line_of line.1) l.result c.line-number.ensures.line l.ensures.on i.at;
      keeps_device = g.met.N.Nvm.onward _ _ _ i.keeps_device l.ensures.keeps_device;
    }
