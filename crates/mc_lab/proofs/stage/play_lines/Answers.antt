use Rattle.mc_deck.specs.Lines.{line_of}
use Rattle.mc_lab.proofs.StageLemmas.{staged_on, playing_on}
use Rattle.mc_lab.proofs.stage.play_lines.Goals as goal

pub loop-at-preserved : goal.loop-at-preserved
loop-at-preserved g c =
    let state = g.N.Nvm.state in
    let bench = g.N.Bench.bench in
    let line = c.line-number.result in
    record {
      staged = λ whole h.
          staged_on state bench _ whole c.args.deck.now c.loop-at.player c.line-answer.new.self c.loop-at.at line.0 (line_of line.1) c.loop-at.text.items c.gather.new.text.items _ _ c.line-answer.result
          c.line-number.ensures.line c.line-answer.ensures.done c.gather.ensures (c.loop-at.invariant.staged whole h);
      playing = playing_on state bench _ c.loop-at.player c.line-answer.new.self line.0 (line_of line.1) _ _ c.line-answer.result c.line-answer.ensures.done c.loop-at.invariant.playing;
    }

pub gather-requires : goal.gather-requires
gather-requires g c =
    let line = c.line-number.result in
    playing_on g.N.Nvm.state g.N.Bench.bench _ c.loop-at.player c.line-answer.new.self line.0 (line_of line.1) _ _ c.line-answer.result c.line-answer.ensures.done c.loop-at.invariant.playing
