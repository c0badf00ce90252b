use Rattle.std.proofs.Common.{ℕ, sym, subst}
use Rattle.mc_deck.specs.Lines.{line_of}
use Rattle.mc_lab.specs.SweepBodies.{front_of, IsRecoveryBound}
use Rattle.mc_lab.proofs.SweepPlayers.{trial_reported, trial_hit, trial_few}
use Rattle.mc_lab.proofs.sweep_play.play_trial.Goals as goal

pub play_trial_lines-hit-requires-clause-playing : goal.play_trial_lines-hit-requires-clause-playing
play_trial_lines-hit-requires-clause-playing g c = (_, c.play_front-player.ensures.at.at)

pub play_line-answer-requires-clause-playing : goal.play_line-answer-requires-clause-playing
play_line-answer-requires-clause-playing g c =
    let line = c.line-number.result in
    (_, (c.play_trial_lines-hit.ensures.on (front_of c.args.place.now) line.0 c.play_front-player.ensures.at).at.at)

pub returns-clause-reported : goal.returns-clause-reported
returns-clause-reported g c =
    let line = c.line-number.result in
    let b = c.play_trial_lines-hit in
    trial_reported g.N.Nvm.state g.N.Bench.bench c.args.place.now c.args.trial (line.0, line_of line.1) c.line-number.ensures.line b.result b.new.player (b.ensures.on (front_of c.args.place.now) line.0 c.play_front-player.ensures.at)
    c.play_line-answer.new.player c.play_line-answer.result c.take_down.new.into.fault _ c.play_line-answer.ensures.on c.take_down.ensures.fault c.take_down.ensures.held

pub returns-clause-hit : goal.returns-clause-hit
returns-clause-hit g c =
    let line = c.line-number.result in
    let b = c.play_trial_lines-hit in
    trial_hit g.N.Nvm.state g.N.Bench.bench c.args.place.now c.args.trial (line.0, line_of line.1) c.line-number.ensures.line b.result b.new.player (b.ensures.on (front_of c.args.place.now) line.0 c.play_front-player.ensures.at)

pub returns-clause-few : goal.returns-clause-few
returns-clause-few g c =
    let line = c.line-number.result in
    let b = c.play_trial_lines-hit in
    let a = c.play_line-answer in
    let few =
    trial_few g.N.Nvm.state g.N.Bench.bench c.args.place.now c.args.trial (line.0, line_of line.1) c.line-number.ensures.line b.result b.new.player a.new.player a.result a.ensures.on
    (b.ensures.on (front_of c.args.place.now) line.0 c.play_front-player.ensures.at) in
    subst (λ (n : ℕ). IsRecoveryBound c.args.place.now c.args.trial n) (sym c.most_of-most.ensures) few
