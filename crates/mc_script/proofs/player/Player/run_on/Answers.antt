use Rattle.std.proofs.Common.{subst}
use Rattle.std.specs.Prelude.{is_err}
use Rattle.model_play.specs.Play.{line_command}
use Rattle.mc_card.specs.Parts.{card_in, session_state_in}
use Rattle.mc_card.specs.Ends.{outcome_or_stop}
use Rattle.mc_script.specs.Commands.{deck_line_of}
use Rattle.mc_script.specs.Runs.{RanAndReported, SentCommand, line_bytes, sent_by}
use Rattle.mc_script.specs.StepCounts.{instructions, line_search, StepsOf}
use Rattle.mc_script.proofs.CommandLineLemmas.{sent_over, command_done, command_stopped_as}
use Rattle.mc_script.proofs.StepRunLemmas.{done_steps, stop_steps}
use Rattle.mc_script.proofs.player.Player.run_on.Goals as goal

pub returns-in-Ok-clause-done : goal.returns-in-Ok-clause-done
returns-in-Ok-clause-done g c =
    let state = g.N.Nvm.state in
    let p = c.args.self.now in
    let u = c.arm.new.card in
    let e = c.run_line-ended.new.card in
    let l = deck_line_of c.args.command.now in
    command_done state g.N.Bench.bench g.N.Nvm.wrote g.met.N.Nvm.obeys g.met.N.Bench.burns g.met.N.Nvm.fits (g.R.Runner.reported (sent_by state p l)) p u e c.disarm.new.self c.args.command.now c.run_line-ended.new.into c.args.runner.now c.run_line-ended.new.runner
    c.requires.on c.requires.ready c.arm.ensures.state c.arm.ensures.bench c.arm.ensures.rest
    (subst (λ r. RanAndReported state g.N.Nvm.wrote (g.R.Runner.reported (sent_by state p l)) u (line_command (card_in state u) (session_state_in state u) p.budget l) (outcome_or_stop r c.run_line-ended.new.into) e c.args.runner.now c.run_line-ended.new.runner) c.in-Ok.is
    (subst (λ (x : SentCommand). RanAndReported state g.N.Nvm.wrote (g.R.Runner.reported x) u (line_command (card_in state u) (session_state_in state u) p.budget l) (outcome_or_stop c.run_line-ended.result c.run_line-ended.new.into) e c.args.runner.now c.run_line-ended.new.runner)
    (sent_over state p.card u (line_bytes l) p.budget c.arm.ensures.rest c.arm.ensures.state) c.run_line-ended.ensures.done))
    c.disarm.ensures.state c.disarm.ensures.bench c.disarm.ensures.rest

pub returns-in-Err-clause-done : goal.returns-in-Err-clause-done
returns-in-Err-clause-done g c =
    let state = g.N.Nvm.state in
    let p = c.args.self.now in
    let u = c.arm.new.card in
    let e = c.run_line-ended.new.card in
    let l = deck_line_of c.args.command.now in
    command_stopped_as state g.N.Bench.bench g.N.Nvm.wrote g.met.N.Nvm.obeys g.met.N.Bench.burns g.met.N.Nvm.fits (g.R.Runner.reported (sent_by state p l)) p u e c.disarm.new.self c.args.command.now c.run_line-ended.new.into c.in-Err.stop c.power_after_stop-self.result c.answer_after_stop.result
    c.args.runner.now c.run_line-ended.new.runner c.requires.on c.requires.ready c.arm.ensures.state c.arm.ensures.bench c.arm.ensures.rest
    (subst (λ r. RanAndReported state g.N.Nvm.wrote (g.R.Runner.reported (sent_by state p l)) u (line_command (card_in state u) (session_state_in state u) p.budget l) (outcome_or_stop r c.run_line-ended.new.into) e c.args.runner.now c.run_line-ended.new.runner) c.in-Err.is
    (subst (λ (x : SentCommand). RanAndReported state g.N.Nvm.wrote (g.R.Runner.reported x) u (line_command (card_in state u) (session_state_in state u) p.budget l) (outcome_or_stop c.run_line-ended.result c.run_line-ended.new.into) e c.args.runner.now c.run_line-ended.new.runner)
    (sent_over state p.card u (line_bytes l) p.budget c.arm.ensures.rest c.arm.ensures.state) c.run_line-ended.ensures.done))
    c.disarm.ensures.state c.disarm.ensures.bench c.power_after_stop-self.ensures c.answer_after_stop.ensures

pub returns-in-Ok-clause-steps : goal.returns-in-Ok-clause-steps
returns-in-Ok-clause-steps g c s at =
    let state = g.N.Nvm.state in
    let p = c.args.self.now in
    let u = c.arm.new.card in
    let l = deck_line_of c.args.command.now in
    done_steps state g.N.Bench.bench p u s l c.args.steps.now c.run_line-ended.new.steps at c.requires.on c.arm.ensures.state c.arm.ensures.rest
    (subst (λ r. StepsOf (instructions (line_command (card_in state u) (session_state_in state u) p.budget l).turns) (line_search (card_in state u) l) (is_err r) c.args.steps.now c.run_line-ended.new.steps) c.in-Ok.is c.run_line-ended.ensures.steps)

pub returns-in-Err-clause-steps : goal.returns-in-Err-clause-steps
returns-in-Err-clause-steps g c s at =
    let state = g.N.Nvm.state in
    let p = c.args.self.now in
    let u = c.arm.new.card in
    let l = deck_line_of c.args.command.now in
    stop_steps state g.N.Bench.bench p u s l c.in-Err.stop c.answer_after_stop.result c.args.steps.now c.run_line-ended.new.steps at c.requires.on c.arm.ensures.state c.arm.ensures.rest c.answer_after_stop.ensures
    (subst (λ r. StepsOf (instructions (line_command (card_in state u) (session_state_in state u) p.budget l).turns) (line_search (card_in state u) l) (is_err r) c.args.steps.now c.run_line-ended.new.steps) c.in-Err.is c.run_line-ended.ensures.steps)
