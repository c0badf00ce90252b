use Rattle.std.proofs.Common.{Some, refl}
use Rattle.mc_script.specs.declared.answer.Answer.TheVariants as answer
use Rattle.mc_script.specs.declared.armed.Armed.TheVariants as armed
use Rattle.mc_script.specs.Commands.{deck_line_of}
use Rattle.mc_script.specs.Runs.{sent_by}
use Rattle.mc_script.proofs.QuietLemmas.{none_before_power, none_off, none_mute}
use Rattle.mc_script.proofs.LineLemmas.{player_ready}
use Rattle.mc_script.proofs.StepRunLemmas.{before_power_steps, off_steps, mute_steps}
use Rattle.mc_script.proofs.LinedLemmas.{silent_line, same_line}
use Rattle.mc_script.proofs.player.Player.card_line.Goals as goal

pub returns-in-BeforePower-clause-done : goal.returns-in-BeforePower-clause-done
returns-in-BeforePower-clause-done g c =
    let state = g.N.Nvm.state in
    let bench = g.N.Bench.bench in
    let p = c.args.self.now in
    let q = record p { armed = armed.Not } in
    let l = deck_line_of c.args.command.now in
    let reported = g.R.Runner.reported (sent_by state p l) in
    let r = c.args.runner.now in
    same_line state bench reported p q c.refuse.new.self l answer.NoCard c.refuse.result r r
    (silent_line state bench reported (g.met.R.Runner.silent (sent_by state p l)) p q l (Some answer.NoCard) r (none_before_power state bench p c.args.command.now c.in-BeforePower.is)) c.refuse.ensures.player c.refuse.ensures.answer

pub returns-in-Off-clause-done : goal.returns-in-Off-clause-done
returns-in-Off-clause-done g c =
    let state = g.N.Nvm.state in
    let bench = g.N.Bench.bench in
    let p = c.args.self.now in
    let q = record p { armed = armed.Not } in
    let l = deck_line_of c.args.command.now in
    let reported = g.R.Runner.reported (sent_by state p l) in
    let r = c.args.runner.now in
    same_line state bench reported p q c.refuse-in-Off.new.self l answer.NoCard c.refuse-in-Off.result r r
    (silent_line state bench reported (g.met.R.Runner.silent (sent_by state p l)) p q l (Some answer.NoCard) r (none_off state bench p c.args.command.now c.in-Off.is)) c.refuse-in-Off.ensures.player c.refuse-in-Off.ensures.answer

pub returns-in-Mute-clause-done : goal.returns-in-Mute-clause-done
returns-in-Mute-clause-done g c =
    let state = g.N.Nvm.state in
    let bench = g.N.Bench.bench in
    let p = c.args.self.now in
    let q = record p { armed = armed.Not } in
    let l = deck_line_of c.args.command.now in
    let reported = g.R.Runner.reported (sent_by state p l) in
    let r = c.args.runner.now in
    same_line state bench reported p q c.refuse-in-Mute.new.self l answer.Mute c.refuse-in-Mute.result r r
    (silent_line state bench reported (g.met.R.Runner.silent (sent_by state p l)) p q l (Some answer.Mute) r (none_mute state bench p c.args.command.now c.in-Mute.is)) c.refuse-in-Mute.ensures.player c.refuse-in-Mute.ensures.answer

pub run_on-requires-clause-ready : goal.run_on-requires-clause-ready
run_on-requires-clause-ready g c = player_ready g.N.Nvm.state g.N.Bench.bench c.args.self.now c.requires.playing.0 c.requires.playing.1 c.in-On.is

pub returns-in-BeforePower-clause-steps : goal.returns-in-BeforePower-clause-steps
returns-in-BeforePower-clause-steps g c s at =
    before_power_steps g.N.Nvm.state g.N.Bench.bench c.args.self.now s (deck_line_of c.args.command.now) (Some c.refuse.result) c.args.steps.now c.args.steps.now c.in-BeforePower.is at refl

pub returns-in-Off-clause-steps : goal.returns-in-Off-clause-steps
returns-in-Off-clause-steps g c s at =
    off_steps g.N.Nvm.state g.N.Bench.bench c.args.self.now s (deck_line_of c.args.command.now) (Some c.refuse-in-Off.result) c.args.steps.now c.args.steps.now c.in-Off.is at refl

pub returns-in-Mute-clause-steps : goal.returns-in-Mute-clause-steps
returns-in-Mute-clause-steps g c s at =
    mute_steps g.N.Nvm.state g.N.Bench.bench c.args.self.now s (deck_line_of c.args.command.now) (Some c.refuse-in-Mute.result) c.args.steps.now c.args.steps.now c.in-Mute.is at refl
