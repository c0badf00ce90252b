use Rattle.std.proofs.Common.{Some, None, refl, ap}
use Rattle.model_play.specs.DeckGrammar.{DeckLine}
use Rattle.model_play.specs.DeckGrammar as line
use Rattle.mc_unit.specs.Parts.{parts_of}
use Rattle.mc_deck.specs.Lines.{line_of}
use Rattle.mc_script.specs.declared.answer.Answer.TheVariants as answer
use Rattle.mc_script.specs.Runs.{sent_by}
use Rattle.mc_script.proofs.QuietLemmas.{named_done, dump_done}
use Rattle.mc_script.proofs.LinedLemmas.{silent_line, given_line, given_sent}
use Rattle.mc_script.proofs.PowerAnswerLemmas.{line_calls, line_power}
use Rattle.mc_script.proofs.StepRunLemmas.{given_steps, quiet_steps}
use Rattle.mc_script.proofs.player.Player.line.Goals as goal

pub returns-in-Format-clause-done : goal.returns-in-Format-clause-done
returns-in-Format-clause-done g c =
    let state = g.N.Nvm.state in
    let bench = g.N.Bench.bench in
    let p = c.args.self.now in
    let reported = g.R.Runner.reported (sent_by state p (line_of c.args.line.now)) in
    let r = c.args.runner.now in
    given_line state bench reported p c.format.new.self (line_of c.args.line.now) line.Format c.format.result r r (ap line_of c.in-Format.is)
    (silent_line state bench reported (g.met.R.Runner.silent (sent_by state p (line_of c.args.line.now))) p c.format.new.self line.Format c.format.result r c.format.ensures.done)

pub returns-in-Power-clause-done : goal.returns-in-Power-clause-done
returns-in-Power-clause-done g c =
    let state = g.N.Nvm.state in
    let bench = g.N.Bench.bench in
    let p = c.args.self.now in
    let reported = g.R.Runner.reported (sent_by state p (line_of c.args.line.now)) in
    let r = c.args.runner.now in
    given_line state bench reported p c.power_line.new.self (line_of c.args.line.now) line.Power (Some c.power_line.result) r r (ap line_of c.in-Power.is)
    (silent_line state bench reported (g.met.R.Runner.silent (sent_by state p (line_of c.args.line.now))) p c.power_line.new.self line.Power (Some c.power_line.result) r c.power_line.ensures.done)

pub returns-in-Named-clause-done : goal.returns-in-Named-clause-done
returns-in-Named-clause-done g c =
    let state = g.N.Nvm.state in
    let bench = g.N.Bench.bench in
    let p = c.args.self.now in
    let reported = g.R.Runner.reported (sent_by state p (line_of c.args.line.now)) in
    let r = c.args.runner.now in
    given_line state bench reported p p (line_of c.args.line.now) line.Named None r r (ap line_of c.in-Named.is)
    (silent_line state bench reported (g.met.R.Runner.silent (sent_by state p (line_of c.args.line.now))) p p line.Named None r (named_done state bench p))

pub returns-in-Load-clause-done : goal.returns-in-Load-clause-done
returns-in-Load-clause-done g c =
    given_sent g.N.Nvm.state g.N.Bench.bench (λ (y : DeckLine). g.R.Runner.reported (sent_by g.N.Nvm.state c.args.self.now y)) c.args.self.now c.card_line.new.self (line_of c.args.line.now) (line.Sent (line.Load (parts_of c.in-Load.unit) c.in-Load.fixed c.in-Load.session)) (Some c.card_line.result) c.args.runner.now c.card_line.new.runner (ap line_of c.in-Load.is)
    c.card_line.ensures.done

pub returns-in-Select-clause-done : goal.returns-in-Select-clause-done
returns-in-Select-clause-done g c =
    given_sent g.N.Nvm.state g.N.Bench.bench (λ (y : DeckLine). g.R.Runner.reported (sent_by g.N.Nvm.state c.args.self.now y)) c.args.self.now c.card_line-in-Select.new.self (line_of c.args.line.now) (line.Sent (line.Select c.in-Select.aid)) (Some c.card_line-in-Select.result) c.args.runner.now c.card_line-in-Select.new.runner (ap line_of c.in-Select.is)
    c.card_line-in-Select.ensures.done

pub returns-in-Delete-clause-done : goal.returns-in-Delete-clause-done
returns-in-Delete-clause-done g c =
    given_sent g.N.Nvm.state g.N.Bench.bench (λ (y : DeckLine). g.R.Runner.reported (sent_by g.N.Nvm.state c.args.self.now y)) c.args.self.now c.card_line-in-Delete.new.self (line_of c.args.line.now) (line.Sent (line.Delete c.in-Delete.aid)) (Some c.card_line-in-Delete.result) c.args.runner.now c.card_line-in-Delete.new.runner (ap line_of c.in-Delete.is)
    c.card_line-in-Delete.ensures.done

pub returns-in-Dump-clause-done : goal.returns-in-Dump-clause-done
returns-in-Dump-clause-done g c =
    let state = g.N.Nvm.state in
    let bench = g.N.Bench.bench in
    let p = c.args.self.now in
    let reported = g.R.Runner.reported (sent_by state p (line_of c.args.line.now)) in
    let r = c.args.runner.now in
    given_line state bench reported p p (line_of c.args.line.now) (line.Dump c.in-Dump.aid) (Some (answer.Dump c.in-Dump.aid)) r r (ap line_of c.in-Dump.is)
    (silent_line state bench reported (g.met.R.Runner.silent (sent_by state p (line_of c.args.line.now))) p p (line.Dump c.in-Dump.aid) (Some (answer.Dump c.in-Dump.aid)) r (dump_done state bench p c.in-Dump.aid))

pub returns-in-Apdu-clause-done : goal.returns-in-Apdu-clause-done
returns-in-Apdu-clause-done g c =
    given_sent g.N.Nvm.state g.N.Bench.bench (λ (y : DeckLine). g.R.Runner.reported (sent_by g.N.Nvm.state c.args.self.now y)) c.args.self.now c.card_line-in-Apdu.new.self (line_of c.args.line.now) (line.Sent (line.Apdu c.in-Apdu.bytes.now)) (Some c.card_line-in-Apdu.result) c.args.runner.now c.card_line-in-Apdu.new.runner (ap line_of c.in-Apdu.is)
    c.card_line-in-Apdu.ensures.done

pub returns-in-Budget-clause-done : goal.returns-in-Budget-clause-done
returns-in-Budget-clause-done g c =
    let state = g.N.Nvm.state in
    let bench = g.N.Bench.bench in
    let p = c.args.self.now in
    let reported = g.R.Runner.reported (sent_by state p (line_of c.args.line.now)) in
    let r = c.args.runner.now in
    given_line state bench reported p c.set_budget.new.self (line_of c.args.line.now) (line.Budget c.in-Budget.budget) None r r (ap line_of c.in-Budget.is)
    (silent_line state bench reported (g.met.R.Runner.silent (sent_by state p (line_of c.args.line.now))) p c.set_budget.new.self (line.Budget c.in-Budget.budget) None r c.set_budget.ensures.done)

pub returns-in-Cut-clause-done : goal.returns-in-Cut-clause-done
returns-in-Cut-clause-done g c =
    let state = g.N.Nvm.state in
    let bench = g.N.Bench.bench in
    let p = c.args.self.now in
    let reported = g.R.Runner.reported (sent_by state p (line_of c.args.line.now)) in
    let r = c.args.runner.now in
    given_line state bench reported p c.arm_cut.new.self (line_of c.args.line.now) (line.Cut c.in-Cut.k c.in-Cut.fill) None r r (ap line_of c.in-Cut.is)
    (silent_line state bench reported (g.met.R.Runner.silent (sent_by state p (line_of c.args.line.now))) p c.arm_cut.new.self (line.Cut c.in-Cut.k c.in-Cut.fill) None r c.arm_cut.ensures.done)

pub returns-in-Fail-clause-done : goal.returns-in-Fail-clause-done
returns-in-Fail-clause-done g c =
    let state = g.N.Nvm.state in
    let bench = g.N.Bench.bench in
    let p = c.args.self.now in
    let reported = g.R.Runner.reported (sent_by state p (line_of c.args.line.now)) in
    let r = c.args.runner.now in
    given_line state bench reported p c.arm_fail.new.self (line_of c.args.line.now) (line.Fail c.in-Fail.k) None r r (ap line_of c.in-Fail.is)
    (silent_line state bench reported (g.met.R.Runner.silent (sent_by state p (line_of c.args.line.now))) p c.arm_fail.new.self (line.Fail c.in-Fail.k) None r c.arm_fail.ensures.done)

pub returns-in-Poke-clause-done : goal.returns-in-Poke-clause-done
returns-in-Poke-clause-done g c =
    let state = g.N.Nvm.state in
    let bench = g.N.Bench.bench in
    let p = c.args.self.now in
    let reported = g.R.Runner.reported (sent_by state p (line_of c.args.line.now)) in
    let r = c.args.runner.now in
    given_line state bench reported p c.poke.new.self (line_of c.args.line.now) (line.Poke c.in-Poke.at c.in-Poke.fill) None r r (ap line_of c.in-Poke.is)
    (silent_line state bench reported (g.met.R.Runner.silent (sent_by state p (line_of c.args.line.now))) p c.poke.new.self (line.Poke c.in-Poke.at c.in-Poke.fill) None r c.poke.ensures.done)

pub returns-in-Format-clause-steps : goal.returns-in-Format-clause-steps
returns-in-Format-clause-steps g c s at =
    given_steps s (line_of c.args.line.now) line.Format c.format.result c.args.steps.now c.args.steps.now (ap line_of c.in-Format.is) (quiet_steps s line.Format c.format.result c.args.steps.now c.args.steps.now refl refl)

pub returns-in-Power-clause-steps : goal.returns-in-Power-clause-steps
returns-in-Power-clause-steps g c s at =
    given_steps s (line_of c.args.line.now) line.Power (Some c.power_line.result) c.args.steps.now c.args.steps.now (ap line_of c.in-Power.is) (quiet_steps s line.Power (Some c.power_line.result) c.args.steps.now c.args.steps.now refl refl)

pub returns-in-Named-clause-steps : goal.returns-in-Named-clause-steps
returns-in-Named-clause-steps g c s at =
    given_steps s (line_of c.args.line.now) line.Named None c.args.steps.now c.args.steps.now (ap line_of c.in-Named.is) (quiet_steps s line.Named None c.args.steps.now c.args.steps.now refl refl)

pub returns-in-Dump-clause-steps : goal.returns-in-Dump-clause-steps
returns-in-Dump-clause-steps g c s at =
    given_steps s (line_of c.args.line.now) (line.Dump c.in-Dump.aid) (Some (answer.Dump c.in-Dump.aid)) c.args.steps.now c.args.steps.now (ap line_of c.in-Dump.is) (quiet_steps s (line.Dump c.in-Dump.aid) (Some (answer.Dump c.in-Dump.aid)) c.args.steps.now c.args.steps.now refl refl)

pub returns-in-Budget-clause-steps : goal.returns-in-Budget-clause-steps
returns-in-Budget-clause-steps g c s at =
    given_steps s (line_of c.args.line.now) (line.Budget c.in-Budget.budget) None c.args.steps.now c.args.steps.now (ap line_of c.in-Budget.is) (quiet_steps s (line.Budget c.in-Budget.budget) None c.args.steps.now c.args.steps.now refl refl)

pub returns-in-Cut-clause-steps : goal.returns-in-Cut-clause-steps
returns-in-Cut-clause-steps g c s at =
    given_steps s (line_of c.args.line.now) (line.Cut c.in-Cut.k c.in-Cut.fill) None c.args.steps.now c.args.steps.now (ap line_of c.in-Cut.is) (quiet_steps s (line.Cut c.in-Cut.k c.in-Cut.fill) None c.args.steps.now c.args.steps.now refl refl)

pub returns-in-Fail-clause-steps : goal.returns-in-Fail-clause-steps
returns-in-Fail-clause-steps g c s at =
    given_steps s (line_of c.args.line.now) (line.Fail c.in-Fail.k) None c.args.steps.now c.args.steps.now (ap line_of c.in-Fail.is) (quiet_steps s (line.Fail c.in-Fail.k) None c.args.steps.now c.args.steps.now refl refl)

pub returns-in-Poke-clause-steps : goal.returns-in-Poke-clause-steps
returns-in-Poke-clause-steps g c s at =
    given_steps s (line_of c.args.line.now) (line.Poke c.in-Poke.at c.in-Poke.fill) None c.args.steps.now c.args.steps.now (ap line_of c.in-Poke.is) (quiet_steps s (line.Poke c.in-Poke.at c.in-Poke.fill) None c.args.steps.now c.args.steps.now refl refl)

pub returns-in-Load-clause-steps : goal.returns-in-Load-clause-steps
returns-in-Load-clause-steps g c s at =
    given_steps s (line_of c.args.line.now) (line.Sent (line.Load (parts_of c.in-Load.unit) c.in-Load.fixed c.in-Load.session)) (Some c.card_line.result) c.args.steps.now c.card_line.new.steps (ap line_of c.in-Load.is) (c.card_line.ensures.steps s at)

pub returns-in-Select-clause-steps : goal.returns-in-Select-clause-steps
returns-in-Select-clause-steps g c s at =
    given_steps s (line_of c.args.line.now) (line.Sent (line.Select c.in-Select.aid)) (Some c.card_line-in-Select.result) c.args.steps.now c.card_line-in-Select.new.steps (ap line_of c.in-Select.is) (c.card_line-in-Select.ensures.steps s at)

pub returns-in-Delete-clause-steps : goal.returns-in-Delete-clause-steps
returns-in-Delete-clause-steps g c s at =
    given_steps s (line_of c.args.line.now) (line.Sent (line.Delete c.in-Delete.aid)) (Some c.card_line-in-Delete.result) c.args.steps.now c.card_line-in-Delete.new.steps (ap line_of c.in-Delete.is) (c.card_line-in-Delete.ensures.steps s at)

pub returns-in-Apdu-clause-steps : goal.returns-in-Apdu-clause-steps
returns-in-Apdu-clause-steps g c s at =
    given_steps s (line_of c.args.line.now) (line.Sent (line.Apdu c.in-Apdu.bytes.now)) (Some c.card_line-in-Apdu.result) c.args.steps.now c.card_line-in-Apdu.new.steps (ap line_of c.in-Apdu.is) (c.card_line-in-Apdu.ensures.steps s at)

pub returns-in-Format-clause-powers : goal.returns-in-Format-clause-powers
returns-in-Format-clause-powers g c =
    line_calls g.N.Nvm.state g.N.Bench.bench (g.R.Runner.reported (sent_by g.N.Nvm.state c.args.self.now (line_of c.args.line.now))) c.args.self.now c.format.new.self (line_of c.args.line.now) c.args.runner.now c.args.runner.now c.format.result (returns-in-Format-clause-done g c) c.requires.playing

pub returns-in-Format-clause-power : goal.returns-in-Format-clause-power
returns-in-Format-clause-power g c =
    line_power g.N.Nvm.state g.N.Bench.bench (g.R.Runner.reported (sent_by g.N.Nvm.state c.args.self.now (line_of c.args.line.now))) c.args.self.now c.format.new.self (line_of c.args.line.now) c.args.runner.now c.args.runner.now c.format.result (returns-in-Format-clause-done g c) c.requires.playing

pub returns-in-Power-clause-powers : goal.returns-in-Power-clause-powers
returns-in-Power-clause-powers g c =
    line_calls g.N.Nvm.state g.N.Bench.bench (g.R.Runner.reported (sent_by g.N.Nvm.state c.args.self.now (line_of c.args.line.now))) c.args.self.now c.power_line.new.self (line_of c.args.line.now) c.args.runner.now c.args.runner.now (Some c.power_line.result) (returns-in-Power-clause-done g c) c.requires.playing

pub returns-in-Power-clause-power : goal.returns-in-Power-clause-power
returns-in-Power-clause-power g c =
    line_power g.N.Nvm.state g.N.Bench.bench (g.R.Runner.reported (sent_by g.N.Nvm.state c.args.self.now (line_of c.args.line.now))) c.args.self.now c.power_line.new.self (line_of c.args.line.now) c.args.runner.now c.args.runner.now (Some c.power_line.result) (returns-in-Power-clause-done g c) c.requires.playing

pub returns-in-Named-clause-powers : goal.returns-in-Named-clause-powers
returns-in-Named-clause-powers g c =
    line_calls g.N.Nvm.state g.N.Bench.bench (g.R.Runner.reported (sent_by g.N.Nvm.state c.args.self.now (line_of c.args.line.now))) c.args.self.now c.args.self.now (line_of c.args.line.now) c.args.runner.now c.args.runner.now None (returns-in-Named-clause-done g c) c.requires.playing

pub returns-in-Named-clause-power : goal.returns-in-Named-clause-power
returns-in-Named-clause-power g c =
    line_power g.N.Nvm.state g.N.Bench.bench (g.R.Runner.reported (sent_by g.N.Nvm.state c.args.self.now (line_of c.args.line.now))) c.args.self.now c.args.self.now (line_of c.args.line.now) c.args.runner.now c.args.runner.now None (returns-in-Named-clause-done g c) c.requires.playing

pub returns-in-Load-clause-powers : goal.returns-in-Load-clause-powers
returns-in-Load-clause-powers g c =
    line_calls g.N.Nvm.state g.N.Bench.bench (g.R.Runner.reported (sent_by g.N.Nvm.state c.args.self.now (line_of c.args.line.now))) c.args.self.now c.card_line.new.self (line_of c.args.line.now) c.args.runner.now c.card_line.new.runner (Some c.card_line.result) (returns-in-Load-clause-done g c) c.requires.playing

pub returns-in-Load-clause-power : goal.returns-in-Load-clause-power
returns-in-Load-clause-power g c =
    line_power g.N.Nvm.state g.N.Bench.bench (g.R.Runner.reported (sent_by g.N.Nvm.state c.args.self.now (line_of c.args.line.now))) c.args.self.now c.card_line.new.self (line_of c.args.line.now) c.args.runner.now c.card_line.new.runner (Some c.card_line.result) (returns-in-Load-clause-done g c) c.requires.playing

pub returns-in-Select-clause-powers : goal.returns-in-Select-clause-powers
returns-in-Select-clause-powers g c =
    line_calls g.N.Nvm.state g.N.Bench.bench (g.R.Runner.reported (sent_by g.N.Nvm.state c.args.self.now (line_of c.args.line.now))) c.args.self.now c.card_line-in-Select.new.self (line_of c.args.line.now) c.args.runner.now c.card_line-in-Select.new.runner (Some c.card_line-in-Select.result) (returns-in-Select-clause-done g c) c.requires.playing

pub returns-in-Select-clause-power : goal.returns-in-Select-clause-power
returns-in-Select-clause-power g c =
    line_power g.N.Nvm.state g.N.Bench.bench (g.R.Runner.reported (sent_by g.N.Nvm.state c.args.self.now (line_of c.args.line.now))) c.args.self.now c.card_line-in-Select.new.self (line_of c.args.line.now) c.args.runner.now c.card_line-in-Select.new.runner (Some c.card_line-in-Select.result) (returns-in-Select-clause-done g c) c.requires.playing

pub returns-in-Delete-clause-powers : goal.returns-in-Delete-clause-powers
returns-in-Delete-clause-powers g c =
    line_calls g.N.Nvm.state g.N.Bench.bench (g.R.Runner.reported (sent_by g.N.Nvm.state c.args.self.now (line_of c.args.line.now))) c.args.self.now c.card_line-in-Delete.new.self (line_of c.args.line.now) c.args.runner.now c.card_line-in-Delete.new.runner (Some c.card_line-in-Delete.result) (returns-in-Delete-clause-done g c) c.requires.playing

pub returns-in-Delete-clause-power : goal.returns-in-Delete-clause-power
returns-in-Delete-clause-power g c =
    line_power g.N.Nvm.state g.N.Bench.bench (g.R.Runner.reported (sent_by g.N.Nvm.state c.args.self.now (line_of c.args.line.now))) c.args.self.now c.card_line-in-Delete.new.self (line_of c.args.line.now) c.args.runner.now c.card_line-in-Delete.new.runner (Some c.card_line-in-Delete.result) (returns-in-Delete-clause-done g c) c.requires.playing

pub returns-in-Dump-clause-powers : goal.returns-in-Dump-clause-powers
returns-in-Dump-clause-powers g c =
    line_calls g.N.Nvm.state g.N.Bench.bench (g.R.Runner.reported (sent_by g.N.Nvm.state c.args.self.now (line_of c.args.line.now))) c.args.self.now c.args.self.now (line_of c.args.line.now) c.args.runner.now c.args.runner.now (Some (answer.Dump c.in-Dump.aid)) (returns-in-Dump-clause-done g c) c.requires.playing

pub returns-in-Dump-clause-power : goal.returns-in-Dump-clause-power
returns-in-Dump-clause-power g c =
    line_power g.N.Nvm.state g.N.Bench.bench (g.R.Runner.reported (sent_by g.N.Nvm.state c.args.self.now (line_of c.args.line.now))) c.args.self.now c.args.self.now (line_of c.args.line.now) c.args.runner.now c.args.runner.now (Some (answer.Dump c.in-Dump.aid)) (returns-in-Dump-clause-done g c) c.requires.playing

pub returns-in-Apdu-clause-powers : goal.returns-in-Apdu-clause-powers
returns-in-Apdu-clause-powers g c =
    line_calls g.N.Nvm.state g.N.Bench.bench (g.R.Runner.reported (sent_by g.N.Nvm.state c.args.self.now (line_of c.args.line.now))) c.args.self.now c.card_line-in-Apdu.new.self (line_of c.args.line.now) c.args.runner.now c.card_line-in-Apdu.new.runner (Some c.card_line-in-Apdu.result) (returns-in-Apdu-clause-done g c) c.requires.playing

pub returns-in-Apdu-clause-power : goal.returns-in-Apdu-clause-power
returns-in-Apdu-clause-power g c =
    line_power g.N.Nvm.state g.N.Bench.bench (g.R.Runner.reported (sent_by g.N.Nvm.state c.args.self.now (line_of c.args.line.now))) c.args.self.now c.card_line-in-Apdu.new.self (line_of c.args.line.now) c.args.runner.now c.card_line-in-Apdu.new.runner (Some c.card_line-in-Apdu.result) (returns-in-Apdu-clause-done g c) c.requires.playing

pub returns-in-Budget-clause-powers : goal.returns-in-Budget-clause-powers
returns-in-Budget-clause-powers g c =
    line_calls g.N.Nvm.state g.N.Bench.bench (g.R.Runner.reported (sent_by g.N.Nvm.state c.args.self.now (line_of c.args.line.now))) c.args.self.now c.set_budget.new.self (line_of c.args.line.now) c.args.runner.now c.args.runner.now None (returns-in-Budget-clause-done g c) c.requires.playing

pub returns-in-Budget-clause-power : goal.returns-in-Budget-clause-power
returns-in-Budget-clause-power g c =
    line_power g.N.Nvm.state g.N.Bench.bench (g.R.Runner.reported (sent_by g.N.Nvm.state c.args.self.now (line_of c.args.line.now))) c.args.self.now c.set_budget.new.self (line_of c.args.line.now) c.args.runner.now c.args.runner.now None (returns-in-Budget-clause-done g c) c.requires.playing

pub returns-in-Cut-clause-powers : goal.returns-in-Cut-clause-powers
returns-in-Cut-clause-powers g c =
    line_calls g.N.Nvm.state g.N.Bench.bench (g.R.Runner.reported (sent_by g.N.Nvm.state c.args.self.now (line_of c.args.line.now))) c.args.self.now c.arm_cut.new.self (line_of c.args.line.now) c.args.runner.now c.args.runner.now None (returns-in-Cut-clause-done g c) c.requires.playing

pub returns-in-Cut-clause-power : goal.returns-in-Cut-clause-power
returns-in-Cut-clause-power g c =
    line_power g.N.Nvm.state g.N.Bench.bench (g.R.Runner.reported (sent_by g.N.Nvm.state c.args.self.now (line_of c.args.line.now))) c.args.self.now c.arm_cut.new.self (line_of c.args.line.now) c.args.runner.now c.args.runner.now None (returns-in-Cut-clause-done g c) c.requires.playing

pub returns-in-Fail-clause-powers : goal.returns-in-Fail-clause-powers
returns-in-Fail-clause-powers g c =
    line_calls g.N.Nvm.state g.N.Bench.bench (g.R.Runner.reported (sent_by g.N.Nvm.state c.args.self.now (line_of c.args.line.now))) c.args.self.now c.arm_fail.new.self (line_of c.args.line.now) c.args.runner.now c.args.runner.now None (returns-in-Fail-clause-done g c) c.requires.playing

pub returns-in-Fail-clause-power : goal.returns-in-Fail-clause-power
returns-in-Fail-clause-power g c =
    line_power g.N.Nvm.state g.N.Bench.bench (g.R.Runner.reported (sent_by g.N.Nvm.state c.args.self.now (line_of c.args.line.now))) c.args.self.now c.arm_fail.new.self (line_of c.args.line.now) c.args.runner.now c.args.runner.now None (returns-in-Fail-clause-done g c) c.requires.playing

pub returns-in-Poke-clause-powers : goal.returns-in-Poke-clause-powers
returns-in-Poke-clause-powers g c =
    line_calls g.N.Nvm.state g.N.Bench.bench (g.R.Runner.reported (sent_by g.N.Nvm.state c.args.self.now (line_of c.args.line.now))) c.args.self.now c.poke.new.self (line_of c.args.line.now) c.args.runner.now c.args.runner.now None (returns-in-Poke-clause-done g c) c.requires.playing

pub returns-in-Poke-clause-power : goal.returns-in-Poke-clause-power
returns-in-Poke-clause-power g c =
    line_power g.N.Nvm.state g.N.Bench.bench (g.R.Runner.reported (sent_by g.N.Nvm.state c.args.self.now (line_of c.args.line.now))) c.args.self.now c.poke.new.self (line_of c.args.line.now) c.args.runner.now c.args.runner.now None (returns-in-Poke-clause-done g c) c.requires.playing
