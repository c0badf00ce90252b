use Rattle.std.proofs.Common.{ℕ, Result, Option, refl, sym, ◌∙◌, ap, subst, Ok, Err}
use Rattle.std.proofs.lemmas.Result.{err_from_is_err_and}
use Rattle.mc_words.specs.model_device.specs.declared.device.Stop.{Stop}
use Rattle.mc_words.specs.model_device.specs.Orders.{answer_of}
use Rattle.mc_words.specs.model_device.specs.Device.{Ended}
use Rattle.mc_apdu.specs.Command.{parts_of}
use Rattle.mc_machine.specs.declared.outcome.Outcome.{Outcome}
use Rattle.mc_machine.specs.declared.outcome.Outcome.TheVariants as outcome
use Rattle.mc_card.specs.Managing.{Directs}
use Rattle.mc_card.specs.Parts.{device_in}
use Rattle.mc_card.specs.Ends.{Begun}
use Rattle.mc_card.proofs.CommandLemmas.{wrong_begun, answered_begun, passed_session, passed_running}
use Rattle.mc_card.proofs.DeviceLemmas.{commanded_ended, none_ended}
use Rattle.mc_card.proofs.card.Card.begin.Goals as goal

pub returns-in_default-clause-done : goal.returns-in_default-clause-done
returns-in_default-clause-done g c =
    wrong_begun g.N.Nvm.state g.N.Nvm.wrote g.met.N.Nvm.obeys c.args.self.now c.args.bytes.now c.args.budget (outcome.Reply c.wrong_length.new.reply) c.requires.ready c.in_default.ensures.read c.wrong_length.ensures

pub returns-in_err-direct-clause-done : goal.returns-in_err-direct-clause-done
returns-in_err-direct-clause-done g c =
    let old = c.args.self.now in
    let a = parts_of c.in-Ok.apdu in
    let p = err_from_is_err_and c.from_residual.result c.from_residual.ensures.1 in
    subst (λ (r : Result (Option Outcome) Stop). Begun g.N.Nvm.state g.N.Nvm.wrote old c.args.bytes.now c.args.budget r c.direct.new.self) (sym (p.1 ∙ ap (λ (s : Stop). Err s) p.2))
    (answered_begun g.N.Nvm.state g.N.Nvm.wrote g.met.N.Nvm.obeys a old c.direct.new.self c.args.bytes.now c.args.budget (Err c.in_err-direct.field-0.0) c.in-Ok.ensures.read c.in_err-direct.ensures.done)

pub returns-in-None-clause-done : goal.returns-in-None-clause-done
returns-in-None-clause-done g c =
    let old = c.args.self.now in
    let a = parts_of c.in-Ok.apdu in
    answered_begun g.N.Nvm.state g.N.Nvm.wrote g.met.N.Nvm.obeys a old c.direct.new.self c.args.bytes.now c.args.budget (Ok (outcome.Reply c.direct.new.reply)) c.in-Ok.ensures.read
    (subst (λ (x : Option ℕ). Directs g.N.Nvm.state g.N.Nvm.wrote old a (Ok x) c.direct.new.reply c.direct.new.self) c.in-None.is c.in_ok-direct.ensures.done)

pub begin-requires-clause-session : goal.begin-requires-clause-session
begin-requires-clause-session g c =
    let old = c.args.self.now in
    let a = parts_of c.in-Ok.apdu in
    passed_session g.N.Nvm.state g.N.Nvm.wrote g.met.N.Nvm.obeys old c.direct.new.self a c.in-Some.slot c.requires.ready
    (subst (λ (x : Option ℕ). Directs g.N.Nvm.state g.N.Nvm.wrote old a (Ok x) c.direct.new.reply c.direct.new.self) c.in-Some.is c.in_ok-direct.ensures.done)

pub returns-in-Some-clause-done : goal.returns-in-Some-clause-done
returns-in-Some-clause-done g c =
    let old = c.args.self.now in
    let a = parts_of c.in-Ok.apdu in
    passed_running g.N.Nvm.state g.N.Nvm.wrote g.met.N.Nvm.obeys old c.direct.new.self a c.in-Some.slot c.args.budget c.args.bytes.now c.begin.new.self c.requires.ready
    (subst (λ (x : Option ℕ). Directs g.N.Nvm.state g.N.Nvm.wrote old a (Ok x) c.direct.new.reply c.direct.new.self) c.in-Some.is c.in_ok-direct.ensures.done)
    c.in-Ok.ensures.read c.begin.ensures

pub returns-in_default-clause-ended : goal.returns-in_default-clause-ended
returns-in_default-clause-ended g c =
    none_ended g.N.Nvm.state g.N.Nvm.wrote g.met.N.Nvm.obeys c.args.self.now c.args.self.now c.requires.ready.up refl

pub returns-in_err-direct-clause-ended : goal.returns-in_err-direct-clause-ended
returns-in_err-direct-clause-ended g c =
    let old = c.args.self.now in
    let p = err_from_is_err_and c.from_residual.result c.from_residual.ensures.1 in
    subst (λ (r : Result (Option Outcome) Stop). Ended (answer_of r) (g.N.Nvm.state (device_in old)) (g.N.Nvm.state (device_in c.direct.new.self))) (sym (p.1 ∙ ap (λ (s : Stop). Err s) p.2))
    (commanded_ended g.N.Nvm.state g.N.Nvm.wrote g.met.N.Nvm.obeys _ old c.direct.new.self (Err c.in_err-direct.field-0.0) c.requires.ready (c.in_err-direct.ensures.done.commanded 1))

pub returns-in-None-clause-ended : goal.returns-in-None-clause-ended
returns-in-None-clause-ended g c =
    commanded_ended g.N.Nvm.state g.N.Nvm.wrote g.met.N.Nvm.obeys _ c.args.self.now c.direct.new.self (Ok (outcome.Reply c.direct.new.reply)) c.requires.ready (returns-in-None-clause-done g c).commanded

pub returns-in-Some-clause-ended : goal.returns-in-Some-clause-ended
returns-in-Some-clause-ended g c =
    none_ended g.N.Nvm.state g.N.Nvm.wrote g.met.N.Nvm.obeys c.args.self.now (record c.direct.new.self { chain = c.begin.new.self }) c.requires.ready.up (returns-in-Some-clause-done g c).device
