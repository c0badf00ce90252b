use Rattle.std.proofs.Common.{ℕ, Result, Option, sym, ◌∙◌, ap, subst, Ok, Err}
use Rattle.std.proofs.lemmas.Result.{err_from_is_err_and}
use Rattle.mc_words.specs.model_device.specs.declared.device.Stop.{Stop}
use Rattle.mc_words.specs.model_device.specs.Orders.{answer_of}
use Rattle.mc_bank.specs.model_card.specs.Manager.{route}
use Rattle.mc_apdu.specs.Command.{parts_of}
use Rattle.mc_machine.specs.declared.outcome.End.{End}
use Rattle.mc_machine.specs.Turns.{reply_or_stop}
use Rattle.mc_machine.specs.declared.outcome.Outcome.TheVariants as outcome
use Rattle.mc_card.specs.Managing.{Directs}
use Rattle.mc_card.specs.Parts.{due}
use Rattle.mc_card.specs.Ends.{Commanded, most_weight}
use Rattle.mc_card.specs.ItemWrites.{MadeWithin}
use Rattle.mc_card.proofs.CommandLemmas.{wrong_done, wrong_begun, answered_begun, answered_within, passed_commanded, passed_within, passed_session, passed_steps, run_of, run_did, run_counted}
use Rattle.mc_card.proofs.card.Card.perform.Goals as goal

pub returns-in_default-clause-done : goal.returns-in_default-clause-done
returns-in_default-clause-done g c =
    wrong_done g.N.Nvm.state g.N.Nvm.wrote g.met.N.Nvm.obeys c.args.self.now c.args.bytes.now c.args.budget (outcome.Reply c.wrong_length.new.reply) c.requires.ready c.in_default.ensures.read c.wrong_length.ensures

pub returns-in_err-direct-clause-done : goal.returns-in_err-direct-clause-done
returns-in_err-direct-clause-done g c =
    let old = c.args.self.now in
    let a = parts_of c.in-Ok.apdu in
    let p = err_from_is_err_and c.from_residual.result c.from_residual.ensures.1 in
    subst (λ (r : Result End Stop). Commanded g.N.Nvm.state g.N.Nvm.wrote old (due g.N.Nvm.state old c.args.bytes.now c.args.budget) (reply_or_stop r c.direct.new.reply) c.direct.new.self) (sym (p.1 ∙ ap (λ (s : Stop). Err s) p.2))
    (answered_begun g.N.Nvm.state g.N.Nvm.wrote g.met.N.Nvm.obeys a old c.direct.new.self c.args.bytes.now c.args.budget (Err c.in_err-direct.field-0.0) c.in-Ok.ensures.read c.in_err-direct.ensures.done).commanded

pub returns-in-None-clause-done : goal.returns-in-None-clause-done
returns-in-None-clause-done g c =
    let old = c.args.self.now in
    let a = parts_of c.in-Ok.apdu in
    (answered_begun g.N.Nvm.state g.N.Nvm.wrote g.met.N.Nvm.obeys a old c.direct.new.self c.args.bytes.now c.args.budget (Ok (outcome.Reply c.direct.new.reply)) c.in-Ok.ensures.read
    (subst (λ (x : Option ℕ). Directs g.N.Nvm.state g.N.Nvm.wrote old a (Ok x) c.direct.new.reply c.direct.new.self) c.in-None.is c.in_ok-direct.ensures.done)).commanded

pub run_into-requires-clause-session : goal.run_into-requires-clause-session
run_into-requires-clause-session g c =
    let old = c.args.self.now in
    let a = parts_of c.in-Ok.apdu in
    passed_session g.N.Nvm.state g.N.Nvm.wrote g.met.N.Nvm.obeys old c.direct.new.self a c.in-Some.slot c.requires.ready
    (subst (λ (x : Option ℕ). Directs g.N.Nvm.state g.N.Nvm.wrote old a (Ok x) c.direct.new.reply c.direct.new.self) c.in-Some.is c.in_ok-direct.ensures.done)

pub returns-in-Some-clause-done : goal.returns-in-Some-clause-done
returns-in-Some-clause-done g c =
    let old = c.args.self.now in
    let a = parts_of c.in-Ok.apdu in
    passed_commanded g.N.Nvm.state g.N.Nvm.wrote g.met.N.Nvm.obeys old c.direct.new.self a c.in-Some.slot c.args.budget c.args.bytes.now (reply_or_stop c.run_into.result c.run_into.new.reply) c.run_into.new.bank c.run_into.new.session c.requires.ready
    (subst (λ (x : Option ℕ). Directs g.N.Nvm.state g.N.Nvm.wrote old a (Ok x) c.direct.new.reply c.direct.new.self) c.in-Some.is c.in_ok-direct.ensures.done)
    c.in-Ok.ensures.read
    (run_did g.N.Nvm.state g.N.Nvm.wrote g.met.N.Nvm.obeys c.direct.new.self (run_of g.N.Nvm.state g.N.Nvm.wrote g.met.N.Nvm.obeys c.direct.new.self c.in-Some.slot a c.args.budget) c.run_into.result c.run_into.new.reply c.run_into.new.bank c.run_into.new.session c.run_into.ensures.writes c.run_into.ensures.outcome c.run_into.ensures.session c.run_into.ensures.going)

pub returns-in-Some-clause-steps : goal.returns-in-Some-clause-steps
returns-in-Some-clause-steps g c =
    let old = c.args.self.now in
    let a = parts_of c.in-Ok.apdu in
    let counted = run_counted g.N.Nvm.state g.N.Nvm.wrote g.met.N.Nvm.obeys (run_of g.N.Nvm.state g.N.Nvm.wrote g.met.N.Nvm.obeys c.direct.new.self c.in-Some.slot a c.args.budget) c.run_into.result c.run_into.new.reply c.direct.new.steps c.run_into.new.steps c.run_into.ensures.ticks c.run_into.ensures.most in
    passed_steps g.N.Nvm.state g.N.Nvm.wrote g.met.N.Nvm.obeys old c.direct.new.self a c.in-Some.slot c.args.budget c.args.bytes.now (reply_or_stop c.run_into.result c.run_into.new.reply) c.args.steps.now c.direct.new.steps c.run_into.new.steps _ c.requires.ready
    (subst (λ (x : Option ℕ). Directs g.N.Nvm.state g.N.Nvm.wrote old a (Ok x) c.direct.new.reply c.direct.new.self) c.in-Some.is c.in_ok-direct.ensures.done)
    c.in-Ok.ensures.read c.in_ok-direct.ensures.rises c.in_ok-direct.ensures.ticks counted.0 counted.1

pub returns-in_default-clause-few : goal.returns-in_default-clause-few
returns-in_default-clause-few g c image =
    let old = c.args.self.now in
    let o = outcome.Reply c.wrong_length.new.reply in
    answered_within g.N.Nvm.state g.N.Nvm.wrote g.met.N.Nvm.obeys old old c.args.bytes.now c.args.budget (Ok o) c.requires.ready image
    (wrong_begun g.N.Nvm.state g.N.Nvm.wrote g.met.N.Nvm.obeys old c.args.bytes.now c.args.budget o c.requires.ready c.in_default.ensures.read c.wrong_length.ensures)

pub returns-in_err-direct-clause-few : goal.returns-in_err-direct-clause-few
returns-in_err-direct-clause-few g c image =
    let old = c.args.self.now in
    let a = parts_of c.in-Ok.apdu in
    let p = err_from_is_err_and c.from_residual.result c.from_residual.ensures.1 in
    subst (λ (r : Result End Stop). MadeWithin g.N.Nvm.wrote (most_weight (route c.args.bytes.now)) (due g.N.Nvm.state old c.args.bytes.now c.args.budget).items old.store.device (answer_of (reply_or_stop r c.direct.new.reply)) c.direct.new.self.store.device) (sym (p.1 ∙ ap (λ (s : Stop). Err s) p.2))
    (answered_within g.N.Nvm.state g.N.Nvm.wrote g.met.N.Nvm.obeys old c.direct.new.self c.args.bytes.now c.args.budget (Err c.in_err-direct.field-0.0) c.requires.ready image
    (answered_begun g.N.Nvm.state g.N.Nvm.wrote g.met.N.Nvm.obeys a old c.direct.new.self c.args.bytes.now c.args.budget (Err c.in_err-direct.field-0.0) c.in-Ok.ensures.read c.in_err-direct.ensures.done))

pub returns-in-None-clause-few : goal.returns-in-None-clause-few
returns-in-None-clause-few g c image =
    let old = c.args.self.now in
    let a = parts_of c.in-Ok.apdu in
    let o = outcome.Reply c.direct.new.reply in
    answered_within g.N.Nvm.state g.N.Nvm.wrote g.met.N.Nvm.obeys old c.direct.new.self c.args.bytes.now c.args.budget (Ok o) c.requires.ready image
    (answered_begun g.N.Nvm.state g.N.Nvm.wrote g.met.N.Nvm.obeys a old c.direct.new.self c.args.bytes.now c.args.budget (Ok o) c.in-Ok.ensures.read
    (subst (λ (x : Option ℕ). Directs g.N.Nvm.state g.N.Nvm.wrote old a (Ok x) c.direct.new.reply c.direct.new.self) c.in-None.is c.in_ok-direct.ensures.done))

pub returns-in-Some-clause-few : goal.returns-in-Some-clause-few
returns-in-Some-clause-few g c image =
    let old = c.args.self.now in
    let a = parts_of c.in-Ok.apdu in
    passed_within g.N.Nvm.state g.N.Nvm.wrote g.met.N.Nvm.obeys old c.direct.new.self a c.in-Some.slot c.args.budget c.args.bytes.now (reply_or_stop c.run_into.result c.run_into.new.reply) c.run_into.new.bank c.run_into.new.session c.requires.ready
    (subst (λ (x : Option ℕ). Directs g.N.Nvm.state g.N.Nvm.wrote old a (Ok x) c.direct.new.reply c.direct.new.self) c.in-Some.is c.in_ok-direct.ensures.done)
    c.in-Ok.ensures.read
    (run_did g.N.Nvm.state g.N.Nvm.wrote g.met.N.Nvm.obeys c.direct.new.self (run_of g.N.Nvm.state g.N.Nvm.wrote g.met.N.Nvm.obeys c.direct.new.self c.in-Some.slot a c.args.budget) c.run_into.result c.run_into.new.reply c.run_into.new.bank c.run_into.new.session c.run_into.ensures.writes c.run_into.ensures.outcome c.run_into.ensures.session c.run_into.ensures.going)
