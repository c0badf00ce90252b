use Rattle.std.proofs.Common.{ℕ, Result, Option, refl, sym, ◌∙◌, ap, subst, Ok, Err}
use Rattle.std.proofs.lemmas.Result.{err_from_is_err_and}
use Rattle.mc_words.specs.model_device.specs.declared.device.Stop.{Stop}
use Rattle.mc_apdu.specs.Command.{parts_of}
use Rattle.mc_manager.specs.declared.routed.Ruling.{Ruling}
use Rattle.mc_manager.specs.Ruled.{ruling_with_reply}
use Rattle.mc_card.specs.declared.card.Card.{Card}
use Rattle.mc_card.specs.Managing.{Directs}
use Rattle.mc_card.proofs.DirectLemmas.{DirectEnds, answered_done, stopped_done, selected_done, fresh_slot, passed_done}
use Rattle.mc_card.proofs.DeviceLemmas.{answered_same}
use Rattle.mc_card.proofs.card.Card.direct.Goals as goal

pub returns-in-Answer-clause-done : goal.returns-in-Answer-clause-done
returns-in-Answer-clause-done g c =
    let old = c.args.self.now in
    let new = record old { store = c.rule.new.bank; manager = c.rule.new.self } in
    let a = parts_of c.args.apdu.now in
    answered_done g.N.Nvm.state g.N.Nvm.wrote g.met.N.Nvm.obeys a old new c.rule.new.reply c.requires.ready refl refl
    (subst (λ (x : Ruling). DirectEnds g.N.Nvm.state g.N.Nvm.wrote old a (Ok (ruling_with_reply x c.rule.new.reply)) new) c.in-Answer.is (record { items = c.in_ok-rule.ensures.items; apps = c.in_ok-rule.ensures.apps; leaves = c.in_ok-rule.ensures.leaves; fits = c.in_ok-rule.ensures.fits; going = c.in_ok-rule.ensures.going }))

pub returns-in-Fresh-clause-done : goal.returns-in-Fresh-clause-done
returns-in-Fresh-clause-done g c =
    let old = c.args.self.now in
    let new = record old { store = c.rule.new.bank; manager = c.rule.new.self; session = c.session_of-self.result } in
    let a = parts_of c.args.apdu.now in
    selected_done g.N.Nvm.state g.N.Nvm.wrote g.met.N.Nvm.obeys a old new c.in-Fresh.slot c.rule.new.reply c.requires.ready c.session_of-self.ensures refl
    (subst (λ (x : Ruling). DirectEnds g.N.Nvm.state g.N.Nvm.wrote old a (Ok (ruling_with_reply x c.rule.new.reply)) new) c.in-Fresh.is (record { items = c.in_ok-rule.ensures.items; apps = c.in_ok-rule.ensures.apps; leaves = c.in_ok-rule.ensures.leaves; fits = c.in_ok-rule.ensures.fits; going = c.in_ok-rule.ensures.going }))

pub session_of-self-requires-clause-there : goal.session_of-self-requires-clause-there
session_of-self-requires-clause-there g c =
    let old = c.args.self.now in
    let new = record old { store = c.rule.new.bank; manager = c.rule.new.self } in
    let a = parts_of c.args.apdu.now in
    fresh_slot g.N.Nvm.state g.N.Nvm.wrote g.met.N.Nvm.obeys a old new c.in-Fresh.slot c.rule.new.reply c.requires.ready
    (subst (λ (x : Ruling). DirectEnds g.N.Nvm.state g.N.Nvm.wrote old a (Ok (ruling_with_reply x c.rule.new.reply)) new) c.in-Fresh.is (record { items = c.in_ok-rule.ensures.items; apps = c.in_ok-rule.ensures.apps; leaves = c.in_ok-rule.ensures.leaves; fits = c.in_ok-rule.ensures.fits; going = c.in_ok-rule.ensures.going }))

pub returns-in-Pass-clause-done : goal.returns-in-Pass-clause-done
returns-in-Pass-clause-done g c =
    let old = c.args.self.now in
    let new = record old { store = c.rule.new.bank; manager = c.rule.new.self } in
    let a = parts_of c.args.apdu.now in
    passed_done g.N.Nvm.state g.N.Nvm.wrote g.met.N.Nvm.obeys a old new c.in-Pass.slot refl refl
    (subst (λ (x : Ruling). DirectEnds g.N.Nvm.state g.N.Nvm.wrote old a (Ok (ruling_with_reply x c.rule.new.reply)) new) c.in-Pass.is (record { items = c.in_ok-rule.ensures.items; apps = c.in_ok-rule.ensures.apps; leaves = c.in_ok-rule.ensures.leaves; fits = c.in_ok-rule.ensures.fits; going = c.in_ok-rule.ensures.going }))

pub returns-in_err-rule-clause-done : goal.returns-in_err-rule-clause-done
returns-in_err-rule-clause-done g c =
    let old = c.args.self.now in
    let new = record old { store = c.rule.new.bank; manager = c.rule.new.self } in
    let a = parts_of c.args.apdu.now in
    let p = err_from_is_err_and c.from_residual.result c.from_residual.ensures.1 in
    subst (λ (r : Result (Option ℕ) Stop). Directs g.N.Nvm.state g.N.Nvm.wrote old a r c.rule.new.reply new) (sym (p.1 ∙ ap (λ (s : Stop). Err s) p.2))
    (stopped_done g.N.Nvm.state g.N.Nvm.wrote g.met.N.Nvm.obeys a old new c.in_err-rule.field-0.0 c.requires.ready (record { items = c.in_err-rule.ensures.items; apps = c.in_err-rule.ensures.apps; leaves = c.in_err-rule.ensures.leaves; fits = c.in_err-rule.ensures.fits; going = c.in_err-rule.ensures.going }))

pub returns-in_err-rule-clause-keeps_device : goal.returns-in_err-rule-clause-keeps_device
returns-in_err-rule-clause-keeps_device g c =
    let old = c.args.self.now in
    let new = record old { store = c.rule.new.bank; manager = c.rule.new.self } in
    let a = parts_of c.args.apdu.now in
    answered_same g.N.Nvm.state g.N.Nvm.wrote g.N.Nvm.same g.met.N.Nvm.keeps g.met.N.Nvm.itself g.met.N.Nvm.onward a old new _
    (stopped_done g.N.Nvm.state g.N.Nvm.wrote g.met.N.Nvm.obeys a old new c.in_err-rule.field-0.0 c.requires.ready (record { items = c.in_err-rule.ensures.items; apps = c.in_err-rule.ensures.apps; leaves = c.in_err-rule.ensures.leaves; fits = c.in_err-rule.ensures.fits; going = c.in_err-rule.ensures.going }))

pub returns-in-Answer-clause-keeps_device : goal.returns-in-Answer-clause-keeps_device
returns-in-Answer-clause-keeps_device g c =
    let old = c.args.self.now in
    let new = record old { store = c.rule.new.bank; manager = c.rule.new.self } in
    answered_same g.N.Nvm.state g.N.Nvm.wrote g.N.Nvm.same g.met.N.Nvm.keeps g.met.N.Nvm.itself g.met.N.Nvm.onward (parts_of c.args.apdu.now) old new _ (returns-in-Answer-clause-done g c)

pub returns-in-Fresh-clause-keeps_device : goal.returns-in-Fresh-clause-keeps_device
returns-in-Fresh-clause-keeps_device g c =
    let old = c.args.self.now in
    let new = record old { store = c.rule.new.bank; manager = c.rule.new.self; session = c.session_of-self.result } in
    answered_same g.N.Nvm.state g.N.Nvm.wrote g.N.Nvm.same g.met.N.Nvm.keeps g.met.N.Nvm.itself g.met.N.Nvm.onward (parts_of c.args.apdu.now) old new _ (returns-in-Fresh-clause-done g c)

pub returns-in-Pass-clause-keeps_device : goal.returns-in-Pass-clause-keeps_device
returns-in-Pass-clause-keeps_device g c =
    let old = c.args.self.now in
    subst (λ (x : Card g.row.N.Denot). g.N.Nvm.same old.store.device x.store.device) (sym (returns-in-Pass-clause-done g c).unchanged) (g.met.N.Nvm.itself old.store.device)
