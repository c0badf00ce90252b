use Rattle.std.proofs.Common.{Option, Ok, Err, sym, ◌∙◌, ap, subst}
use Rattle.std.proofs.lemmas.Result.{err_from_is_err_and}
use Rattle.mc_words.specs.model_device.proofs.LoopLemmas.{makes_same}
use Rattle.mc_apdu.specs.model_machine.specs.Chain.{turn_of}
use Rattle.mc_store.specs.GoingLaws.{going_is}
use Rattle.mc_machine.specs.Chains.{Chained}
use Rattle.mc_machine.specs.Turns.{brief_result, full_turn}
use Rattle.mc_machine.proofs.EndLemmas.{ends_there, goes_there}
use Rattle.mc_card.specs.declared.card.Card.{Card}
use Rattle.mc_card.specs.Ends.{ChainTurned}
use Rattle.mc_card.proofs.TurnLemmas.{card_of, end_card, place_turned, done_made, turned_stop, turned_on, turned_off, turned_few, turned_steps}
use Rattle.mc_card.proofs.DeviceLemmas.{made_ended}
use Rattle.mc_card.proofs.card.Card.brief_turn.Goals as goal

pub returns-in_err-reported-clause-steps : goal.returns-in_err-reported-clause-steps
returns-in_err-reported-clause-steps g c =
    let t = place_turned g.N.Nvm.state g.N.Nvm.wrote g.met.N.Nvm.obeys c.args.self.now c.turn_into.new.self c.turn_into.new.bank (Err c.in_err-reported.field-0.0) c.args.steps.now c.turn_into.new.steps c.in_err-reported.ensures.done in
    turned_steps g.N.Nvm.state g.N.Nvm.wrote g.met.N.Nvm.obeys c.args.self.now t.before t.was c.turn_into.new.bank t.after c.args.steps.now c.turn_into.new.steps t.turns.steps

pub returns-in_err-reported-clause-done : goal.returns-in_err-reported-clause-done
returns-in_err-reported-clause-done g c ch left r =
    let old = c.args.self.now in
    let p = err_from_is_err_and c.from_residual.result c.from_residual.ensures.1 in
    let t = place_turned g.N.Nvm.state g.N.Nvm.wrote g.met.N.Nvm.obeys old c.turn_into.new.self c.turn_into.new.bank (Err c.in_err-reported.field-0.0) c.args.steps.now c.turn_into.new.steps c.in_err-reported.ensures.done in
    rw (p.1, p.2) (
    subst (λ (x : Option Chained). ChainTurned g.N.Nvm.state g.N.Nvm.wrote old ch left (turn_of left ch) (Err c.in_err-reported.field-0.0) (card_of c.turn_into.new.bank old.manager old.session x)) (sym t.is)
    (turned_stop g.N.Nvm.state g.N.Nvm.wrote g.met.N.Nvm.obeys old t.before t.was c.turn_into.new.bank t.after c.in_err-reported.field-0.0 t.turns.done ch left r)
    )

pub returns-in_err-reported-clause-keeps_device : goal.returns-in_err-reported-clause-keeps_device
returns-in_err-reported-clause-keeps_device g c =
    let r = c.requires.running in
    let t = place_turned g.N.Nvm.state g.N.Nvm.wrote g.met.N.Nvm.obeys c.args.self.now c.turn_into.new.self c.turn_into.new.bank (Err c.in_err-reported.field-0.0) c.args.steps.now c.turn_into.new.steps c.in_err-reported.ensures.done in
    let made = done_made g.N.Nvm.state g.N.Nvm.wrote g.met.N.Nvm.obeys c.args.self.now t.before t.was c.turn_into.new.bank t.after (Err c.in_err-reported.field-0.0) t.turns.done r.0 r.1 r.2 in
    makes_same g.N.Nvm.wrote g.N.Nvm.same g.met.N.Nvm.keeps g.met.N.Nvm.itself g.met.N.Nvm.onward made.writes c.args.self.now.store.device c.turn_into.new.bank.device (Err c.in_err-reported.field-0.0) made.makes

pub returns-in_err-reported-clause-ended : goal.returns-in_err-reported-clause-ended
returns-in_err-reported-clause-ended g c =
    let old = c.args.self.now in
    let r = c.requires.running in
    let t = place_turned g.N.Nvm.state g.N.Nvm.wrote g.met.N.Nvm.obeys old c.turn_into.new.self c.turn_into.new.bank (Err c.in_err-reported.field-0.0) c.args.steps.now c.turn_into.new.steps c.in_err-reported.ensures.done in
    let p = err_from_is_err_and c.from_residual.result c.from_residual.ensures.1 in
    let made = done_made g.N.Nvm.state g.N.Nvm.wrote g.met.N.Nvm.obeys old t.before t.was c.turn_into.new.bank t.after (Err c.in_err-reported.field-0.0) t.turns.done r.0 r.1 r.2 in
    rw (p.1, p.2) (made_ended g.N.Nvm.state g.N.Nvm.wrote g.met.N.Nvm.obeys _ _ old.store.device c.turn_into.new.bank.device (Err c.in_err-reported.field-0.0) (going_is (g.N.Nvm.state old.store.device) old.store.count r.2.up.going).on made)

pub returns-in_err-reported-clause-few : goal.returns-in_err-reported-clause-few
returns-in_err-reported-clause-few g c =
    let t = place_turned g.N.Nvm.state g.N.Nvm.wrote g.met.N.Nvm.obeys c.args.self.now c.turn_into.new.self c.turn_into.new.bank (Err c.in_err-reported.field-0.0) c.args.steps.now c.turn_into.new.steps c.in_err-reported.ensures.done in
    turned_few g.N.Nvm.state g.N.Nvm.wrote g.met.N.Nvm.obeys c.args.self.now t.before t.was c.turn_into.new.bank t.after t.turns.few

pub returns-then-is_some-clause-done : goal.returns-then-is_some-clause-done
returns-then-is_some-clause-done g c ch left r =
    let old = c.args.self.now in
    let t = place_turned g.N.Nvm.state g.N.Nvm.wrote g.met.N.Nvm.obeys c.args.self.now c.turn_into.new.self c.turn_into.new.bank (brief_result (Ok c.in_ok-reported.reported) c.turn_into.new.into) c.args.steps.now c.turn_into.new.steps c.in_ok-reported.ensures.done in
    let turn = full_turn c.in_ok-reported.reported c.turn_into.new.into in
    let now = end_card c.turn_into.new.bank old.manager c.turn_into.new.self t.after c.end.new.self c.end.new.session t.is c.end.ensures.idle c.end.ensures.session in
    let end = ends_there c.in_ok-reported.reported.end c.turn_into.new.into (sym c.is_some.ensures ∙ c.if-is_some.true) in
    subst (λ (d : Card g.row.N.Denot). ChainTurned g.N.Nvm.state g.N.Nvm.wrote old ch left (turn_of left ch) (Ok turn) d) (sym now)
    (turned_off g.N.Nvm.state g.N.Nvm.wrote g.met.N.Nvm.obeys old t.before t.was c.turn_into.new.bank t.after turn end t.turns.done ch left r)

pub returns-then-is_some-clause-steps : goal.returns-then-is_some-clause-steps
returns-then-is_some-clause-steps g c =
    let t = place_turned g.N.Nvm.state g.N.Nvm.wrote g.met.N.Nvm.obeys c.args.self.now c.turn_into.new.self c.turn_into.new.bank (brief_result (Ok c.in_ok-reported.reported) c.turn_into.new.into) c.args.steps.now c.turn_into.new.steps c.in_ok-reported.ensures.done in
    turned_steps g.N.Nvm.state g.N.Nvm.wrote g.met.N.Nvm.obeys c.args.self.now t.before t.was c.turn_into.new.bank t.after c.args.steps.now c.turn_into.new.steps t.turns.steps

pub returns-then-is_some-clause-few : goal.returns-then-is_some-clause-few
returns-then-is_some-clause-few g c =
    let t = place_turned g.N.Nvm.state g.N.Nvm.wrote g.met.N.Nvm.obeys c.args.self.now c.turn_into.new.self c.turn_into.new.bank (brief_result (Ok c.in_ok-reported.reported) c.turn_into.new.into) c.args.steps.now c.turn_into.new.steps c.in_ok-reported.ensures.done in
    turned_few g.N.Nvm.state g.N.Nvm.wrote g.met.N.Nvm.obeys c.args.self.now t.before t.was c.turn_into.new.bank t.after t.turns.few

pub returns-then-is_some-clause-ended : goal.returns-then-is_some-clause-ended
returns-then-is_some-clause-ended g c =
    let r = c.requires.running in
    let t = place_turned g.N.Nvm.state g.N.Nvm.wrote g.met.N.Nvm.obeys c.args.self.now c.turn_into.new.self c.turn_into.new.bank (brief_result (Ok c.in_ok-reported.reported) c.turn_into.new.into) c.args.steps.now c.turn_into.new.steps c.in_ok-reported.ensures.done in
    let made = done_made g.N.Nvm.state g.N.Nvm.wrote g.met.N.Nvm.obeys c.args.self.now t.before t.was c.turn_into.new.bank t.after (brief_result (Ok c.in_ok-reported.reported) c.turn_into.new.into) t.turns.done r.0 r.1 r.2 in
    made_ended g.N.Nvm.state g.N.Nvm.wrote g.met.N.Nvm.obeys _ _ c.args.self.now.store.device c.turn_into.new.bank.device (Ok tt) (going_is (g.N.Nvm.state c.args.self.now.store.device) c.args.self.now.store.count r.2.up.going).on made

pub returns-then-is_some-clause-keeps_device : goal.returns-then-is_some-clause-keeps_device
returns-then-is_some-clause-keeps_device g c =
    let r = c.requires.running in
    let t = place_turned g.N.Nvm.state g.N.Nvm.wrote g.met.N.Nvm.obeys c.args.self.now c.turn_into.new.self c.turn_into.new.bank (brief_result (Ok c.in_ok-reported.reported) c.turn_into.new.into) c.args.steps.now c.turn_into.new.steps c.in_ok-reported.ensures.done in
    let made = done_made g.N.Nvm.state g.N.Nvm.wrote g.met.N.Nvm.obeys c.args.self.now t.before t.was c.turn_into.new.bank t.after (brief_result (Ok c.in_ok-reported.reported) c.turn_into.new.into) t.turns.done r.0 r.1 r.2 in
    makes_same g.N.Nvm.wrote g.N.Nvm.same g.met.N.Nvm.keeps g.met.N.Nvm.itself g.met.N.Nvm.onward made.writes c.args.self.now.store.device c.turn_into.new.bank.device (Ok tt) made.makes

pub returns-else-is_some-clause-done : goal.returns-else-is_some-clause-done
returns-else-is_some-clause-done g c ch left r =
    let old = c.args.self.now in
    let t = place_turned g.N.Nvm.state g.N.Nvm.wrote g.met.N.Nvm.obeys c.args.self.now c.turn_into.new.self c.turn_into.new.bank (brief_result (Ok c.in_ok-reported.reported) c.turn_into.new.into) c.args.steps.now c.turn_into.new.steps c.in_ok-reported.ensures.done in
    let turn = full_turn c.in_ok-reported.reported c.turn_into.new.into in
    let now = ap (λ (x : Option Chained). card_of c.turn_into.new.bank old.manager old.session x) t.is in
    let end = goes_there c.in_ok-reported.reported.end c.turn_into.new.into (sym c.is_some.ensures ∙ c.if-is_some.false) in
    subst (λ (d : Card g.row.N.Denot). ChainTurned g.N.Nvm.state g.N.Nvm.wrote old ch left (turn_of left ch) (Ok turn) d) (sym now)
    (turned_on g.N.Nvm.state g.N.Nvm.wrote g.met.N.Nvm.obeys old t.before t.was c.turn_into.new.bank t.after turn end t.turns.done ch left r)

pub returns-else-is_some-clause-steps : goal.returns-else-is_some-clause-steps
returns-else-is_some-clause-steps g c =
    let t = place_turned g.N.Nvm.state g.N.Nvm.wrote g.met.N.Nvm.obeys c.args.self.now c.turn_into.new.self c.turn_into.new.bank (brief_result (Ok c.in_ok-reported.reported) c.turn_into.new.into) c.args.steps.now c.turn_into.new.steps c.in_ok-reported.ensures.done in
    turned_steps g.N.Nvm.state g.N.Nvm.wrote g.met.N.Nvm.obeys c.args.self.now t.before t.was c.turn_into.new.bank t.after c.args.steps.now c.turn_into.new.steps t.turns.steps

pub returns-else-is_some-clause-few : goal.returns-else-is_some-clause-few
returns-else-is_some-clause-few g c =
    let t = place_turned g.N.Nvm.state g.N.Nvm.wrote g.met.N.Nvm.obeys c.args.self.now c.turn_into.new.self c.turn_into.new.bank (brief_result (Ok c.in_ok-reported.reported) c.turn_into.new.into) c.args.steps.now c.turn_into.new.steps c.in_ok-reported.ensures.done in
    turned_few g.N.Nvm.state g.N.Nvm.wrote g.met.N.Nvm.obeys c.args.self.now t.before t.was c.turn_into.new.bank t.after t.turns.few

pub returns-else-is_some-clause-ended : goal.returns-else-is_some-clause-ended
returns-else-is_some-clause-ended g c =
    let r = c.requires.running in
    let t = place_turned g.N.Nvm.state g.N.Nvm.wrote g.met.N.Nvm.obeys c.args.self.now c.turn_into.new.self c.turn_into.new.bank (brief_result (Ok c.in_ok-reported.reported) c.turn_into.new.into) c.args.steps.now c.turn_into.new.steps c.in_ok-reported.ensures.done in
    let made = done_made g.N.Nvm.state g.N.Nvm.wrote g.met.N.Nvm.obeys c.args.self.now t.before t.was c.turn_into.new.bank t.after (brief_result (Ok c.in_ok-reported.reported) c.turn_into.new.into) t.turns.done r.0 r.1 r.2 in
    made_ended g.N.Nvm.state g.N.Nvm.wrote g.met.N.Nvm.obeys _ _ c.args.self.now.store.device c.turn_into.new.bank.device (Ok tt) (going_is (g.N.Nvm.state c.args.self.now.store.device) c.args.self.now.store.count r.2.up.going).on made

pub returns-else-is_some-clause-keeps_device : goal.returns-else-is_some-clause-keeps_device
returns-else-is_some-clause-keeps_device g c =
    let r = c.requires.running in
    let t = place_turned g.N.Nvm.state g.N.Nvm.wrote g.met.N.Nvm.obeys c.args.self.now c.turn_into.new.self c.turn_into.new.bank (brief_result (Ok c.in_ok-reported.reported) c.turn_into.new.into) c.args.steps.now c.turn_into.new.steps c.in_ok-reported.ensures.done in
    let made = done_made g.N.Nvm.state g.N.Nvm.wrote g.met.N.Nvm.obeys c.args.self.now t.before t.was c.turn_into.new.bank t.after (brief_result (Ok c.in_ok-reported.reported) c.turn_into.new.into) t.turns.done r.0 r.1 r.2 in
    makes_same g.N.Nvm.wrote g.N.Nvm.same g.met.N.Nvm.keeps g.met.N.Nvm.itself g.met.N.Nvm.onward made.writes c.args.self.now.store.device c.turn_into.new.bank.device (Ok tt) made.makes
