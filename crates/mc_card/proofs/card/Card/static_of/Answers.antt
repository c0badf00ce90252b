use Rattle.std.proofs.Common.{◌+◌, ◌≤◌, length, ◌∙◌, sym, ap, subst, take, drop}
use Rattle.mc_words.specs.model_device.specs.Card.{App}
use Rattle.mc_card.proofs.StaticLemmas.{slot_app, not_there, none_there}
use Rattle.mc_card.proofs.card.Card.static_of.Goals as goal

pub fixed-requires-clause-range : goal.fixed-requires-clause-range
fixed-requires-clause-range g c =
    let d = g.N.Nvm.state c.args.self.now.store.device in
    subst (λ (a : App). c.args.at + length c.args.into.now ≤ length a.fixed) (sym (slot_app d c.args.self.now.store.count c.in-Some.slot c.args.aid.now c.requires.up.going c.in-Some.ensures.slot)) c.requires.range

pub returns-in-Some : goal.returns-in-Some
returns-in-Some g c =
    let d = g.N.Nvm.state c.args.self.now.store.device in
    c.fixed.ensures ∙ ap (λ (a : App). take (length c.args.into.now) (drop c.args.at a.fixed)) (slot_app d c.args.self.now.store.count c.in-Some.slot c.args.aid.now c.requires.up.going c.in-Some.ensures.slot)

pub returns-in_default : goal.returns-in_default
returns-in_default g c =
    let d = g.N.Nvm.state c.args.self.now.store.device in
    absurd (none_there _ (not_there d c.args.self.now.store.count c.args.aid.now c.requires.up.going (sym c.in_default.ensures.there)) c.requires.there)
