use Rattle.std.proofs.Common.{◌∙◌, length, Option, sym, ap}
use Rattle.std.specs.Prelude.{option_map}
use Rattle.mc_words.specs.model_device.specs.Card.{App}
use Rattle.mc_card.proofs.StaticLemmas.{not_there, found_length}
use Rattle.mc_card.proofs.card.Card.static_len.Goals as goal

pub returns-in_err-slot-clause-value : goal.returns-in_err-slot-clause-value
returns-in_err-slot-clause-value g c =
    c.from_residual.ensures
    ∙ sym (ap (λ (o : Option App). option_map (λ (a : App). length a.fixed) o) (not_there (g.N.Nvm.state c.args.self.now.store.device) c.args.self.now.store.count c.args.aid.now c.requires.going (sym c.in_err-slot.ensures.there)))

pub returns-clause-value : goal.returns-clause-value
returns-clause-value g c =
    let d = g.N.Nvm.state c.args.self.now.store.device in
    found_length d c.args.self.now.store.count c.in_ok-slot.slot c.args.aid.now c.facts.result.sizes c.requires.going (sym c.in_ok-slot.ensures.there) c.in_ok-slot.ensures.slot c.facts.ensures.sizes
