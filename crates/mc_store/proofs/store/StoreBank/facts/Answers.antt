use Rattle.std.proofs.Common.{ℕ, ap, subst, sym, ◌∙◌}
use Rattle.mc_words.specs.model_device.specs.Card.{name_at}
use Rattle.mc_store.specs.Slots.{IsUsedBlock}
use Rattle.mc_store.proofs.ReadLemmas.{of_slot, reported}
use Rattle.mc_words.specs.model_device.specs.Device.{sized}
use Rattle.mc_store.proofs.store.StoreBank.facts.Goals as goal

pub name_of_block-requires : goal.name_of_block-requires
name_of_block-requires g c =
    let d = g.N.Nvm.state c.args.self.now.device in
    subst (λ (k : ℕ). IsUsedBlock d.words k) (sym c.index.ensures) (of_slot d c.args.self.now.count c.args.slot (sized c.len-size.ensures.image) c.requires.going c.requires.there).at.block

pub returns : goal.returns
returns g c =
    let d = g.N.Nvm.state c.args.self.now.device in
    let t = reported d c.args.self.now.count c.args.slot c.name_of_block.result c.sizes.result (sized c.len-size.ensures.image) c.requires.going c.requires.there
    (c.name_of_block.ensures ∙ ap (λ (k : ℕ). name_at d.words k) c.index.ensures) c.sizes.ensures in
    record { name = t.name; app = t.app; sizes = t.sizes; limits = t.limits }
