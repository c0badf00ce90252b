use Rattle.std.proofs.Common.{◌≡◌, ℕ, length, ap, ◌∙◌}
use Rattle.mc_bank.specs.model_card.specs.declared.card.Sizes.{Sizes}
use Rattle.mc_bank.specs.Slots.{slot_place, slot_sizes}
use Rattle.mc_store.specs.Store.{part_from}
use Rattle.mc_store.proofs.ReadLemmas.{reads}
use Rattle.mc_words.specs.model_device.specs.Device.{sized}
use Rattle.mc_store.proofs.reads.read_section.Goals as goal

pub read_bytes-requires : goal.read_bytes-requires
read_bytes-requires g c =
    let d = g.N.Nvm.state c.args.store.now.device in
    let place : c.part_place-from.result ≡ part_from c.args.part (slot_sizes c.args.slot) (slot_place c.args.slot) =
    c.part_place-from.ensures ∙ ap (λ (s : Sizes). part_from c.args.part s c.index.result) c.sizes.ensures ∙ ap (λ (k : ℕ). part_from c.args.part (slot_sizes c.args.slot) k) c.index.ensures in
    (reads d c.args.store.now.count c.args.slot c.args.part c.args.at (length c.args.into.now) c.part_place-from.result (sized c.len-size.ensures.image) c.requires.going c.requires.there c.requires.range place).inside

pub returns : goal.returns
returns g c =
    let d = g.N.Nvm.state c.args.store.now.device in
    let place : c.part_place-from.result ≡ part_from c.args.part (slot_sizes c.args.slot) (slot_place c.args.slot) =
    c.part_place-from.ensures ∙ ap (λ (s : Sizes). part_from c.args.part s c.index.result) c.sizes.ensures ∙ ap (λ (k : ℕ). part_from c.args.part (slot_sizes c.args.slot) k) c.index.ensures in
    c.read_bytes.ensures ∙ (reads d c.args.store.now.count c.args.slot c.args.part c.args.at (length c.args.into.now) c.part_place-from.result (sized c.len-size.ensures.image) c.requires.going c.requires.there c.requires.range place).bytes
