use Rattle.std.proofs.Common.{refl, ℕ, arith, ap, ◌∙◌}
use Rattle.mc_bank.specs.model_card.specs.declared.card.Part.TheVariants.{Data}
use Rattle.mc_bank.specs.model_card.specs.declared.card.Sizes.{Sizes}
use Rattle.mc_store.specs.CommitLaws.{placed_words}
use Rattle.mc_bank.specs.Slots.{slot_sizes}
use Rattle.mc_store.specs.Store.{part_from}
use Rattle.mc_store.proofs.ChangeLemmas.{commit_at, commit_done}
use Rattle.mc_words.specs.model_device.specs.Device.{sized}
use Rattle.mc_store.proofs.changes.commit.Goals as goal

pub overflow_cast-first : goal.overflow_cast-first
overflow_cast-first g c =
    let at = c.part_place-first.ensures ∙ ap (λ (z : Sizes). part_from Data z c.index.result) c.sizes.ensures ∙ ap (λ (k : ℕ). part_from Data (slot_sizes c.args.slot) k) c.index.ensures in
    let small =
    (commit_at (g.N.Nvm.state c.args.store.now.device) c.args.store.now.count c.args.slot c.part_place-first.result (sized c.len-size.ensures.image) c.requires.going c.requires.there at c.args.list.now c.requires.list).small in
    omega (arith, small)

pub write_shifted-requires : goal.write_shifted-requires
write_shifted-requires g c =
    let at = c.part_place-first.ensures ∙ ap (λ (z : Sizes). part_from Data z c.index.result) c.sizes.ensures ∙ ap (λ (k : ℕ). part_from Data (slot_sizes c.args.slot) k) c.index.ensures in
    let k =
    commit_at (g.N.Nvm.state c.args.store.now.device) c.args.store.now.count c.args.slot c.part_place-first.result (sized c.len-size.ensures.image) c.requires.going c.requires.there at c.args.list.now c.requires.list in
    record { power = k.on; few = c.requires.list.few; within = k.within; list = k.atomic; gate = k.gate }

pub returns : goal.returns
returns g c =
    let at = c.part_place-first.ensures ∙ ap (λ (z : Sizes). part_from Data z c.index.result) c.sizes.ensures ∙ ap (λ (k : ℕ). part_from Data (slot_sizes c.args.slot) k) c.index.ensures in
    record {
      did = commit_done g.N.Nvm.state g.N.Nvm.wrote c.args.store.now.device c.write_shifted.new.device c.args.store.now.count c.args.slot c.part_place-first.result c.args.list.now
          (placed_words c.part_place-first.result c.args.list.now) c.write_shifted.result (sized c.len-size.ensures.image) c.requires.going c.requires.there c.requires.list at refl c.write_shifted.ensures;
    }
