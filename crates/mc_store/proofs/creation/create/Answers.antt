use Rattle.std.proofs.Common.{◌-◌, [], ◌∷◌}
use Rattle.std.proofs.lemmas.Result.{err_from_is_err_and}
use Rattle.mc_words.specs.model_device.specs.Bytes.{zeros}
use Rattle.mc_words.specs.model_device.proofs.OrdersLemmas.{in_order_append, in_order_stopped}
use Rattle.mc_bank.specs.model_card.specs.Items.{Note, Enter}
use Rattle.mc_store.specs.StoreItems.{store_did, one_item, blank_items}
use Rattle.mc_store.proofs.EnterLemmas.{create_ready, name_of}
use Rattle.mc_words.specs.model_device.specs.Device.{sized}
use Rattle.mc_store.proofs.creation.create.Goals as goal

pub returns-in_err-clear : goal.returns-in_err-clear
returns-in_err-clear g c =
    let p = err_from_is_err_and c.from_residual.result c.from_residual.ensures.1 in
    record {
      items = rw (p.1, p.2) (in_order_stopped (store_did g.N.Nvm.state g.N.Nvm.wrote) (blank_items c.args.site.now c.args.site.now.sizes.init (zeros (c.args.site.now.sizes.fixed - c.args.site.now.sizes.init))) (Note c.args.site.now c.args.aid.now 0 ∷ Note c.args.site.now c.args.aid.now 1 ∷ Note c.args.site.now c.args.aid.now 2 ∷ Note c.args.site.now c.args.aid.now 3 ∷ Enter c.args.site.now c.args.aid.now ∷ []) c.args.store.now c.clear.new.store c.in_err-clear.field-0.0 c.in_err-clear.ensures.items);
    }

pub returns-in_err-note : goal.returns-in_err-note
returns-in_err-note g c =
    let p = err_from_is_err_and c.from_residual-in_err-note.result c.from_residual-in_err-note.ensures.1 in
    record {
      items = rw (p.1, p.2) (in_order_append (store_did g.N.Nvm.state g.N.Nvm.wrote) (blank_items c.args.site.now c.args.site.now.sizes.init (zeros (c.args.site.now.sizes.fixed - c.args.site.now.sizes.init))) (Note c.args.site.now c.args.aid.now 0 ∷ Note c.args.site.now c.args.aid.now 1 ∷ Note c.args.site.now c.args.aid.now 2 ∷ Note c.args.site.now c.args.aid.now 3 ∷ Enter c.args.site.now c.args.aid.now ∷ []) c.args.store.now c.clear.new.store c.note.new.store _ c.in_ok-clear.ensures.items
          (in_order_stopped (store_did g.N.Nvm.state g.N.Nvm.wrote) (Note c.args.site.now c.args.aid.now 0 ∷ Note c.args.site.now c.args.aid.now 1 ∷ Note c.args.site.now c.args.aid.now 2 ∷ Note c.args.site.now c.args.aid.now 3 ∷ []) (Enter c.args.site.now c.args.aid.now ∷ []) c.clear.new.store c.note.new.store c.in_err-note.field-0.0 c.in_err-note.ensures.items));
    }

pub enter-requires-clause-ready : goal.enter-requires-clause-ready
enter-requires-clause-ready g c =
    create_ready g.N.Nvm.state g.N.Nvm.wrote g.met.N.Nvm.obeys c.args.store.now c.clear.new.store c.note.new.store c.args.site.now c.args.aid.now (sized c.len-size.ensures.image) c.requires.going c.requires.good (name_of c.args.aid.now c.bytes-name.result.now c.bytes-name.ensures.value c.bytes-name.ensures.low c.bytes-name.ensures.high) c.requires.fresh
    c.in_ok-clear.ensures.items c.in_ok-note.ensures.items c.in_ok-note.ensures.good

pub returns : goal.returns
returns g c =
    record {
      items = in_order_append (store_did g.N.Nvm.state g.N.Nvm.wrote) (blank_items c.args.site.now c.args.site.now.sizes.init (zeros (c.args.site.now.sizes.fixed - c.args.site.now.sizes.init))) (Note c.args.site.now c.args.aid.now 0 ∷ Note c.args.site.now c.args.aid.now 1 ∷ Note c.args.site.now c.args.aid.now 2 ∷ Note c.args.site.now c.args.aid.now 3 ∷ Enter c.args.site.now c.args.aid.now ∷ []) c.args.store.now c.clear.new.store c.enter.new.store c.enter.result c.in_ok-clear.ensures.items
          (in_order_append (store_did g.N.Nvm.state g.N.Nvm.wrote) (Note c.args.site.now c.args.aid.now 0 ∷ Note c.args.site.now c.args.aid.now 1 ∷ Note c.args.site.now c.args.aid.now 2 ∷ Note c.args.site.now c.args.aid.now 3 ∷ []) (Enter c.args.site.now c.args.aid.now ∷ []) c.clear.new.store c.note.new.store c.enter.new.store c.enter.result c.in_ok-note.ensures.items (one_item (store_did g.N.Nvm.state g.N.Nvm.wrote) c.note.new.store c.enter.new.store _ c.enter.result c.enter.ensures.did));
    }
