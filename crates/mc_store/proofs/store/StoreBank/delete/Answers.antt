use Rattle.mc_bank.specs.Bank.{name_or}
use Rattle.mc_bank.specs.model_card.specs.Items.{Remove}
use Rattle.mc_store.specs.Store.{store_named}
use Rattle.mc_store.specs.StoreItems.{store_did, one_item}
use Rattle.mc_store.specs.Laws.{store_obeys}
use Rattle.mc_store.proofs.BankLemmas.{delete_slots}
use Rattle.mc_store.proofs.store.StoreBank.delete.Goals as goal

pub returns-clause-items : goal.returns-clause-items
returns-clause-items g c =
    let state = g.N.Nvm.state in
    let s = c.args.self.now in
    let e = c.delete.new.store in
    let n = name_or (store_named (state s.device) c.args.slot) in
    one_item (store_did state g.N.Nvm.wrote) s e (Remove n) c.delete.result c.delete.ensures.did

pub returns-clause-apps : goal.returns-clause-apps
returns-clause-apps g c =
    let state = g.N.Nvm.state in
    let s = c.args.self.now in
    let e = c.delete.new.store in
    let n = name_or (store_named (state s.device) c.args.slot) in
    store_obeys state g.N.Nvm.wrote g.met.N.Nvm.obeys s.device e.device s.count e.count (Remove n) c.delete.result c.delete.ensures.did

pub returns-clause-slots : goal.returns-clause-slots
returns-clause-slots g c =
    let state = g.N.Nvm.state in
    let s = c.args.self.now in
    let e = c.delete.new.store in
    let n = name_or (store_named (state s.device) c.args.slot) in
    delete_slots state g.N.Nvm.wrote g.met.N.Nvm.obeys s e n c.delete.result c.delete.ensures.did
