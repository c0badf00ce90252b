use Rattle.mc_bank.specs.Bank.{name_or}
use Rattle.mc_bank.specs.model_card.specs.Items.{Commit}
use Rattle.mc_store.specs.Store.{store_named}
use Rattle.mc_store.specs.StoreItems.{store_did, one_item}
use Rattle.mc_store.specs.Laws.{store_obeys, store_spares, store_leaves}
use Rattle.mc_store.proofs.BankLemmas.{commit_slots}
use Rattle.mc_store.proofs.store.StoreBank.commit.Goals as goal

pub returns-clause-items : goal.returns-clause-items
returns-clause-items g c =
    let state = g.N.Nvm.state in
    let s = c.args.self.now in
    let e = c.commit.new.store in
    let n = name_or (store_named (state s.device) c.args.slot) in
    one_item (store_did state g.N.Nvm.wrote) s e (Commit n c.args.list.now) c.commit.result c.commit.ensures.did

pub returns-clause-apps : goal.returns-clause-apps
returns-clause-apps g c =
    let state = g.N.Nvm.state in
    let s = c.args.self.now in
    let e = c.commit.new.store in
    let n = name_or (store_named (state s.device) c.args.slot) in
    store_obeys state g.N.Nvm.wrote g.met.N.Nvm.obeys s.device e.device s.count e.count (Commit n c.args.list.now) c.commit.result c.commit.ensures.did

pub returns-clause-slots : goal.returns-clause-slots
returns-clause-slots g c =
    let state = g.N.Nvm.state in
    let s = c.args.self.now in
    let e = c.commit.new.store in
    let n = name_or (store_named (state s.device) c.args.slot) in
    commit_slots state g.N.Nvm.wrote g.met.N.Nvm.obeys s e n c.args.list.now c.commit.result c.commit.ensures.did

pub returns-clause-good : goal.returns-clause-good
returns-clause-good g c =
    let state = g.N.Nvm.state in
    let s = c.args.self.now in
    let e = c.commit.new.store in
    let n = name_or (store_named (state s.device) c.args.slot) in
    store_spares state g.N.Nvm.wrote g.met.N.Nvm.obeys s.device e.device s.count e.count n c.args.list.now c.commit.result c.commit.ensures.did

pub returns-clause-bytes : goal.returns-clause-bytes
returns-clause-bytes g c =
    let state = g.N.Nvm.state in
    let s = c.args.self.now in
    let e = c.commit.new.store in
    let n = name_or (store_named (state s.device) c.args.slot) in
    store_leaves state g.N.Nvm.wrote g.met.N.Nvm.obeys s.device e.device s.count e.count n c.args.list.now c.commit.result c.commit.ensures.did
