use Rattle.mc_store.proofs.BankLemmas.{running}
use Rattle.mc_store.proofs.FoldLemmas.{create_ends, create_slots, good_in, fresh_in}
use Rattle.mc_store.proofs.store.StoreBank.create.Goals as goal

pub create-requires-clause-good : goal.create-requires-clause-good
create-requires-clause-good g c =
    let s = c.args.self.now in
    let d = g.N.Nvm.state s.device in
    good_in d s.count c.args.site.now (running d s.count c.requires.going) c.requires.good

pub create-requires-clause-fresh : goal.create-requires-clause-fresh
create-requires-clause-fresh g c =
    let s = c.args.self.now in
    let d = g.N.Nvm.state s.device in
    fresh_in d s.count c.args.aid.now (running d s.count c.requires.going) c.requires.fresh

pub returns-clause-apps : goal.returns-clause-apps
returns-clause-apps g c =
    (create_ends g.N.Nvm.state g.N.Nvm.wrote g.met.N.Nvm.obeys c.args.self.now c.create.new.store c.args.site.now c.args.aid.now c.create.result c.create.ensures.items).apps

pub returns-clause-slots : goal.returns-clause-slots
returns-clause-slots g c =
    create_slots g.N.Nvm.state g.N.Nvm.wrote g.met.N.Nvm.obeys c.args.self.now c.create.new.store c.args.site.now c.args.aid.now c.create.result
    (create_ends g.N.Nvm.state g.N.Nvm.wrote g.met.N.Nvm.obeys c.args.self.now c.create.new.store c.args.site.now c.args.aid.now c.create.result c.create.ensures.items)
