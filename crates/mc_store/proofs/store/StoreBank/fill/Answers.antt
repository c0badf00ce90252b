use Rattle.mc_bank.specs.model_card.specs.Manager.{word_parts}
use Rattle.mc_store.proofs.BankLemmas.{running}
use Rattle.mc_store.proofs.FoldLemmas.{all_kept, all_changes, kept_good, kept_slots, pieces_plain, fill_piece, fill_others, good_in}
use Rattle.mc_store.proofs.store.StoreBank.fill.Goals as goal

pub fill-requires-clause-good : goal.fill-requires-clause-good
fill-requires-clause-good g c =
    let s = c.args.self.now in
    let d = g.N.Nvm.state s.device in
    good_in d s.count c.args.site.now (running d s.count c.requires.going) c.requires.good

pub returns-clause-apps : goal.returns-clause-apps
returns-clause-apps g c =
    all_changes g.N.Nvm.state g.N.Nvm.wrote g.met.N.Nvm.obeys _ c.args.self.now c.fill.new.store c.fill.result (pieces_plain g.N.Nvm.state g.N.Nvm.wrote g.met.N.Nvm.obeys c.args.site.now c.args.part (word_parts c.args.at c.args.piece.now)) c.requires.going c.fill.ensures.items

pub returns-clause-piece : goal.returns-clause-piece
returns-clause-piece g c =
    fill_piece g.N.Nvm.state g.N.Nvm.wrote g.met.N.Nvm.obeys c.args.self.now c.fill.new.store c.args.site.now c.args.part c.args.at c.args.piece.now c.fill.result c.requires.range c.fill.ensures.items

pub returns-clause-others : goal.returns-clause-others
returns-clause-others g c =
    fill_others g.N.Nvm.state g.N.Nvm.wrote g.met.N.Nvm.obeys c.args.self.now c.fill.new.store c.args.site.now c.args.part c.args.at c.args.piece.now c.fill.result c.requires.range c.fill.ensures.items

pub returns-clause-slots : goal.returns-clause-slots
returns-clause-slots g c =
    kept_slots g.N.Nvm.state g.N.Nvm.wrote g.met.N.Nvm.obeys c.args.self.now c.fill.new.store
    (all_kept g.N.Nvm.state g.N.Nvm.wrote g.met.N.Nvm.obeys _ c.args.self.now c.fill.new.store c.fill.result (pieces_plain g.N.Nvm.state g.N.Nvm.wrote g.met.N.Nvm.obeys c.args.site.now c.args.part (word_parts c.args.at c.args.piece.now)) c.fill.ensures.items)

pub returns-clause-good : goal.returns-clause-good
returns-clause-good g c =
    kept_good g.N.Nvm.state g.N.Nvm.wrote g.met.N.Nvm.obeys c.args.self.now c.fill.new.store
    (all_kept g.N.Nvm.state g.N.Nvm.wrote g.met.N.Nvm.obeys _ c.args.self.now c.fill.new.store c.fill.result (pieces_plain g.N.Nvm.state g.N.Nvm.wrote g.met.N.Nvm.obeys c.args.site.now c.args.part (word_parts c.args.at c.args.piece.now)) c.fill.ensures.items)
