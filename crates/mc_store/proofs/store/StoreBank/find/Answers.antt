use Rattle.mc_store.proofs.ReadLemmas.{good_words, finds_slot}
use Rattle.mc_words.specs.model_device.specs.Device.{sized}
use Rattle.mc_store.proofs.store.StoreBank.find.Goals as goal

pub find_block-requires : goal.find_block-requires
find_block-requires g c = record { laid = good_words (g.N.Nvm.state c.args.self.now.device) c.args.self.now.count c.requires.going }

pub returns : goal.returns
returns g c =
    let f = finds_slot (g.N.Nvm.state c.args.self.now.device) c.args.self.now.count c.args.aid.now c.find_block.result (sized c.find_block.ensures.image) c.requires.going c.find_block.ensures.place c.find_block.ensures.sizes in
    record { there = f.there; slot = f.slot }
