use Rattle.mc_store.specs.Store.{store_room, apps_in, words_of_sizes}
use Rattle.mc_store.proofs.ReadLemmas.{answers, good_site, open_parts, open_steps}
use Rattle.mc_words.specs.model_device.specs.Device.{sized}
use Rattle.mc_store.proofs.store.StoreBank.open.Goals as goal

pub returns-clause-answer : goal.returns-clause-answer
returns-clause-answer g c =
    answers (g.N.Nvm.state c.args.self.now.device) c.args.self.now.count c.args.sizes.now c.find_room.result c.requires.going c.find_room.ensures.answer

pub returns-clause-good : goal.returns-clause-good
returns-clause-good g c =
    let d = g.N.Nvm.state c.args.self.now.device in
    good_site (apps_in d.words) (store_room d) c.args.sizes.now c.find_room.result c.requires.limits (answers d c.args.self.now.count c.args.sizes.now c.find_room.result c.requires.going c.find_room.ensures.answer)

pub returns-clause-parts : goal.returns-clause-parts
returns-clause-parts g c =
    let d = g.N.Nvm.state c.args.self.now.device in
    open_parts d c.args.self.now.count c.find_room.result (sized c.find_room.ensures.image) c.requires.going
    (good_site (apps_in d.words) (store_room d) c.args.sizes.now c.find_room.result c.requires.limits (answers d c.args.self.now.count c.args.sizes.now c.find_room.result c.requires.going c.find_room.ensures.answer))

pub returns-clause-rises : goal.returns-clause-rises
returns-clause-rises g c =
    (open_steps (g.N.Nvm.state c.args.self.now.device) c.args.self.now.count (words_of_sizes c.args.sizes.now) c.args.steps.now c.find_room.new.steps c.requires.going c.find_room.ensures.ticks).rises

pub returns-clause-ticks : goal.returns-clause-ticks
returns-clause-ticks g c =
    (open_steps (g.N.Nvm.state c.args.self.now.device) c.args.self.now.count (words_of_sizes c.args.sizes.now) c.args.steps.now c.find_room.new.steps c.requires.going c.find_room.ensures.ticks).ticks

pub returns-clause-full : goal.returns-clause-full
returns-clause-full g c =
    (open_steps (g.N.Nvm.state c.args.self.now.device) c.args.self.now.count (words_of_sizes c.args.sizes.now) c.args.steps.now c.find_room.new.steps c.requires.going c.find_room.ensures.ticks).full
