use Rattle.mc_store.proofs.ReadLemmas.{counted, all_apps}
use Rattle.mc_words.specs.model_device.specs.Device.{sized}
use Rattle.mc_store.proofs.store.StoreBank.count.Goals as goal

pub returns-clause-count : goal.returns-clause-count
returns-clause-count g c = counted (g.N.Nvm.state c.args.self.now.device) c.args.self.now.count c.requires.going

pub returns-clause-apps : goal.returns-clause-apps
returns-clause-apps g c = all_apps (g.N.Nvm.state c.args.self.now.device) c.args.self.now.count (sized c.len-size.ensures.image) c.requires.going
