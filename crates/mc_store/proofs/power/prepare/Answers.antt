use Rattle.mc_store.specs.Power.{preparation_end}
use Rattle.mc_store.proofs.PowerLemmas.{power_ends}
use Rattle.mc_words.specs.model_device.specs.Device.{sized}
use Rattle.mc_store.proofs.power.prepare.Goals as goal

pub returns-clause-ends : goal.returns-clause-ends
returns-clause-ends g c =
    power_ends g.N.Nvm.state g.N.Nvm.wrote g.met.N.Nvm.obeys c.args.device.now c.recover_and_finish.new.device (preparation_end c.recover_and_finish.result) (sized c.len-size.ensures.image) c.requires.power c.recover_and_finish.ensures.makes c.recover_and_finish.ensures.follows
