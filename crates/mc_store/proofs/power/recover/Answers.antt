use Rattle.mc_store.proofs.RecoverLemmas.{recovered_settles, recovered_on, recovered_shut}
use Rattle.mc_store.proofs.power.recover.Goals as goal

pub returns-clause-words : goal.returns-clause-words
returns-clause-words g c =
    recovered_settles g.N.Nvm.state g.N.Nvm.wrote g.met.N.Nvm.obeys c.args.device.now c.replay_open.new.device c.replay_open.result c.len-size.ensures.image.low c.requires.power c.replay_open.ensures.makes

pub returns-clause-closed : goal.returns-clause-closed
returns-clause-closed g c =
    recovered_shut g.N.Nvm.state g.N.Nvm.wrote g.met.N.Nvm.obeys c.args.device.now c.replay_open.new.device c.replay_open.result c.len-size.ensures.image.low c.requires.power c.replay_open.ensures.makes c.replay_open.ensures.follows

pub returns-clause-on : goal.returns-clause-on
returns-clause-on g c =
    recovered_on g.N.Nvm.state g.N.Nvm.wrote g.met.N.Nvm.obeys c.args.device.now c.replay_open.new.device c.replay_open.result c.len-size.ensures.image.low c.requires.power c.replay_open.ensures.makes
