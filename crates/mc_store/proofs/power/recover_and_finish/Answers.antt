use Rattle.mc_store.specs.Power.{preparation_end}
use Rattle.mc_store.proofs.RecoverLemmas.{whole_makes, failed_makes, finish_follows}
use Rattle.mc_store.proofs.power.recover_and_finish.Goals as goal

pub returns-in-Ok-clause-makes : goal.returns-in-Ok-clause-makes
returns-in-Ok-clause-makes g c =
    whole_makes g.N.Nvm.state g.N.Nvm.wrote g.met.N.Nvm.obeys c.args.device.now c.recover.new.device c.finish.new.device (preparation_end c.finish.result) c.in-Ok.ensures.low c.in-Ok.ensures.words c.in-Ok.ensures.makes c.finish.ensures.makes

pub returns-in-Ok-clause-follows : goal.returns-in-Ok-clause-follows
returns-in-Ok-clause-follows g c =
    let state = g.N.Nvm.state in
    finish_follows (state c.args.device.now).words (state c.recover.new.device).words c.in-Ok.owed (preparation_end c.finish.result) c.in-Ok.ensures.low c.in-Ok.ensures.words c.in-Ok.ensures.closed c.in-Ok.ensures.follows.0 c.finish.ensures.follows

pub returns-in-Err-clause-makes : goal.returns-in-Err-clause-makes
returns-in-Err-clause-makes g c =
    failed_makes g.N.Nvm.state g.N.Nvm.wrote g.met.N.Nvm.obeys c.args.device.now c.recover.new.device c.in-Err.up c.in-Err.ensures.makes c.in-Err.ensures.follows
