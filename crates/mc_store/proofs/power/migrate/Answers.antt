use Rattle.std.proofs.Common.{◌≡◌}
use Rattle.mc_words.specs.model_device.specs.Orders.{answer_of}
use Rattle.mc_store.proofs.RecoverLemmas.{version_makes}
use Rattle.mc_store.proofs.power.migrate.Goals as goal

pub returns-clause-makes : goal.returns-clause-makes
returns-clause-makes g c =
    let one : c.args.layout ≡ 1 = c.if-layout-ne1.false in
    version_makes g.N.Nvm.state g.N.Nvm.wrote g.met.N.Nvm.obeys c.args.device.now c.write_root.new.device c.args.layout c.upgraded_root-root.result (answer_of c.write_root.result) one c.upgraded_root-root.ensures c.write_root.ensures.makes
