use Rattle.std.proofs.Common.{ℕ, List, Ok, Err, subst}
use Rattle.mc_words.specs.model_device.specs.Device.{Makes}
use Rattle.mc_store.proofs.RecoverLemmas.{upgrade_writes}
use Rattle.mc_store.proofs.power.upgrade.Goals as goal

pub returns-in-Ok-clause-makes : goal.returns-in-Ok-clause-makes
returns-in-Ok-clause-makes g c =
    let m = (g.N.Nvm.state c.args.device.now).words in
    subst (λ (l : List (ℕ × List ℕ)). Makes g.N.Nvm.wrote c.args.device.now l (Ok tt) c.migrate.new.device) (upgrade_writes m c.args.shape.now.layout c.requires.card c.requires.layout) c.in-Ok.ensures.makes

pub returns-in-Err-clause-makes : goal.returns-in-Err-clause-makes
returns-in-Err-clause-makes g c =
    let m = (g.N.Nvm.state c.args.device.now).words in
    subst (λ (l : List (ℕ × List ℕ)). Makes g.N.Nvm.wrote c.args.device.now l (Err c.in-Err.stop) c.migrate.new.device) (upgrade_writes m c.args.shape.now.layout c.requires.card c.requires.layout) c.in-Err.ensures.makes
