use Rattle.std.proofs.Common.{ℕ, List, subst}
use Rattle.mc_words.specs.model_device.specs.Device.{Makes}
use Rattle.mc_words.specs.model_device.specs.Image.{Two}
use Rattle.mc_words.specs.model_device.specs.Stopped.{writes}
use Rattle.mc_store.proofs.ChangeLemmas.{one_placed}
use Rattle.mc_store.proofs.changes.write_shifted.Goals as goal

pub returns-then-list-eq1 : goal.returns-then-list-eq1
returns-then-list-eq1 g c =
    subst (λ (l : List (ℕ × List ℕ)). Makes g.N.Nvm.wrote c.args.device.now (writes Two l) c.write_words.result c.write_words.new.device)
    (one_placed c.args.first c.args.list.now c.if-list-eq1.true) c.write_words.ensures.makes
