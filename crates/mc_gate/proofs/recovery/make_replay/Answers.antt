use Rattle.std.proofs.Common.{◌≡◌, ℕ, List, true, length, subst, sym, ◌∙◌, ap}
use Rattle.std.specs.List.{AllByRecursion}
use Rattle.mc_words.specs.model_device.specs.Image.{within}
use Rattle.mc_words.specs.model_device.proofs.LookLemmas.{GoodPending, good_pending}
use Rattle.mc_gate.specs.Layouts.{journal_of}
use Rattle.mc_gate.specs.Look.{look_of}
use Rattle.mc_gate.specs.declared.look.Found.{Found}
use Rattle.mc_gate.proofs.recovery.make_replay.Goals as goal

pub replay_all-requires-clause-targets : goal.replay_all-requires-clause-targets
replay_all-requires-clause-targets g c =
    let j = journal_of c.args.layout in
    let m = (g.N.Nvm.state c.args.device.now).words in
    let good : GoodPending j j m c.in-Pending.list.items = good_pending j j m c.in-Pending.list.items (sym c.requires.found ∙ ap (λ (f : Found). look_of j f) c.in-Pending.is) in
    subst (λ (l : List (ℕ × List ℕ)). AllByRecursion {X = ℕ × List ℕ} (λ p. within (length m) p.0 ≡ true) l) (sym c.as_slice.ensures.value) good.all
