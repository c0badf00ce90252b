use Rattle.std.proofs.Common.{ℕ, refl, sym, subst}
use Rattle.law_explore_text.specs.model_play.specs.Play.{AfterPower}
use Rattle.mc_script.specs.Players.{device_of, IsPlayerAt}
use Rattle.lab_search.specs.Shown.{settled_play}
use Rattle.lab_search.proofs.TryLemmas.{tried_as}
use Rattle.lab_search.proofs.making.try_on.Goals as goal

pub returns-clause-tried : goal.returns-clause-tried
returns-clause-tried g c k m shown budget is card can =
    let state = g.N.Nvm.state in
    let bench = g.N.Bench.bench in
    let q = c.restore.new.player in
    let r = c.make-made.new.player in
    let at = subst (λ (n : ℕ). IsPlayerAt state bench q (AfterPower (settled_play k.base k.live n))) (sym budget) (c.restore.ensures.at k.base k.live shown) in
    tried_as state bench k m c.args.manner r (device_of r) c.args.candidate.now.ons.now c.args.candidate.now.applies.now c.args.counts.now c.make-made.new.counts c.make-made.new.text.items
    c.make-made.result c.live_after.result refl card shown.base can (c.make-made.ensures.made k m at c.restore.ensures.steady shown.base is card can) c.live_after.ensures.shows
