use Rattle.std.proofs.Common.{◌≡◌, sym, subst}
use Rattle.std.specs.Prelude.{true}
use Rattle.law_explore_text.specs.model_play.specs.DeckGrammar.{DeckLine}
use Rattle.mc_script.specs.Players.{device_of}
use Rattle.lab_search.specs.Playing.{PlaysAs}
use Rattle.lab_search.proofs.RestoringLemmas.{powered, powered_fits, put_back}
use Rattle.lab_search.proofs.making.restore.Goals as goal

pub put_live-requires-clause-fits : goal.put_live-requires-clause-fits
put_live-requires-clause-fits g c =
    let state = g.N.Nvm.state in
    let bench = g.N.Bench.bench in
    let p = c.args.player.now in
    let q = c.play-set.new.player in
    let r = c.play-powered.new.player in
    let m = (state (device_of p)).words in
    let first = subst (λ (l : DeckLine). PlaysAs state bench p l c.play-set.result q) c.line.ensures.line c.play-set.ensures.plays in
    let some = c.requires.shown in
    powered_fits state bench r m c.args.budget.now some.0 some.1 c.args.saved.now
    (powered state bench p q r m c.args.budget.now c.play-set.result c.play-powered.result some.0 some.1 c.args.saved.now c.requires.start c.requires.steady first c.play-powered.ensures.plays some.2) some.2

pub returns-clause-at : goal.returns-clause-at
returns-clause-at g c b l shown =
    let state = g.N.Nvm.state in
    let bench = g.N.Bench.bench in
    let p = c.args.player.now in
    let q = c.play-set.new.player in
    let r = c.play-powered.new.player in
    let m = (state (device_of p)).words in
    let first = subst (λ (k : DeckLine). PlaysAs state bench p k c.play-set.result q) c.line.ensures.line c.play-set.ensures.plays in
    put_back state bench r c.put_live.new.self m c.args.budget.now b l c.args.saved.now
    (powered state bench p q r m c.args.budget.now c.play-set.result c.play-powered.result b l c.args.saved.now c.requires.start c.requires.steady first c.play-powered.ensures.plays shown) shown c.put_live.ensures.at

pub returns-clause-steady : goal.returns-clause-steady
returns-clause-steady g c =
    let state = g.N.Nvm.state in
    let bench = g.N.Bench.bench in
    let p = c.args.player.now in
    let q = c.play-set.new.player in
    let r = c.play-powered.new.player in
    let m = (state (device_of p)).words in
    let first = subst (λ (k : DeckLine). PlaysAs state bench p k c.play-set.result q) c.line.ensures.line c.play-set.ensures.plays in
    let some = c.requires.shown in
    let h = powered state bench p q r m c.args.budget.now c.play-set.result c.play-powered.result some.0 some.1 c.args.saved.now c.requires.start c.requires.steady first c.play-powered.ensures.plays some.2 in
    subst (λ d. (bench d).steady ≡ true) (sym c.put_live.ensures.device) h.steady
