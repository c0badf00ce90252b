use Rattle.std.proofs.Common.{length, ap, sym, ◌∙◌}
use Rattle.mc_words.specs.model_device.specs.Card.{Card}
use Rattle.mc_words.specs.model_device.specs.Layout.{gaps}
use Rattle.mc_blocks.proofs.Bridge.{WellLaid, laid}
use Rattle.mc_words.specs.model_device.specs.Device.{sized}
use Rattle.mc_words.specs.model_device.proofs.LayoutLemmas.{closed_means}
use Rattle.mc_blocks.proofs.image.walk.Goals as goal

pub returns-in-None-clause-used : goal.returns-in-None-clause-used
returns-in-None-clause-used g c =
    let m = (g.N.Nvm.state c.args.device.now).words in
    let l : WellLaid m = laid m (sized c.len-size.ensures.image) (sym c.in-None.ensures) in
    c.read_shape.ensures.used ∙ sym (ap (λ (k : Card). length k.apps) (closed_means m c.requires.closed) ∙ l.apps)

pub returns-in-None-clause-holes : goal.returns-in-None-clause-holes
returns-in-None-clause-holes g c =
    let m = (g.N.Nvm.state c.args.device.now).words in
    let l : WellLaid m = laid m (sized c.len-size.ensures.image) (sym c.in-None.ensures) in
    c.read_shape.ensures.holes ∙ ap length (sym (ap (λ (k : Card). gaps k) (closed_means m c.requires.closed) ∙ l.gaps))
