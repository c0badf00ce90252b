use Rattle.std.proofs.Common.{sym, ◌∙◌}
use Rattle.mc_words.specs.model_device.specs.Card.{means}
use Rattle.mc_words.specs.model_device.specs.Layout.{gaps}
use Rattle.mc_blocks.proofs.Links.{trail_begins, trail_on}
use Rattle.mc_words.specs.model_device.specs.Device.{sized}
use Rattle.mc_blocks.proofs.link.link_before.Goals as goal

pub loop-link-init : goal.loop-link-init
loop-link-init g c =
    trail_begins (g.N.Nvm.state c.args.device.now).words c.args.place c.number_of.result c.read-root.result (sized c.len-size.ensures.image) c.requires.closed c.requires.laid c.read-root.ensures c.number_of.ensures

pub loop-link-preserved : goal.loop-link-preserved
loop-link-preserved g c =
    let m = (g.N.Nvm.state c.args.device.now).words in
    trail_on m c.args.place (gaps (means m)) c.loop-link.link.place c.loop-link.link.words c.loop-link.link.next c.link_at-link.result.place c.link_at-link.result.words c.link_at-link.result.next
    c.loop-link.invariant (sym c.is_before.ensures ∙ c.loop-link-test.true) c.link_at-link.ensures.place c.link_at-link.ensures.words c.link_at-link.ensures.next
