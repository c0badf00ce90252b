use Rattle.std.proofs.Common.{sym, ◌∙◌}
use Rattle.mc_words.specs.model_device.specs.Card.{means}
use Rattle.mc_words.specs.model_device.specs.Layout.{gaps}
use Rattle.mc_nvm.specs.Probe.{device_of_probe}
use Rattle.mc_blocks.proofs.Search.{search_begins, search_on, search_found, search_ends}
use Rattle.mc_words.specs.model_device.specs.Device.{sized}
use Rattle.mc_blocks.proofs.room.first_fit.Goals as goal

pub loop-place-init : goal.loop-place-init
loop-place-init g c =
    search_begins (g.N.Nvm.state (device_of_probe c.args.device.now)).words c.args.need c.number_of-place.result c.args.steps.now c.read-root.new.steps c.read-root.result
    (sized c.len-size.ensures.image) c.requires.closed c.requires.laid c.read-root.ensures.word c.number_of-place.ensures c.read-root.ensures.ticks

pub loop-place-preserved : goal.loop-place-preserved
loop-place-preserved g c =
    let m = (g.N.Nvm.state (device_of_probe c.args.device.now)).words in
    search_on m c.args.need (gaps (means m)) c.loop-place.place c.args.steps.now c.loop-place.steps c.read-header.result c.link_of-hole.result.words c.link_of-hole.result.next c.read-header.new.steps
    c.loop-place.invariant c.loop-place-test.true c.read-header.ensures.word c.link_of-hole.ensures.words (sym c.is_long_enough.ensures ∙ c.if-is_long_enough.false) c.link_of-hole.ensures.next c.read-header.ensures.ticks

pub returns-then-is_long_enough : goal.returns-then-is_long_enough
returns-then-is_long_enough g c =
    let m = (g.N.Nvm.state (device_of_probe c.args.device.now)).words in
    let f =
    search_found m c.args.need (gaps (means m)) c.loop-place.place c.args.steps.now c.loop-place.steps c.read-header.result c.link_of-hole.result.words c.read-header.new.steps
    c.loop-place.invariant c.loop-place-test.true c.read-header.ensures.word c.link_of-hole.ensures.words (sym c.is_long_enough.ensures ∙ c.if-is_long_enough.true) c.read-header.ensures.ticks in
    record { found = f.0; ticks = f.1 }

pub returns : goal.returns
returns g c =
    let m = (g.N.Nvm.state (device_of_probe c.args.device.now)).words in
    let f = search_ends m c.args.need (gaps (means m)) c.loop-place.place c.args.steps.now c.loop-place.steps c.loop-place.invariant c.loop-place-test.false in
    record { found = sym f.0; ticks = f.1 }
