use Rattle.std.proofs.Common.{◌≤◌, length, arith}
use Rattle.mc_blocks.proofs.Plans.{TakeIs, take_is, take_listed}
use Rattle.mc_words.specs.model_device.specs.Device.{sized}
use Rattle.mc_blocks.proofs.plan.take_plan.Goals as goal

pub link_at-hole-requires : goal.link_at-hole-requires
link_at-hole-requires g c =
    (take_is (g.N.Nvm.state c.args.device.now).words c.args.place c.args.need (sized c.len-size.ensures.image) c.requires.closed c.requires.laid c.requires.some c.requires.hole).within

pub take_words-requires : goal.take_words-requires
take_words-requires g c =
    let m = (g.N.Nvm.state c.args.device.now).words in
    let t : TakeIs m c.args.place c.args.need = take_is m c.args.place c.args.need (sized c.len-size.ensures.image) c.requires.closed c.requires.laid c.requires.some c.requires.hole in
    let high : length m ≤ 16384 = c.len-size.ensures.image.high in
    omega (arith, t.ends, c.link_at-hole.ensures.place, c.link_at-hole.ensures.words)

pub returns-clause-plan : goal.returns-clause-plan
returns-clause-plan g c =
    let m = (g.N.Nvm.state c.args.device.now).words in
    (take_listed m c.args.place c.args.need (c.link_before-before.result.place, c.link_before-before.result.words) c.link_at-hole.result.place c.link_at-hole.result.words c.link_at-hole.result.next c.take_words.result.items
    (take_is m c.args.place c.args.need (sized c.len-size.ensures.image) c.requires.closed c.requires.laid c.requires.some c.requires.hole) c.link_before-before.ensures.gap c.link_at-hole.ensures.place c.link_at-hole.ensures.words c.link_at-hole.ensures.next c.take_words.ensures).0

pub returns-clause-atomic : goal.returns-clause-atomic
returns-clause-atomic g c =
    let m = (g.N.Nvm.state c.args.device.now).words in
    (take_listed m c.args.place c.args.need (c.link_before-before.result.place, c.link_before-before.result.words) c.link_at-hole.result.place c.link_at-hole.result.words c.link_at-hole.result.next c.take_words.result.items
    (take_is m c.args.place c.args.need (sized c.len-size.ensures.image) c.requires.closed c.requires.laid c.requires.some c.requires.hole) c.link_before-before.ensures.gap c.link_at-hole.ensures.place c.link_at-hole.ensures.words c.link_at-hole.ensures.next c.take_words.ensures).1.atomic
