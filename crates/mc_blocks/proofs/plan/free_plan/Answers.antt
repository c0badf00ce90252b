use Rattle.std.proofs.Common.{◌≤◌, ℕ, length, ◌∙◌, ap, arith}
use Rattle.mc_words.specs.model_device.specs.Card.{means}
use Rattle.mc_words.specs.model_device.specs.Layout.{gaps}
use Rattle.mc_blocks.specs.Plans.{gaps_behind, joined_words}
use Rattle.mc_blocks.proofs.Plans.{FreeIs, free_is, free_listed, before_ends}
use Rattle.mc_words.specs.model_device.specs.Device.{sized}
use Rattle.mc_blocks.proofs.plan.free_plan.Goals as goal

pub link_at-block-requires : goal.link_at-block-requires
link_at-block-requires g c =
    (free_is (g.N.Nvm.state c.args.device.now).words c.args.place (sized c.len-size.ensures.image) c.requires.closed c.requires.laid c.requires.block).within

pub joined-hole-requires-clause-low : goal.joined-hole-requires-clause-low
joined-hole-requires-clause-low g c =
    let m = (g.N.Nvm.state c.args.device.now).words in
    let f : FreeIs m c.args.place = free_is m c.args.place (sized c.len-size.ensures.image) c.requires.closed c.requires.laid c.requires.block in
    omega (arith, f.low)

pub joined-hole-requires-clause-high : goal.joined-hole-requires-clause-high
joined-hole-requires-clause-high g c =
    let m = (g.N.Nvm.state c.args.device.now).words in
    let f : FreeIs m c.args.place = free_is m c.args.place (sized c.len-size.ensures.image) c.requires.closed c.requires.laid c.requires.block in
    omega (arith, f.ends, c.link_at-block.ensures.words)

pub free_words-requires-clause-place : goal.free_words-requires-clause-place
free_words-requires-clause-place g c =
    let m = (g.N.Nvm.state c.args.device.now).words in
    let high : length m ≤ 16384 = c.len-size.ensures.image.high in
    let ends = before_ends m c.args.place (sized c.len-size.ensures.image) c.requires.closed c.requires.laid in
    omega (arith, ends, ap (λ g. g.0) c.link_before-before.ensures.gap, ap (λ g. g.1) c.link_before-before.ensures.gap)

pub free_words-requires-clause-words : goal.free_words-requires-clause-words
free_words-requires-clause-words g c =
    let m = (g.N.Nvm.state c.args.device.now).words in
    let high : length m ≤ 16384 = c.len-size.ensures.image.high in
    let f : FreeIs m c.args.place = free_is m c.args.place (sized c.len-size.ensures.image) c.requires.closed c.requires.laid c.requires.block in
    let ends = before_ends m c.args.place (sized c.len-size.ensures.image) c.requires.closed c.requires.laid in
    let words = c.joined-hole.ensures.words ∙ ap (λ (n : ℕ). joined_words c.args.place n (gaps_behind c.args.place (gaps (means m)))) c.link_at-block.ensures.words in
    omega (arith, words, f.joined, ends, ap (λ g. g.1) c.link_before-before.ensures.gap)

pub returns-clause-plan : goal.returns-clause-plan
returns-clause-plan g c =
    let m = (g.N.Nvm.state c.args.device.now).words in
    (free_listed m c.args.place (c.link_before-before.result.place, c.link_before-before.result.words) c.joined-hole.result.place c.joined-hole.result.words c.joined-hole.result.next c.link_at-block.result.words c.free_words.result.items
    (free_is m c.args.place (sized c.len-size.ensures.image) c.requires.closed c.requires.laid c.requires.block) c.link_before-before.ensures.gap c.joined-hole.ensures.place c.link_at-block.ensures.words c.joined-hole.ensures.words c.joined-hole.ensures.next c.free_words.ensures).0

pub returns-clause-atomic : goal.returns-clause-atomic
returns-clause-atomic g c =
    let m = (g.N.Nvm.state c.args.device.now).words in
    (free_listed m c.args.place (c.link_before-before.result.place, c.link_before-before.result.words) c.joined-hole.result.place c.joined-hole.result.words c.joined-hole.result.next c.link_at-block.result.words c.free_words.result.items
    (free_is m c.args.place (sized c.len-size.ensures.image) c.requires.closed c.requires.laid c.requires.block) c.link_before-before.ensures.gap c.joined-hole.ensures.place c.link_at-block.ensures.words c.joined-hole.ensures.words c.joined-hole.ensures.next c.free_words.ensures).1.atomic
