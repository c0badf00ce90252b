use Rattle.std.proofs.Common.{◌≤◌, ℕ, ◌+◌, length, ◌∙◌, ap, arith}
use Rattle.mc_words.specs.model_device.specs.Card.{means}
use Rattle.mc_words.specs.model_device.specs.Layout.{gaps}
use Rattle.mc_blocks.specs.Plans.{gaps_behind}
use Rattle.mc_blocks.proofs.Links.{Meets, gap_meets}
use Rattle.mc_words.specs.model_device.specs.Device.{sized}
use Rattle.mc_blocks.proofs.link.joined.Goals as goal

pub link_at-behind-requires : goal.link_at-behind-requires
link_at-behind-requires g c =
    let m = (g.N.Nvm.state c.args.device.now).words in
    let hole = c.args.hole.now in
    (gap_meets m hole.place hole.words hole.next (sized c.len-size.ensures.image) c.requires.closed c.requires.laid c.requires.low c.requires.next c.if-hole.false).within

pub overflow_add-result : goal.overflow_add-result
overflow_add-result g c =
    let m = (g.N.Nvm.state c.args.device.now).words in
    let hole = c.args.hole.now in
    let meets : Meets m hole.place hole.words hole.next (gaps_behind hole.place (gaps (means m))) = gap_meets m hole.place hole.words hole.next (sized c.len-size.ensures.image) c.requires.closed c.requires.laid c.requires.low c.requires.next c.if-hole.false in
    let high : length m ≤ 16384 = c.len-size.ensures.image.high in
    omega (arith, meets.ends, c.link_at-behind.ensures.words)

pub returns-clause-words : goal.returns-clause-words
returns-clause-words g c =
    let m = (g.N.Nvm.state c.args.device.now).words in
    let hole = c.args.hole.now in
    ap (λ (n : ℕ). hole.words + n) c.link_at-behind.ensures.words
    ∙ (gap_meets m hole.place hole.words hole.next (sized c.len-size.ensures.image) c.requires.closed c.requires.laid c.requires.low c.requires.next c.if-hole.false).words

pub returns-clause-next : goal.returns-clause-next
returns-clause-next g c =
    let m = (g.N.Nvm.state c.args.device.now).words in
    let hole = c.args.hole.now in
    c.link_at-behind.ensures.next
    ∙ (gap_meets m hole.place hole.words hole.next (sized c.len-size.ensures.image) c.requires.closed c.requires.laid c.requires.low c.requires.next c.if-hole.false).names
