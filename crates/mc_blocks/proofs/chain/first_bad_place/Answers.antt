use Rattle.std.proofs.Common.{◌∙◌, ap, sym}
use Rattle.mc_words.specs.model_device.specs.Bytes.{be2}
use Rattle.mc_blocks.proofs.Chains.{root_wrong, root_right}
use Rattle.mc_blocks.proofs.chain.first_bad_place.Goals as goal

pub returns-then-number_of-next_hole : goal.returns-then-number_of-next_hole
returns-then-number_of-next_hole g c =
    let m = (g.N.Nvm.state c.args.device.now).words in
    sym (root_wrong m c.number_of.result c.next_hole.result (c.number_of.ensures ∙ ap (λ w. be2 w 6) c.read-root.ensures) c.next_hole.ensures c.if-number_of-next_hole.true)

pub returns : goal.returns
returns g c =
    let m = (g.N.Nvm.state c.args.device.now).words in
    c.first_bad_link.ensures ∙ sym (root_right m c.number_of.result c.next_hole.result (c.number_of.ensures ∙ ap (λ w. be2 w 6) c.read-root.ensures) c.next_hole.ensures c.if-number_of-next_hole.false)
