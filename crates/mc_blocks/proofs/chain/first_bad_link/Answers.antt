use Rattle.std.proofs.Common.{ℕ, ap, sym, ◌∙◌}
use Rattle.mc_words.specs.model_device.specs.Layout.{bad_link}
use Rattle.mc_blocks.specs.Blocks.{block_of, blocks_at}
use Rattle.mc_blocks.proofs.Chains.{link_wrong, link_right}
use Rattle.mc_blocks.proofs.chain.first_bad_link.Goals as goal

pub returns-then-block-due_link : goal.returns-then-block-due_link
returns-then-block-due_link g c =
    let m = (g.N.Nvm.state c.args.device.now).words in
    sym (c.loop-block.invariant ∙ link_wrong m c.loop-block.place c.due_link.result (block_of c.in-Some.block) c.in-Some.ensures c.due_link.ensures c.if-block-due_link.true)

pub loop-block-preserved : goal.loop-block-preserved
loop-block-preserved g c =
    let m = (g.N.Nvm.state c.args.device.now).words in
    c.loop-block.invariant
    ∙ link_right m c.loop-block.place c.due_link.result (block_of c.in-Some.block) c.in-Some.ensures c.due_link.ensures c.if-block-due_link.false
    ∙ ap (λ (p : ℕ). bad_link (blocks_at m p)) (sym c.end-place.ensures)
