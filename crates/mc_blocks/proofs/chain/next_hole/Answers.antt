use Rattle.std.proofs.Common.{ℕ, ap, sym, ◌∙◌}
use Rattle.mc_words.specs.model_device.specs.Layout.{first_hole}
use Rattle.mc_blocks.specs.Blocks.{block_of, blocks_at}
use Rattle.mc_blocks.proofs.Chains.{hole_here, hole_behind}
use Rattle.mc_blocks.proofs.chain.next_hole.Goals as goal

pub returns-then-not-block : goal.returns-then-not-block
returns-then-not-block g c =
    let m = (g.N.Nvm.state c.args.device.now).words in
    sym (c.loop-block.invariant ∙ hole_here m c.loop-block.place (block_of c.in-Some.block) c.in-Some.ensures c.if-not-block.true)

pub loop-block-preserved : goal.loop-block-preserved
loop-block-preserved g c =
    let m = (g.N.Nvm.state c.args.device.now).words in
    c.loop-block.invariant
    ∙ hole_behind m c.loop-block.place (block_of c.in-Some.block) c.in-Some.ensures c.if-not-block.false
    ∙ ap (λ (p : ℕ). first_hole (blocks_at m p)) (sym c.end-place.ensures)
