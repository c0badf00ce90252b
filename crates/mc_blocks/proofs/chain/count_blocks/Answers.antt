use Rattle.std.proofs.Common.{◌≡◌, ◌+◌, ◌≤◌, ◌<◌, ℕ, length, sym, ap, arith}
use Rattle.mc_words.specs.model_device.specs.Card.{word}
use Rattle.mc_blocks.specs.Blocks.{block_of, blocks_at, used_spans, hole_spans}
use Rattle.mc_blocks.proofs.Steps.{block_ends}
use Rattle.mc_blocks.proofs.Chains.{used_more, hole_more}
use Rattle.mc_blocks.proofs.chain.count_blocks.Goals as goal
use Rattle.mc_blocks.proofs.chain.count_blocks.Goals.{then-block, else-block}

pub overflow_add-used : goal.overflow_add-used
overflow_add-used g c =
    let m = (g.N.Nvm.state c.args.device.now).words in
    let ends = block_ends (length m) c.loop-block.place (word m c.loop-block.place) (block_of c.in-Some.block) c.in-Some.ensures in
    let high : length m ≤ 16384 = c.len-size.ensures.image.high in
    omega (arith, ends.0, ends.3)

pub overflow_add-holes : goal.overflow_add-holes
overflow_add-holes g c =
    let m = (g.N.Nvm.state c.args.device.now).words in
    let ends = block_ends (length m) c.loop-block.place (word m c.loop-block.place) (block_of c.in-Some.block) c.in-Some.ensures in
    let high : length m ≤ 16384 = c.len-size.ensures.image.high in
    omega (arith, ends.0, ends.3)

pub loop-block-preserved : goal.loop-block-preserved
loop-block-preserved g c =
    let m = (g.N.Nvm.state c.args.device.now).words in
    let ends = block_ends (length m) c.loop-block.place (word m c.loop-block.place) (block_of c.in-Some.block) c.in-Some.ensures in
    let later : c.loop-block.place < c.end-place.result = omega (arith, ends.3, c.end-place.ensures) in
    let used : length (used_spans (blocks_at m (c.in-Some.block.place + c.in-Some.block.words))) ≡ length (used_spans (blocks_at m c.end-place.result)) = ap (λ (p : ℕ). length (used_spans (blocks_at m p))) (sym c.end-place.ensures) in
    let holes : length (hole_spans (blocks_at m (c.in-Some.block.place + c.in-Some.block.words))) ≡ length (hole_spans (blocks_at m c.end-place.result)) = ap (λ (p : ℕ). length (hole_spans (blocks_at m p))) (sym c.end-place.ensures) in
    elim c.if-block.branch [
      | then-block w ↦
          let more = used_more m c.loop-block.place (block_of c.in-Some.block) c.in-Some.ensures w.if-block.true in
          record { few = omega (arith, w.used-is, w.holes-is); used = omega (arith, w.used-is, more.0, used, c.loop-block.invariant.used); holes = omega (arith, w.holes-is, more.1, holes, c.loop-block.invariant.holes) }
      | else-block w ↦
          let more = hole_more m c.loop-block.place (block_of c.in-Some.block) c.in-Some.ensures w.if-block.false in
          record { few = omega (arith, w.used-is, w.holes-is); used = omega (arith, w.used-is, more.0, used, c.loop-block.invariant.used); holes = omega (arith, w.holes-is, more.1, holes, c.loop-block.invariant.holes) }
    ]
