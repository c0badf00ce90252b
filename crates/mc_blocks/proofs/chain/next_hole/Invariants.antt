use Rattle.std.proofs.Common.{◌≡◌, ◌-◌, length}
use Rattle.mc_words.specs.model_device.specs.Layout.{first_hole}
use Rattle.mc_blocks.specs.Blocks.{blocks_at}
use Rattle.mc_blocks.proofs.chain.next_hole.Given as goal

-- the first hole is that of the blocks that are left
abbrev pub invariant-loop-block : goal.invariant-loop-block
invariant-loop-block g l =
    let m = (g.N.Nvm.state l.device).words in
    first_hole (blocks_at m l.from) ≡ first_hole (blocks_at m l.place)

abbrev pub decreases-loop-block : goal.decreases-loop-block
decreases-loop-block g l = length (g.N.Nvm.state l.device).words - l.place
