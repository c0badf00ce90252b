use Rattle.std.proofs.Common.{◌≡◌, ◌-◌, length}
use Rattle.mc_words.specs.model_device.specs.Card.{blocks}
use Rattle.mc_words.specs.model_device.specs.Layout.{bad_link}
use Rattle.mc_blocks.specs.Blocks.{blocks_at}
use Rattle.mc_blocks.proofs.chain.first_bad_link.Given as goal

-- the first wrong link is that of the blocks that are left
abbrev pub invariant-loop-block : goal.invariant-loop-block
invariant-loop-block g l =
    let m = (g.N.Nvm.state l.device).words in
    bad_link (blocks m) ≡ bad_link (blocks_at m l.place)

abbrev pub decreases-loop-block : goal.decreases-loop-block
decreases-loop-block g l = length (g.N.Nvm.state l.device).words - l.place
