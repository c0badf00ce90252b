use Rattle.std.proofs.Common.{◌-◌, ◌≡◌, ◌≤◌, length}
use Rattle.mc_words.specs.model_device.specs.Card.{blocks}
use Rattle.mc_blocks.specs.Blocks.{blocks_at}
use Rattle.mc_store.specs.Slots.{first_named}
use Rattle.mc_store.proofs.WalkLemmas.{Walk}
use Rattle.mc_store.proofs.block.find_block.Given as goal

-- the rest of the blocks decides
abbrev pub invariant-loop-place : goal.invariant-loop-place
invariant-loop-place g l =
    let m = (g.N.Nvm.state l.device).words in
    record {
      high : l.place ≤ length m;
      walk : Walk m l.place (blocks_at m l.place);
      left : first_named m (blocks m) l.aid ≡ first_named m (blocks_at m l.place) l.aid;
    }

abbrev pub decreases-loop-place : goal.decreases-loop-place
decreases-loop-place g l = l.size - l.place
