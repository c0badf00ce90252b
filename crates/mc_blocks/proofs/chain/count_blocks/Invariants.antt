use Rattle.std.proofs.Common.{◌≡◌, ◌+◌, ◌≤◌, ◌-◌, length}
use Rattle.mc_words.specs.model_device.specs.Card.{blocks}
use Rattle.mc_blocks.specs.Blocks.{blocks_at, used_spans, hole_spans}
use Rattle.mc_blocks.proofs.chain.count_blocks.Given as goal

-- the counts so far plus those of the blocks that are left are the counts of all
abbrev pub invariant-loop-block : goal.invariant-loop-block
invariant-loop-block g l =
    let m = (g.N.Nvm.state l.device).words in
    record {
      few : l.used + l.holes ≤ l.place;
      used : length (used_spans (blocks m)) ≡ l.used + length (used_spans (blocks_at m l.place));
      holes : length (hole_spans (blocks m)) ≡ l.holes + length (hole_spans (blocks_at m l.place));
    }

abbrev pub decreases-loop-block : goal.decreases-loop-block
decreases-loop-block g l = length (g.N.Nvm.state l.device).words - l.place
