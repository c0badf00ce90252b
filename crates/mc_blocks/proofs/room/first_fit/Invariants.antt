use Rattle.std.proofs.Common.{length}
use Rattle.mc_words.specs.model_device.specs.Card.{means}
use Rattle.mc_words.specs.model_device.specs.Layout.{gaps}
use Rattle.mc_nvm.specs.Probe.{device_of_probe}
use Rattle.mc_blocks.proofs.Search.{Search, left_of}
use Rattle.mc_blocks.proofs.room.first_fit.Given as goal

-- the result of the whole search is that over the holes that are left
abbrev pub invariant-loop-place : goal.invariant-loop-place
invariant-loop-place g l =
    let m = (g.N.Nvm.state (device_of_probe l.device)).words in
    Search m l.need (gaps (means m)) l.place l.fn.steps l.steps

abbrev pub decreases-loop-place : goal.decreases-loop-place
decreases-loop-place g l = left_of (length (g.N.Nvm.state (device_of_probe l.device)).words) l.place
