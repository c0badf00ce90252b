use Rattle.std.proofs.Common.{length}
use Rattle.mc_words.specs.model_device.specs.Card.{means}
use Rattle.mc_words.specs.model_device.specs.Layout.{gaps}
use Rattle.mc_blocks.proofs.Search.{left_of}
use Rattle.mc_blocks.proofs.Links.{Trail}
use Rattle.mc_blocks.proofs.link.link_before.Given as goal

-- the last link before the place is this one or one of those that are left
abbrev pub invariant-loop-link : goal.invariant-loop-link
invariant-loop-link g l =
    let m = (g.N.Nvm.state l.device).words in
    Trail m l.place (gaps (means m)) l.link.place l.link.words l.link.next

abbrev pub decreases-loop-link : goal.decreases-loop-link
decreases-loop-link g l = left_of (length (g.N.Nvm.state l.device).words) l.link.next
