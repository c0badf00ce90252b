use Rattle.std.proofs.Common.{◌≡◌, ◌+◌, ◌≤◌, ◌++◌, length}
use Rattle.mc_words.specs.model_device.specs.Bytes.{up}
use Rattle.mc_words.specs.model_device.specs.Card.{section}
use Rattle.lab_branch.proofs.section.read_section.Given as goal

-- the bytes that were read, and then the section that is left
abbrev pub invariant-loop-left : goal.invariant-loop-left
invariant-loop-left g l =
    let m = (g.N.Nvm.state l.device).words in
    record {
      within : l.place + up l.left 8 ≤ length m;
      bytes : l.bytes.items ++ section m l.place l.left ≡ section m l.fn.first l.fn.count;
    }

abbrev pub decreases-loop-left : goal.decreases-loop-left
decreases-loop-left g l = l.left
