use Rattle.std.proofs.Common.{◌≡◌, ◌-◌, ◌≤◌, false, length}
use Rattle.mc_words.specs.model_device.specs.Card.{heap_start}
use Rattle.mc_words.specs.model_device.specs.Layout.{bad_block}
use Rattle.mc_blocks.specs.Blocks.{bad_from}
use Rattle.mc_blocks.proofs.checks.first_bad_header.Given as goal

-- the first bad header is that from this place on
abbrev pub invariant-loop-place : goal.invariant-loop-place
invariant-loop-place g l =
    let m = (g.N.Nvm.state l.device).words in
    record {
      within : l.place ≤ l.size;
      left : bad_block (length m) m heap_start false ≡ bad_from m l.place l.after_hole;
    }

abbrev pub decreases-loop-place : goal.decreases-loop-place
decreases-loop-place g l = l.size - l.place
