use Rattle.std.proofs.Common.{◌-◌, [], length}
use Rattle.mc_words.specs.model_device.specs.Card.{blocks}
use Rattle.mc_words.specs.model_device.specs.Layout.{bad_record}
use Rattle.mc_blocks.proofs.Entries.{RecordsEntered}
use Rattle.mc_blocks.proofs.checks.first_bad_record.Given as goal

-- the first bad record is that of the blocks that are left
abbrev pub invariant-loop-block : goal.invariant-loop-block
invariant-loop-block g l =
    let m = (g.N.Nvm.state l.device).words in
    RecordsEntered m (bad_record m (blocks m) [] 0) l.place l.seen.items

abbrev pub decreases-loop-block : goal.decreases-loop-block
decreases-loop-block g l = length (g.N.Nvm.state l.device).words - l.place
