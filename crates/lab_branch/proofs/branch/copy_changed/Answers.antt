use Rattle.lab_branch.proofs.BranchLemmas.{copied}
use Rattle.lab_branch.proofs.branch.copy_changed.Goals as goal

pub returns : goal.returns
returns c = copied c.args.changed.now c.args.device.now.words c.copy_at.new.words c.args.words.now c.list.result.now c.requires c.list.ensures.list c.copy_at.ensures.len c.copy_at.ensures.words
