use Rattle.lab_branch.proofs.BranchLemmas.{differs_wrote}
use Rattle.lab_branch.proofs.branch.BranchNvmNvm.write.Goals as goal

pub invariant_of-self : goal.invariant_of-self
invariant_of-self c =
    differs_wrote c.self.inside.changed c.add.new.self c.self.inside.device c.self.inside.root.items c.args.at c.args.word c.write.result c.write.new.self c.self.invariant c.write.ensures.wrote c.add.ensures.stays
    c.add.ensures.added
