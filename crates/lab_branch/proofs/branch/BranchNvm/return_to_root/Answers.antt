use Rattle.std.proofs.Common.{ap, ◌∙◌}
use Rattle.mc_words.specs.model_device.specs.Device.{DeviceState}
use Rattle.lab_branch.specs.Branches.{BranchState}
use Rattle.lab_branch.proofs.BranchLemmas.{returned_by}
use Rattle.lab_branch.proofs.branch.BranchNvm.return_to_root.Goals as goal

pub returns-clause-words : goal.returns-clause-words
returns-clause-words c =
    returned_by c.self.inside.changed c.self.inside.device.words c.put_at.new.device.words c.self.inside.root.items c.disarm.new.self.words c.as_slice.result.now c.list.result.now c.self.invariant
    (ap (λ (d : DeviceState). d.words) c.disarm.ensures.state) c.as_slice.ensures.value c.list.ensures.list c.put_at.ensures.len c.put_at.ensures.words
    ∙ ap (λ (s : BranchState). s.root) c.self.view_is
