use Rattle.std.proofs.Common.{◌≡◌}
use Rattle.mc_words.specs.model_device.specs.Device.{blank_words}
use Rattle.lab_branch.proofs.BranchLemmas.{blank_not}
use Rattle.lab_branch.proofs.branch.BranchNvm.new.Goals as goal

pub invariant_of-result : goal.invariant_of-result
invariant_of-result c =
    let root : c.in_ok-blank.field-0.items ≡ blank_words 8192 = c.in_ok-blank.ensures in
    blank_not c.in_ok-new.field-0 c.in_ok-device.device c.in_ok-blank.field-0.items c.in_ok-new.ensures c.in_ok-device.ensures root

pub returns : goal.returns
returns c =
    let root : c.in_ok-blank.field-0.items ≡ blank_words 8192 = c.in_ok-blank.ensures in
    λ i. record { device = c.in_ok-device.ensures i; root = root i }
