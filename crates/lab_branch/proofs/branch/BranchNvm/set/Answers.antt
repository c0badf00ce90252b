use Rattle.std.proofs.Common.{ap}
use Rattle.mc_words.specs.model_device.specs.Device.{DeviceState}
use Rattle.lab_branch.proofs.BranchLemmas.{differs_now}
use Rattle.lab_branch.proofs.branch.BranchNvm.set.Goals as goal

pub invariant_of-self : goal.invariant_of-self
invariant_of-self c =
    differs_now c.self.inside.changed c.add.new.self c.self.inside.device.words c.poke.new.self.words c.self.inside.root.items c.args.place c.args.word c.self.invariant c.add.ensures.stays c.add.ensures.added
    (ap (λ (d : DeviceState). d.words) c.poke.ensures.state)
