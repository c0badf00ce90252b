use Rattle.std.proofs.Common.{◌≡◌, drop}
use Rattle.mc_words.specs.model_device.specs.Image.{ascend, after_all}
use Rattle.mc_packed.proofs.look.ascending.Given as goal

-- the targets that are left decide
abbrev pub invariant-loop-target : goal.invariant-loop-target
invariant-loop-target l = record {
  test : ascend l.size l.least l.targets ≡ ascend l.size l.next (drop l.target-index l.targets);
  after : after_all l.least l.targets ≡ after_all l.next (drop l.target-index l.targets);
}
