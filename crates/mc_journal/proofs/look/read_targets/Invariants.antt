use Rattle.std.proofs.Common.{◌≡◌, ◌-◌, length}
use Rattle.mc_words.specs.model_device.specs.Image.{One, targets, targets_1, before}
use Rattle.mc_journal.proofs.look.read_targets.Given as goal

-- the targets so far, and those of the pairs that are left
abbrev pub invariant-loop-i : goal.invariant-loop-i
invariant-loop-i g l = record {
  room : length l.found.items ≡ l.i;
  all : targets One (g.N.Nvm.state l.device).words l.count ≡ before l.found.items (targets_1 (g.N.Nvm.state l.device).words l.i (l.count - l.i));
}
