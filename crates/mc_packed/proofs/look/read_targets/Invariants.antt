use Rattle.std.proofs.Common.{◌≡◌, ◌≤◌, ◌-◌, ◌*◌, length}
use Rattle.mc_words.specs.model_device.specs.Bytes.{up}
use Rattle.mc_words.specs.model_device.specs.Image.{Two, targets, targets_2, before}
use Rattle.mc_packed.proofs.look.read_targets.Given as goal

-- the targets so far, and those of the target words that are left
abbrev pub invariant-loop-i : goal.invariant-loop-i
invariant-loop-i g l = record {
  room : length l.found.items ≤ 4 * l.i;
  all : targets Two (g.N.Nvm.state l.device).words l.count ≡ before l.found.items (targets_2 (g.N.Nvm.state l.device).words l.i (up l.count 4 - l.i) (l.count - 4 * l.i) l.least);
}
