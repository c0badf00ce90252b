use Rattle.std.proofs.Common.{◌≡◌, ◌-◌, ◌*◌, ◌/◌, ◌^◌, ◌++◌}
use Rattle.model_machine.specs.model_device.specs.Bytes.{zeros}
use Rattle.model_machine.specs.Des.{bits, pick, choice1}
use Rattle.mc_des.proofs.permute.halves.Given as goal

abbrev pub invariant-loop-i : goal.invariant-loop-i
invariant-loop-i l = bits 56 l.word ≡ pick choice1 (bits (4 * l.i) (l.key / 2 ^ (4 * (16 - l.i))) ++ zeros (4 * (16 - l.i)))
