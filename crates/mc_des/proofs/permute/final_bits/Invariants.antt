use Rattle.std.proofs.Common.{◌≡◌, ◌-◌, ◌*◌, ◌/◌, ◌^◌, ◌++◌}
use Rattle.model_machine.specs.model_device.specs.Bytes.{zeros}
use Rattle.model_machine.specs.Des.{bits, pick, final}
use Rattle.mc_des.proofs.permute.final_bits.Given as goal

abbrev pub invariant-loop-i : goal.invariant-loop-i
invariant-loop-i l = bits 64 l.word ≡ pick final (bits (4 * l.i) (l.block / 2 ^ (4 * (16 - l.i))) ++ zeros (4 * (16 - l.i)))
