use Rattle.std.proofs.Common.{◌≡◌, ◌-◌, ◌*◌, ◌/◌, ◌^◌, ◌++◌}
use Rattle.model_machine.specs.model_device.specs.Bytes.{zeros}
use Rattle.model_machine.specs.Des.{bits, pick, choice2}
use Rattle.mc_des.specs.Words.{key_bits}
use Rattle.mc_des.proofs.permute.round_key.Given as goal

abbrev pub invariant-loop-i : goal.invariant-loop-i
invariant-loop-i l = key_bits l.word ≡ pick choice2 (bits (4 * l.i) (l.halves / 2 ^ (4 * (14 - l.i))) ++ zeros (4 * (14 - l.i)))
