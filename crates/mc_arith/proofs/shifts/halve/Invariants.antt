-- the bytes before i are halved up to the bit that is carried, and the bytes from i on are unchanged
use Rattle.std.proofs.Common.{◌≡◌, ◌+◌, ◌-◌, ◌*◌, ◌^◌, ◌≤◌, length, drop}
use Rattle.law_rows.specs.model_device.specs.Bytes.{num}
use Rattle.mc_arith.proofs.shifts.halve.Given as goal

abbrev pub invariant-loop-i : goal.invariant-loop-i
invariant-loop-i l = record { half : num l.fn.a + num (drop l.i l.a) ≡ 2 * num l.a + l.carry * 256 ^ (length l.a - l.i); bit : l.carry ≤ 1 }
