-- the blocks differ by as much as the bytes that are left of them
use Rattle.std.proofs.Common.{◌≡◌, ◌+◌, drop}
use Rattle.law_rows.specs.model_device.specs.Bytes.{num}
use Rattle.mc_arith.proofs.subtraction.compare.Given as goal

abbrev pub invariant-loop-i : goal.invariant-loop-i
invariant-loop-i l = num l.a + num (drop l.i l.b) ≡ num l.b + num (drop l.i l.a)
