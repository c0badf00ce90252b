-- the bytes from i on are doubled up to a carry, and the bytes before i are unchanged
use Rattle.std.proofs.Common.{◌≡◌, ◌+◌, ◌-◌, ◌*◌, ◌^◌, ◌<◌, ◌≤◌, ℕ, length, get_or, drop}
use Rattle.law_rows.specs.model_device.specs.Bytes.{num}
use Rattle.mc_arith.proofs.shifts.double.Given as goal

abbrev pub invariant-loop-i : goal.invariant-loop-i
invariant-loop-i l = record { front : (k : ℕ) → k < l.i → get_or l.a k 0 ≡ get_or l.fn.a k 0; sum : num (drop l.i l.a) + l.carry * 256 ^ (length l.a - l.i) ≡ num (drop l.i l.fn.a) + num (drop l.i l.fn.a); bit : l.carry ≤ 1 }
