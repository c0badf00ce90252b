-- the bytes from i on have their difference up to a borrow, and the bytes before i are unchanged
use Rattle.std.proofs.Common.{◌≡◌, ◌+◌, ◌-◌, ◌*◌, ◌^◌, ◌<◌, ◌≤◌, ℕ, length, get_or, drop}
use Rattle.law_rows.specs.model_device.specs.Bytes.{num}
use Rattle.mc_arith.proofs.subtraction.ripple_difference.Given as goal

abbrev pub invariant-loop-i : goal.invariant-loop-i
invariant-loop-i l = record { front : (k : ℕ) → k < l.i → get_or l.a k 0 ≡ get_or l.fn.a k 0; difference : num (drop l.i l.a) + num (drop l.i l.b) ≡ num (drop l.i l.fn.a) + l.borrow * 256 ^ (length l.a - l.i); bit : l.borrow ≤ 1 }
