-- the digits from i on have their difference with those of the number, up to a borrow, and those before i are unchanged
use Rattle.std.proofs.Common.{◌≡◌, ◌+◌, ◌-◌, ◌*◌, ◌^◌, ◌<◌, ◌≤◌, ℕ, length, get_or, drop}
use Rattle.model_device.specs.Bytes.{num}
use Rattle.lab_history.proofs.arithmetic.take.Given as goal

abbrev pub invariant-loop-i : goal.invariant-loop-i
invariant-loop-i l = record {
  front : (k : ℕ) → k < l.i → get_or l.block k 0 ≡ get_or l.fn.block k 0;
  difference : num (drop l.i l.block) + num (drop (length l.number - (length l.block - l.i)) l.number) ≡ num (drop l.i l.fn.block) + l.borrow * 256 ^ (length l.block - l.i);
  bit : l.borrow ≤ 1;
}
