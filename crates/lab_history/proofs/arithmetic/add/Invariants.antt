-- the digits from i on have their sum with those of the number, up to a carry, and those before i are unchanged
use Rattle.std.proofs.Common.{◌≡◌, ◌+◌, ◌-◌, ◌*◌, ◌^◌, ◌<◌, ◌≤◌, ℕ, length, get_or, drop}
use Rattle.model_device.specs.Bytes.{num}
use Rattle.lab_history.proofs.arithmetic.add.Given as goal

abbrev pub invariant-loop-i : goal.invariant-loop-i
invariant-loop-i l = record {
  front : (k : ℕ) → k < l.i → get_or l.block k 0 ≡ get_or l.fn.block k 0;
  sum : num (drop l.i l.block) + l.carry * 256 ^ (length l.block - l.i) ≡ num (drop l.i l.fn.block) + num (drop (length l.number - (length l.block - l.i)) l.number);
  bit : l.carry ≤ 1;
}
