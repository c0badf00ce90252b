use Rattle.std.proofs.Common.{◌≡◌, ◌+◌, ◌-◌, ◌*◌, ◌^◌, length, drop}
use Rattle.std.specs.Prelude.{◌%◌}
use Rattle.model_device.specs.Bytes.{num}
use Rattle.prove_sums.proofs.numbers.low_number.Given as goal

-- the number so far, before the bytes that are left, is all
abbrev pub invariant-loop-byte : goal.invariant-loop-byte
invariant-loop-byte l =
    (l.number * 256 ^ (length l.bytes - l.byte-index) + num (drop l.byte-index l.bytes)) % 256 ^ 16 ≡ num l.bytes % 256 ^ 16
