use Rattle.std.proofs.Common.{◌≡◌, ◌+◌, ◌*◌, ◌-◌, ◌^◌, length, drop}
use Rattle.model_device.specs.Bytes.{num}
use Rattle.prove_works.proofs.numbers.number_of.Given as goal

-- the number so far before the bytes that are left is the whole one
abbrev pub invariant-loop-byte : goal.invariant-loop-byte
invariant-loop-byte l = l.number * 256 ^ (length l.bytes - l.byte-index) + num (drop l.byte-index l.bytes) ≡ num l.bytes
