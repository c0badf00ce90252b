use Rattle.std.proofs.Common.{◌≡◌, drop, length, ◌-◌}
use Rattle.std.specs.Prelude.{bytes_eq}
use Rattle.mc_words.specs.model_device.specs.Bytes.{zeros}
use Rattle.mc_blocks.proofs.record.are_zero.Given as goal

-- all bytes are zero exactly if those that are left are
abbrev pub invariant-loop-byte : goal.invariant-loop-byte
invariant-loop-byte l = bytes_eq l.bytes (zeros (length l.bytes)) ≡ bytes_eq (drop l.byte-index l.bytes) (zeros (length l.bytes - l.byte-index))
