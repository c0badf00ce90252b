-- the block is the number 0 exactly if the bytes that are left are all 0
use Rattle.std.proofs.Common.{◌≡◌, drop}
use Rattle.model_machine.specs.Blocks.{is_zero}
use Rattle.mc_rows.proofs.bytes.is_zero.Given as goal

abbrev pub invariant-loop-byte : goal.invariant-loop-byte
invariant-loop-byte l = is_zero l.block ≡ is_zero (drop l.byte-index l.block)
