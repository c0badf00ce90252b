-- the block is the number 0 exactly if the bytes that are left are all 0
use Rattle.std.proofs.Common.{◌≡◌, drop}
use Rattle.law_rows.specs.model_machine.specs.Blocks.{is_zero}
use Rattle.mc_arith.proofs.flags.are_zeros.Given as goal

abbrev pub invariant-loop-b : goal.invariant-loop-b
invariant-loop-b l = is_zero l.block ≡ is_zero (drop l.b-index l.block)
