-- the bytes done so far, followed by the result on the others, are the result on the whole
use Rattle.std.proofs.Common.{◌≡◌, ◌++◌, take, drop}
use Rattle.law_rows.specs.model_machine.specs.Blocks.{not_block}
use Rattle.mc_arith.proofs.bitwise.not.Given as goal

abbrev pub invariant-loop-b : goal.invariant-loop-b
invariant-loop-b l = take l.b-index l.a ++ not_block (drop l.b-index l.a) ≡ not_block l.fn.a
