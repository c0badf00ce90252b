-- the bytes done so far, followed by the result on the others, are the result on the whole
use Rattle.std.proofs.Common.{◌≡◌, ◌++◌, take, drop}
use Rattle.law_rows.specs.model_machine.specs.Blocks.{xor_blocks}
use Rattle.mc_arith.proofs.bitwise.xor.Given as goal

abbrev pub invariant-loop-i : goal.invariant-loop-i
invariant-loop-i l = take l.i l.a ++ xor_blocks (drop l.i l.a) (drop l.i l.b) ≡ xor_blocks l.fn.a l.b
