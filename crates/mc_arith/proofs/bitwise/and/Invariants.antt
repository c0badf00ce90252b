-- the bytes done so far, followed by the result on the others, are the result on the whole
use Rattle.std.proofs.Common.{◌≡◌, ◌++◌, take, drop}
use Rattle.law_rows.specs.model_machine.specs.Blocks.{and_blocks}
use Rattle.mc_arith.proofs.bitwise.and.Given as goal

abbrev pub invariant-loop-i : goal.invariant-loop-i
invariant-loop-i l = take l.i l.a ++ and_blocks (drop l.i l.a) (drop l.i l.b) ≡ and_blocks l.fn.a l.b
