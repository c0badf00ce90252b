-- the first block that is broken is one of those that are left
use Rattle.std.proofs.Common.{◌≡◌, drop}
use Rattle.lab_history.specs.Standings.{first_block}
use Rattle.lab_history.proofs.standing.broken_block.Given as goal

abbrev pub invariant-loop-i : goal.invariant-loop-i
invariant-loop-i l = first_block l.fixed (drop l.i l.balances) l.rest l.i ≡ first_block l.fn.fixed l.fn.balances l.fn.blocks 0
