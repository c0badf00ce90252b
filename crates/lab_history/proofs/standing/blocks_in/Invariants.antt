-- the blocks so far, and those of the lines that are left, are all blocks
use Rattle.std.proofs.Common.{◌≡◌, ◌++◌, drop}
use Rattle.lab_history.specs.Standings.{blocks_of}
use Rattle.lab_history.proofs.standing.blocks_in.Given as goal

abbrev pub invariant-loop-balance : goal.invariant-loop-balance
invariant-loop-balance l = l.blocks.items ++ blocks_of l.fixed (drop l.balance-index l.balances) ≡ blocks_of l.fn.fixed l.fn.balances
