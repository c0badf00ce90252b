-- what is a first block of each line that is left, after the blocks so far is one of each line
use Rattle.std.proofs.Common.{List, ℕ, ◌++◌, drop}
use Rattle.lab_history.specs.Standings.{AreFirst}
use Rattle.lab_history.proofs.standing.first_blocks.Given as goal

abbrev pub invariant-loop-balance : goal.invariant-loop-balance
invariant-loop-balance l = (rest : List ℕ) → AreFirst l.rules.sums.items (drop l.balance-index l.rules.balances.items) rest
    → AreFirst l.fn.rules.sums.items l.fn.rules.balances.items (l.blocks.items ++ rest)
